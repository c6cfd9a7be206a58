-- What the line of a request says, by its words (protocol.txt). The refusals are this project's own.
use Rattle.std.specs.Prelude.{ℕ, ◌+◌, Bool, true, false, not, nat_le, Option, Some, None, List, [], ◌∷◌, codes, if◌then◌else◌}
use Rattle.std.specs.{List.list_all, Option.unwrap_or, Str.bytes_eq}
use Rattle.mc_protocol.specs.{Decimals.MAX_32, Decimals.MAX_64, Legal.shows_number, Lines.Word, Lines.Words, Lines.words_of}
use Rattle.mc_protocol.specs.{declared.lines.Separator.TheVariants.Space, declared.request.Request.Request, declared.request.Verb.Verb}
use Rattle.mc_protocol.specs.declared.request.Verb.TheVariants as verb
use Rattle.mc_reader.specs.AskWords.{number_in, time_in, is_request_key}
use Rattle.mc_reader.specs.declared.ask.Refuse.TheVariants.{Unknown, BadLine, Expiry, TooLarge}
use Rattle.mc_reader.specs.declared.ask_said.Command.TheVariants.{Retrieves, Stores, Swaps, Counts, Deletes, Touches, Quits}
use Rattle.mc_reader.specs.declared.limits.TheConstants.{REQUEST_BODY_LIMIT, ANNOUNCED_LIMIT}
use Rattle.mc_reader.specs.{Asks.Asking, Asks.One, Asks.Many, Asks.Quit, Asks.Refused, Lines.text_of, declared.ask.Refuse.Refuse}
use Rattle.mc_reader.specs.{declared.ask_said.Command.Command, declared.ask_said.StoreLine.StoreLine}

-- what a line says: all that is asked; that a block follows; or that the request is refused, and so is
-- this number of bytes after the line
pub data LineSays : Type 0 where
  Whole : Asking → LineSays
  Block : StoreLine → LineSays
  Skips : Refuse → ℕ → LineSays

abbrev pub refused : Refuse → LineSays
refused refuse = Whole (Refused refuse)

-- a request without a body
abbrev pub bare : Verb → Word → ℕ → Request
bare verb key number = record { verb = verb; key = key; flags = 0; body = []; number = number }

-- the command of a line, by its first word
unfoldable pub command_of : Word → Option Command
command_of word =
    if bytes_eq word (codes "get") then Some (Retrieves verb.Get)
    else if bytes_eq word (codes "set") then Some (Stores verb.Set)
    else if bytes_eq word (codes "gets") then Some (Retrieves verb.Gets)
    else if bytes_eq word (codes "add") then Some (Stores verb.Add)
    else if bytes_eq word (codes "replace") then Some (Stores verb.Replace)
    else if bytes_eq word (codes "append") then Some (Stores verb.Append)
    else if bytes_eq word (codes "prepend") then Some (Stores verb.Prepend)
    else if bytes_eq word (codes "cas") then Some Swaps
    else if bytes_eq word (codes "incr") then Some (Counts verb.Incr)
    else if bytes_eq word (codes "decr") then Some (Counts verb.Decr)
    else if bytes_eq word (codes "delete") then Some Deletes
    else if bytes_eq word (codes "touch") then Some Touches
    else if bytes_eq word (codes "quit") then Some Quits
    else None

-- nothing is left but the word noreply, or not even that; whether it is there
unfoldable pub ending : Words → Option Bool
ending [] = Some false
ending (word ∷ []) = if bytes_eq word (codes "noreply") then Some true else None
ending (word ∷ next ∷ words) = None

-- get and gets: one key or more
unfoldable pub retrieval : Verb → Words → LineSays
retrieval verb [] = refused BadLine
retrieval verb (key ∷ []) = if is_request_key key then Whole (One (bare verb key 0) false) else refused BadLine
retrieval verb (key ∷ next ∷ keys) =
    if list_all is_request_key (key ∷ next ∷ keys) then Whole (Many (shows_number verb) (key ∷ next ∷ keys)) else refused BadLine

-- where its words are right: an expiry goes before a body that is too long, and both skip the block
abbrev pub stores : StoreLine → Bool → LineSays
stores line never =
    if not never then Skips Expiry (line.body_len + 2)
    else if not (nat_le line.body_len REQUEST_BODY_LIMIT) then Skips TooLarge (line.body_len + 2)
    else Block line

abbrev pub storage_says : Verb → Word → Option ℕ → Option Bool → Option ℕ → Option ℕ → Option Bool → LineSays
storage_says verb key (Some flags) (Some never) (Some body_len) (Some number) (Some noreply) =
    if is_request_key key
    then stores (record { verb = verb; key = key; flags = flags; number = number; noreply = noreply; body_len = body_len }) never
    else refused BadLine
storage_says verb key _ _ _ _ _ = refused BadLine

unfoldable pub storage : Verb → Words → LineSays
storage verb (key ∷ flags ∷ time ∷ bytes ∷ words) =
    storage_says verb key (number_in MAX_32 flags) (time_in time) (number_in ANNOUNCED_LIMIT bytes) (Some 0) (ending words)
storage verb words = refused BadLine

unfoldable pub swapping : Words → LineSays
swapping (key ∷ flags ∷ time ∷ bytes ∷ number ∷ words) =
    storage_says verb.Cas key (number_in MAX_32 flags) (time_in time) (number_in ANNOUNCED_LIMIT bytes)
    (number_in MAX_64 number) (ending words)
swapping words = refused BadLine

-- a key, perhaps a number, and perhaps noreply
abbrev pub bare_says : Verb → Word → Option ℕ → Option Bool → LineSays
bare_says verb key (Some number) (Some noreply) =
    if is_request_key key then Whole (One (bare verb key number) noreply) else refused BadLine
bare_says verb key _ _ = refused BadLine

unfoldable pub counting : Verb → Words → LineSays
counting verb (key ∷ number ∷ words) = bare_says verb key (number_in MAX_64 number) (ending words)
counting verb words = refused BadLine

-- a 0 may stand after the key
unfoldable pub deletion : Words → LineSays
deletion [] = refused BadLine
deletion (key ∷ []) = bare_says verb.Delete key (Some 0) (Some false)
deletion (key ∷ word ∷ words) =
    if bytes_eq word (codes "0") then bare_says verb.Delete key (Some 0) (ending words)
    else bare_says verb.Delete key (Some 0) (ending (word ∷ words))

abbrev pub touch_says : Word → Option Bool → Option Bool → LineSays
touch_says key (Some never) (Some noreply) =
    if is_request_key key then (if never then Whole (One (bare verb.Touch key 0) noreply) else refused Expiry) else refused BadLine
touch_says key _ _ = refused BadLine

unfoldable pub touch : Words → LineSays
touch (key ∷ time ∷ words) = touch_says key (time_in time) (ending words)
touch words = refused BadLine

unfoldable pub quitting : Words → LineSays
quitting [] = Whole Quit
quitting (word ∷ words) = refused BadLine

abbrev pub command_says : Option Command → Words → LineSays
command_says None words = refused Unknown
command_says (Some (Retrieves verb)) words = retrieval verb words
command_says (Some (Stores verb)) words = storage verb words
command_says (Some Swaps) words = swapping words
command_says (Some (Counts verb)) words = counting verb words
command_says (Some Deletes) words = deletion words
command_says (Some Touches) words = touch words
command_says (Some Quits) words = quitting words

unfoldable pub words_say : Words → LineSays
words_say [] = refused Unknown
words_say (word ∷ words) = command_says (command_of word) words

-- the bytes before a CR that ends the line, or all of it
abbrev pub without_cr : List ℕ → List ℕ
without_cr line = unwrap_or (text_of line) line

-- what a line without its LF says
abbrev pub line_says : List ℕ → LineSays
line_says line = words_say (words_of Space (without_cr line))
