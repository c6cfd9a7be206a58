-- What the readers of words, of lines and of whole texts answer. No public contract cites these: the other definitions say
-- what a text spells, and the proofs join the two.
use Rattle.std.specs.Prelude.{◌≡◌, ◌≢◌, ℕ, ◌+◌, ◌-◌, ◌==◌, nat_lt, Bool, false, not, ◌&&◌, Option, Some, None, Result, Ok, Err, List, []}
use Rattle.std.specs.Prelude.{◌∷◌, ◌++◌, length, take, drop, get_or, codes, if◌then◌else◌, true, flat_map}
use Rattle.std.specs.List.{list_any, position}
use Rattle.std.specs.{Result.result_ok, Str.bytes_eq}
use Rattle.mc_protocol.specs.Words.{verb_of, class_of_word, actor_word, class_index}
use Rattle.mc_protocol.specs.{Fields.fields_of, Lines.begins_with, Lines.words_of_text, Lines.is_only, Decimals.MAX_32, Decimals.MAX_64}
use Rattle.mc_protocol.specs.{Decimals.decimal_in, Names.index_of, Names.is_name, Names.is_new}
use Rattle.mc_script_text.specs.Values.{Actor, Fields, Verb, KEYS_LIMIT, KEY_BYTES_LIMIT, REQUESTS_LIMIT, REQUEST_BYTES_LIMIT, Word, Words}
use Rattle.mc_script_text.specs.Values.{Entry, Mark, Sign, ScriptFault, Parts, NAME_BYTES_LIMIT, VARIABLES_LIMIT, Keyword, Budget, Argument}
use Rattle.mc_script_text.specs.Values.{Template, Version, WordFault, Sections, SpaceOrTab, Class, Label}
use Rattle.mc_script_text.specs.Marks.{may_stand, are_twins, is_number_jump}
use Rattle.mc_script_text.specs.Steps.{in_front, labels_from, jump_named, steps_from}
use Rattle.mc_script_text.specs.Values.fields
use Rattle.mc_script_text.specs.Values.entry
use Rattle.mc_script_text.specs.Values.mark
use Rattle.mc_script_text.specs.Values.sign
use Rattle.mc_script_text.specs.Values.kind
use Rattle.mc_script_text.specs.Values.keyword
use Rattle.mc_script_text.specs.Values.argument
use Rattle.mc_script_text.specs.Values.version
use Rattle.mc_script_text.specs.Values.actor
use Rattle.mc_script.specs.Script.{Names, may_be_declared, Section, Script}
use Rattle.mc_script.specs.Chains.{◌>>=◌}
use Rattle.mc_script.specs.{ScriptWords.is_body, ScriptWords.is_label_name, Versions.flags_limit, Versions.steps_limit}

-- what was returned is what reading gives, unless memory ran out
abbrev pub Gives : {V : Type 0} → Result V WordFault → Option V → Type 0
Gives (Ok v) read = read ≡ Some v
Gives (Err fault) read = fault.kind ≢ kind.OutOfMemory → read ≡ None

-- the same of what is seen of it
abbrev pub Shows : {X Y : Type 0} → (X → Y) → Result X WordFault → Option Y → Type 0
Shows view (Ok x) read = read ≡ Some (view x)
Shows view (Err fault) read = fault.kind ≢ kind.OutOfMemory → read ≡ None

-- the same, where the fault has the number of its line
abbrev pub Says : {X Y : Type 0} → (X → Y) → Result X ScriptFault → Option Y → Type 0
Says view (Ok x) read = read ≡ Some (view x)
Says view (Err fault) read = fault.kind ≢ kind.OutOfMemory → read ≡ None

-- ---- words

-- the number that a word spells
abbrev pub number_in : ℕ → Word → Option ℕ
number_in greatest word = result_ok (decimal_in greatest word)

abbrev pub body_in : Word → Option (List ℕ)
body_in [] = None
body_in (first ∷ body) = if first == 61 then (if is_body body then Some body else None) else None

-- ---- declarations

-- the version with this word
abbrev pub version_of_word : Word → Option Version
version_of_word word =
    if bytes_eq word (codes "1") then Some version.One else (if bytes_eq word (codes "2") then Some version.Two else None)

-- the version of a header
abbrev pub header_version : Words → Option Version
header_version (word ∷ number ∷ []) = if bytes_eq word (codes "script") then version_of_word number else None
header_version _ = None

-- the line that must follow, and those after it
abbrev pub line_in : List Words → Option (Words × List Words)
line_in [] = None
line_in (line ∷ lines) = Some (line, lines)

abbrev pub header_in : List Words → Option (Version × List Words)
header_in lines = line_in lines >>= λ l. header_version l.0 >>= λ v. Some (v, l.1)

-- the name may be declared after these
abbrev pub may_follow_names : ℕ → ℕ → List Word → Word → Bool
may_follow_names limit bytes names name = is_name bytes name && is_new names name && nat_lt (length names) limit

-- the names after the first word of a line
unfoldable pub names_in : ℕ → ℕ → Words → Option (List Word)
names_in limit bytes [] = None
names_in limit bytes (name ∷ names) = if may_be_declared limit bytes (name ∷ names) then Some (name ∷ names) else None

abbrev pub keys_in : List Words → Option (List Word × List Words)
keys_in lines =
    line_in lines >>= λ l.
    if begins_with (codes "keys") l.0 then (names_in KEYS_LIMIT KEY_BYTES_LIMIT (drop 1 l.0) >>= λ names. Some (names, l.1)) else None

-- the names that this line declares, where it begins with the word; otherwise none, and it is still to be read
abbrev pub optional_in : Word → ℕ → Words → List Words → Option (List Word × Words × List Words)
optional_in word limit line lines =
    if begins_with word line then (names_in limit NAME_BYTES_LIMIT (drop 1 line) >>= λ names. line_in lines >>= λ l. Some (names, l.0, l.1))
    else Some ([], line, lines)

abbrev pub numbers_in : Words → Option Budget
numbers_in (requests ∷ bytes ∷ []) =
    number_in REQUESTS_LIMIT requests >>= λ r. number_in REQUEST_BYTES_LIMIT bytes >>= λ b. Some (record { requests = r; bytes = b })
numbers_in _ = None

unfoldable pub budget_in : Actor → Words → Option Budget
budget_in actor (word ∷ section ∷ numbers) =
    if bytes_eq word (codes "budget") then (if bytes_eq section (actor_word actor) then numbers_in numbers else None) else None
budget_in actor _ = None

-- ---- requests

abbrev pub variable_named : Names → Word → Option Argument
variable_named names name = index_of names.vars name >>= λ v. Some (argument.Variable v)

abbrev pub unique_in : Names → Word → Option Argument
unique_in names [] = None
unique_in names (first ∷ name) = if first == 36 then variable_named names name else None

abbrev pub amount_in : Names → Word → Option Argument
amount_in names [] = None
amount_in names (first ∷ name) =
    if first == 36 then variable_named names name else (number_in MAX_64 (first ∷ name) >>= λ n. Some (argument.Number n))

abbrev pub item_in : Words → Option Parts
item_in (flags ∷ body ∷ _) =
    number_in MAX_32 flags >>= λ f. body_in body >>= λ b. Some (record { flags = f; argument = argument.Nothing; body = b })
item_in _ = None

abbrev pub swap_in : Names → Words → Option Parts
swap_in names (flags ∷ body ∷ unique ∷ _) =
    number_in MAX_32 flags >>= λ f. body_in body >>= λ b. unique_in names unique >>= λ u. Some
    (record { flags = f; argument = u; body = b })
swap_in names _ = None

abbrev pub increment_in : Names → Words → Option Parts
increment_in names [] = None
increment_in names (amount ∷ _) = amount_in names amount >>= λ a. Some (record { flags = 0; argument = a; body = [] })

abbrev pub nothing : Parts
nothing = record { flags = 0; argument = argument.Nothing; body = [] }

-- what stands between the key and the marks
unfoldable pub fields_in : Names → Fields → Words → Option Parts
fields_in names fields.Item words = item_in words
fields_in names fields.Swap words = swap_in names words
fields_in names fields.Amount words = increment_in names words
fields_in names _ words = Some nothing

-- how many words that is
abbrev pub field_count : Fields → ℕ
field_count fields.Item = 2
field_count fields.Swap = 3
field_count fields.Amount = 1
field_count _ = 0

-- ---- marks

abbrev pub flag_in : Names → Sign → Word → Option Mark
flag_in names s name = index_of names.flags name >>= λ f. Some (mark.Flag s f)

abbrev pub jump_in : Word → Option Mark
jump_in word =
    position (λ byte. byte == 58) word >>= λ colon. class_of_word (take colon word) >>= λ c. Some (mark.Jump c (drop (colon + 1) word))

abbrev pub sign_of : ℕ → Option Sign
sign_of byte =
    if byte == 63 then Some sign.RequireSet
    else (if byte == 33 then Some sign.RequireClear
    else (if byte == 43 then Some sign.Sets else (if byte == 45 then Some sign.Clears else None)))

abbrev pub flag_or_jump : Names → Option Sign → Word → Word → Option Mark
flag_or_jump names (Some s) name word = flag_in names s name
flag_or_jump names None name word = jump_in word

abbrev pub bind_mark_in : Names → Word → Option Mark
bind_mark_in names name = index_of names.vars name >>= λ v. Some (mark.Bind v)

abbrev pub mark_in : Names → Word → Option Mark
mark_in names [] = None
mark_in names (first ∷ name) =
    if first == 62 then bind_mark_in names name else flag_or_jump names (sign_of first) name (first ∷ name)

-- the word begins with `>`
abbrev pub binds : Word → Bool
binds [] = false
binds (first ∷ name) = first == 62

-- the mark may stand after these, on a line that binds a variable or not
abbrev pub may_join : Verb → Bool → List Mark → Mark → Bool
may_join v bound marks m = may_stand v m && not (bound && is_number_jump m) && not (list_any (λ other. are_twins other m) marks)

-- a mark, where it may stand after these
abbrev pub joining : Verb → Bool → List Mark → Option Mark → Option Mark
joining v bound marks read = read >>= λ m. if may_join v bound marks m then Some m else None

-- the marks of these words, after those that were read
abbrev pub marks_in : Names → Verb → Bool → List Mark → Words → Option (List Mark)
marks_in names v bound marks [] = Some marks
marks_in names v bound marks (word ∷ words) =
    joining v bound marks (mark_in names word) >>= λ m. marks_in names v bound (marks ++ m ∷ []) words

-- ---- the lines of a section

abbrev pub template_of : Verb → ℕ → Parts → Template
template_of v key parts = record {
  verb = v;
  key = key;
  flags = parts.flags;
  argument = parts.argument;
  body = parts.body;
  require_set = 0;
  require_clear = 0;
  sets = 0;
  clears = 0;
}

abbrev pub request_in : Names → Verb → Word → Words → Option Entry
request_in names v key words =
    index_of names.keys key >>= λ k. fields_in names (fields_of v) words
    >>= λ parts. marks_in names v (list_any binds (drop (field_count (fields_of v)) words)) [] (drop (field_count (fields_of v)) words)
    >>= λ marks. Some (entry.Send (template_of v k parts) marks)

abbrev pub goto_in : Word → Words → Option Entry
goto_in label [] = Some (entry.Goto label)
goto_in label _ = None

-- the bytes before the `:` at the end of a word
abbrev pub before_colon : Word → Option Word
before_colon word =
    if length word == 0 then None
    else (if get_or word (length word - 1) 0 == 58 then Some (take (length word - 1) word) else None)

abbrev pub label_named : Word → Option Entry
label_named name = if is_label_name name then Some (entry.Label name) else None

-- the name of the label that the line is, if it is one
abbrev pub label_of : Words → Option Word
label_of (word ∷ []) = before_colon word
label_of _ = None

-- what the first word of a step says it is
abbrev pub keyword_of : Word → Option Keyword
keyword_of word =
    if bytes_eq word (codes "bind") then Some keyword.Bind
    else (if bytes_eq word (codes "goto") then Some keyword.Goto
    else (if bytes_eq word (codes "halt") then Some keyword.Halt else (verb_of word >>= λ v. Some (keyword.Request v))))

-- the step with these words after the first
abbrev pub step_words : Names → Keyword → Words → Option Entry
step_words names keyword.Bind (name ∷ []) = index_of names.vars name >>= λ v. Some (entry.Bind v)
step_words names keyword.Goto (label ∷ others) = goto_in label others
step_words names keyword.Halt [] = Some entry.Halt
step_words names (keyword.Request v) (key ∷ words) = request_in names v key words
step_words names _ _ = None

abbrev pub line_entry : Names → Option Word → Word → Words → Option Entry
line_entry names (Some name) word others = label_named name
line_entry names None word others = keyword_of word >>= λ k. step_words names k others

unfoldable pub entry_in : Names → Words → Option Entry
entry_in names [] = None
entry_in names (word ∷ others) = line_entry names (label_of (word ∷ others)) word others

-- ---- sections

-- the line may follow others in a section of at most `limit` steps: `count` steps, and these labels
abbrev pub may_follow : ℕ → ℕ → List Word → Entry → Bool
may_follow limit count labels (entry.Label name) = is_new labels name
may_follow limit count labels _ = nat_lt count limit

-- an entry, where it may follow
abbrev pub following : ℕ → ℕ → List Word → Option Entry → Option Entry
following limit count labels read = read >>= λ e. if may_follow limit count labels e then Some e else None

abbrev pub is_label : Entry → Bool
is_label (entry.Label name) = true
is_label _ = false

abbrev pub step_count : Entry → ℕ
step_count e = if is_label e then 0 else 1

-- how many of the lines are steps
unfoldable pub step_total : List Entry → ℕ
step_total [] = 0
step_total (e ∷ entries) = step_count e + step_total entries

abbrev pub with_label : List Word → Entry → List Word
with_label labels (entry.Label name) = labels ++ name ∷ []
with_label labels _ = labels

-- the lines up to the one that is this word alone, after those that were read: `count` steps of at most `limit`, and
-- these labels; and the lines after them
abbrev pub entries_in : ℕ → Names → Word → List Entry → ℕ → List Word → List Words → Option (List Entry × List Words)
entries_in limit names stop entries count labels [] = None
entries_in limit names stop entries count labels (line ∷ lines) =
    if is_only stop line then Some (entries, lines)
    else (following limit count labels (entry_in names line)
    >>= λ e. entries_in limit names stop (entries ++ e ∷ []) (count + step_count e) (with_label labels e) lines)

-- values before others, where none of them is missing
abbrev pub onto : {A : Type 0} → List A → Option (List A) → Option (List A)
onto xs read = read >>= λ ys. Some (xs ++ ys)

-- the jumps of the marks, in the order of the marks, where each label is found after the step at this place
abbrev pub targets_in : List Label → ℕ → List Mark → Option (List (Class × ℕ))
targets_in labels place [] = Some []
targets_in labels place (mark.Jump c name ∷ marks) = in_front (jump_named labels place c name) (targets_in labels place marks)
targets_in labels place (_ ∷ marks) = targets_in labels place marks

-- the label of the first of these jumps on the class
abbrev pub label_for : Class → List (Class × ℕ) → Option ℕ
label_for c [] = None
label_for c (jump ∷ jumps) = if class_index c == class_index jump.0 then Some jump.1 else label_for c jumps

abbrev pub one_jump : Class → Option ℕ → List (Class × ℕ)
one_jump c (Some label) = (c, label) ∷ []
one_jump c None = []

-- the jumps on these classes, in their order
abbrev pub jumps_to : List (Class × ℕ) → List Class → List (Class × ℕ)
jumps_to jumps classes = flat_map (λ c. one_jump c (label_for c jumps)) classes

-- the section of its entries
abbrev pub section_in : Budget → List Entry → Option Section
section_in budget entries =
    steps_from (labels_from 0 entries) 0 entries >>= λ steps. Some
    (record { budget = budget; steps = steps; labels = labels_from 0 entries })

-- ---- the whole text

-- the names that are declared, the line after them, and the lines after it
abbrev pub all_names_in : Version → List Words → Option (Names × Words × List Words)
all_names_in v lines =
    keys_in lines >>= λ k. line_in k.1 >>= λ l. optional_in (codes "flags") (flags_limit v) l.0 l.1
    >>= λ f. optional_in (codes "vars") VARIABLES_LIMIT f.1 f.2 >>= λ v. Some
    (record { keys = k.0; flags = f.0; vars = v.0 }, v.1, v.2)

abbrev pub next_budget_in : Actor → List Words → Option (Budget × List Words)
next_budget_in actor lines = line_in lines >>= λ l. budget_in actor l.0 >>= λ b. Some (b, l.1)

-- the three budgets, the first on this line
abbrev pub budgets_in : Words → List Words → Option (Sections Budget × List Words)
budgets_in line lines =
    budget_in actor.P line >>= λ p. next_budget_in actor.A lines >>= λ a. next_budget_in actor.B a.1
    >>= λ b. Some (record { p = p; a = a.0; b = b.0 }, b.1)

abbrev pub section_line_in : List Words → Option (List Words)
section_line_in lines = line_in lines >>= λ l. if is_only (codes "P") l.0 then Some l.1 else None

abbrev pub ended_in : {A : Type 0} → A → List Words → Option A
ended_in x [] = Some x
ended_in x (_ ∷ _) = None

-- the lines of the three sections, which `end` and no other line follows
abbrev pub bodies_in : Version → Names → List Words → Option (List Entry × List Entry × List Entry)
bodies_in v names lines =
    section_line_in lines >>= λ l. entries_in (steps_limit v) names (codes "A") [] 0 [] l
    >>= λ p. entries_in (steps_limit v) names (codes "B") [] 0 [] p.1
    >>= λ a. entries_in (steps_limit v) names (codes "end") [] 0 [] a.1 >>= λ b. ended_in (p.0, a.0, b.0) b.1

abbrev pub script_of : Names → Section → Section → Section → Script
script_of names p a b = record { names = names; sections = record { p = p; a = a; b = b } }

-- the script of its lines
abbrev pub resolved_in : Names → Sections Budget → List Entry → List Entry → List Entry → Option Script
resolved_in names budgets p a b =
    section_in budgets.p p >>= λ x. section_in budgets.a a >>= λ y. section_in budgets.b b >>= λ z. Some (script_of names x y z)

abbrev pub script_in : List Words → Option Script
script_in lines =
    header_in lines >>= λ h. all_names_in h.0 h.1 >>= λ n. budgets_in n.1 n.2 >>= λ d. bodies_in h.0 n.0 d.1
    >>= λ e. resolved_in n.0 d.0 e.0 e.1 e.2

-- a section has a step for each of its lines that is no label
pub record HasSteps (s : Script) (p a b : List Entry) : Type 0 where
  pub of_p : length s.sections.p.steps ≡ step_total p
  pub of_a : length s.sections.a.steps ≡ step_total a
  pub of_b : length s.sections.b.steps ≡ step_total b

-- ---- a text that something else may follow

-- the first of these lines is `end`
abbrev pub begins_with_end : List Words → Bool
begins_with_end [] = false
begins_with_end (line ∷ lines) = is_only (codes "end") line

-- the line, with its own end, is `end`
abbrev pub is_end : List ℕ → Bool
is_end line = begins_with_end (words_of_text SpaceOrTab line)

-- the lines up to and with the first that is `end`
abbrev pub to_end : List (List ℕ) → List (List ℕ)
to_end [] = []
to_end (line ∷ lines) = if is_end line then line ∷ [] else line ∷ to_end lines
