-- What the readers of a line keep, as the definitions see it.
use Rattle.std.specs.Prelude.{◌≡◌, true, false, Option, Some, None, Vec, List, ◌++◌, ℕ}
use Rattle.std.specs.{List.list_all, declared.alloc.Global.Global}
use Rattle.mc_protocol.specs.Lines.{Words}
use Rattle.mc_reader.specs.AskLines.{LineSays, Whole, Block, Skips}
use Rattle.mc_reader.specs.{AskWords.is_request_key, Asks.ask_of, declared.ask_said.AskSaid.AskSaid}
use Rattle.mc_reader.specs.declared.ask_said.AskSaid.TheVariants as said

abbrev pub said_of : AskSaid → LineSays
said_of (said.Whole asked) = Whole (ask_of asked)
said_of (said.Block line) = Block line
said_of (said.Skips refuse bytes) = Skips refuse bytes

-- the keys before, and all words, where all are keys; or none where one isn't
abbrev pub AreKeys : Words → Words → Option (Vec (List ℕ) Global) → Type 0
AreKeys before words None = list_all is_request_key words ≡ false
AreKeys before words (Some keys) = (keys.items ≡ before ++ words) × (list_all is_request_key words ≡ true)
