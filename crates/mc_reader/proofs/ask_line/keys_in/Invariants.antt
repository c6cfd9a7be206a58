use Rattle.std.proofs.Common.{◌≡◌, ◌++◌, length}
use Rattle.std.specs.List.{list_all}
use Rattle.mc_reader.specs.AskWords.{is_request_key}
use Rattle.mc_reader.proofs.ask_line.keys_in.Given as goal

abbrev pub invariant-keys : goal.invariant-keys
invariant-keys l = (l.keys.items ++ l.words ≡ l.fn.keys.items ++ l.fn.words) × (list_all is_request_key l.words ≡ list_all is_request_key l.fn.words)

abbrev pub decreases-keys : goal.decreases-keys
decreases-keys l = length l.words
