use Rattle.std.proofs.Common.{◌≡◌, true, take, map}
use Rattle.mc_script.specs.Script.{may_be_declared}
use Rattle.mc_script_text.proofs.declarations.read_names.Given as goal

abbrev pub invariant-words : goal.invariant-words
invariant-words l = record {
  names : l.names.items ≡ map (λ w. w.now) (take l.word-index l.words);
  declared : may_be_declared l.limit l.bytes l.names.items ≡ true;
}
