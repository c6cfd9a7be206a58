use Rattle.std.proofs.Common.{◌≡◌, [], drop, map}
use Rattle.mc_script_text.specs.Reading.{marks_in}
use Rattle.mc_script_text.proofs.marks.read_marks.Given as goal

abbrev pub invariant-words : goal.invariant-words
invariant-words l =
    marks_in l.names l.verb l.bound l.marks.items (map (λ w. w.now) (drop l.word-index l.words))
    ≡ marks_in l.names l.verb l.bound [] (map (λ w. w.now) l.fn.words)
