use Rattle.std.proofs.Common.{◌≡◌, Some, [], map, sym, ap, ◌∙◌}
use Rattle.std.proofs.lemmas.List.{drop_all}
use Rattle.std.specs.List.{list_any}
use Rattle.mc_script_text.specs.Reading.{marks_in, binds}
use Rattle.mc_script_text.proofs.MarkWords.{marks-apart}
use Rattle.mc_script_text.proofs.marks.read_marks.Goals as goal

pub new-requires : goal.new-requires
new-requires c =
    let words = c.args.words.now in
    let names = c.args.names.now in
    let bound = c.has_bind-bound.result in
    let rest = rw (drop_all c.words.word-index words c.words-test.false) at c.words.invariant in
    let read : marks_in names c.args.verb (list_any binds (map (λ w. w.now) words)) [] (map (λ w. w.now) words) ≡ Some c.words.marks.items =
    ap (λ b. marks_in names c.args.verb b [] (map (λ w. w.now) words)) (sym c.has_bind-bound.ensures) ∙ sym rest in
    marks-apart names c.args.verb (map (λ w. w.now) words) c.words.marks.items read
