use Rattle.std.proofs.Common.{◌≡◌, ◌∷◌, refl}
use Rattle.std.proofs.lemmas.Result.{err_from_is_err_and}
use Rattle.mc_protocol.specs.{declared.lines.Separator.TheVariants.Space, Lines.words_of_text}
use Rattle.mc_history.specs.StepText.{steps_line}
use Rattle.mc_history.proofs.StepLists.{onward_of_list, list_of_onward}
use Rattle.mc_history.proofs.step_text.read_text.Goals as goal

pub returns-in_err-steps-clause-none : goal.returns-in_err-steps-clause-none
returns-in_err-steps-clause-none c =
    let header : words_of_text Space c.args.text.now ≡ steps_line ∷ c.take_header.new.lines.words =
    rw c.new-lines.ensures at c.in_ok-take_header.ensures.header in
    let p = err_from_is_err_and c.from_residual-in_err-steps.result c.from_residual-in_err-steps.ensures.1 in
    rw (p.1, p.2) (λ real all spelled. c.in_err-steps.ensures.none real all (onward_of_list c.args.text.now _ all header spelled))

pub returns-in_err-finish-clause-none : goal.returns-in_err-finish-clause-none
returns-in_err-finish-clause-none c =
    let header : words_of_text Space c.args.text.now ≡ steps_line ∷ c.take_header.new.lines.words =
    rw c.new-lines.ensures at c.in_ok-take_header.ensures.header in
    let p = err_from_is_err_and c.from_residual-in_err-finish.result c.from_residual-in_err-finish.ensures.1 in
    rw (p.1, p.2) (λ real all spelled.
    c.in_err-finish.ensures.none real ((c.in_ok-steps.ensures.exact all).0 (onward_of_list c.args.text.now _ all header spelled)).1)

pub returns-clause-found : goal.returns-clause-found
returns-clause-found c =
    let header : words_of_text Space c.args.text.now ≡ steps_line ∷ c.take_header.new.lines.words =
    rw c.new-lines.ensures at c.in_ok-take_header.ensures.header in
    let steps = c.in_ok-steps.steps.items in
    list_of_onward c.args.text.now _ steps header ((c.in_ok-steps.ensures.exact steps).1 (refl, c.in_ok-finish.ensures.end))
