use Rattle.std.proofs.Common.{◌↔◌, ◌∷◌, ap, sym, subst, ◌∙◌}
use Rattle.mc_counterexample.specs.{KindReplays.state_of, KindReplays.IsReplied, KindReplays.FailsFrom, KindReplays.FailsWhere, Replays.is_of}
use Rattle.mc_counterexample.proofs.KindBegins.{replied_left, unreplied_none, other_section_none, own_section, some_after, none_after}
use Rattle.mc_counterexample.proofs.kind_replay.KindReplay.reply.Goals as goal

pub answer-requires-clause-structured : goal.answer-requires-clause-structured
answer-requires-clause-structured c = c.requires.structured c.section-own.result

pub returns-then-is_of-clause-some : goal.returns-then-is_of-clause-some
returns-then-is_of-clause-some c =
    let code = c.args.code.now in
    let here = c.args.self.now in
    let st = state_of code here.known in
    let own = c.section-own.ensures in
    let who_is = own_section c.section-own.result c.args.section (sym c.is_of.ensures ∙ c.if-is_of.true) ∙ own in
    some_after c.answer.result _ _ _
    (λ next begun (t, replied) kind place rest.
    let after = state_of code next.known in
    let left = replied_left code kind c.args.named place here.begun here.place st t c.args.section c.args.class next.place after rest who_is
    c.requires.branch (subst (λ who. IsReplied code who here.place st t c.args.class next.place after) own replied) in
    subst (λ b. FailsFrom code kind c.args.named place here ((c.args.section, c.args.class) ∷ rest)
    ↔ FailsWhere b code kind c.args.named place next.place after rest) (sym begun) left)
    c.answer.ensures.begun c.answer.ensures.some

pub returns-then-is_of-clause-none : goal.returns-then-is_of-clause-none
returns-then-is_of-clause-none c =
    let code = c.args.code.now in
    let here = c.args.self.now in
    let st = state_of code here.known in
    let own = c.section-own.ensures in
    let who_is = own_section c.section-own.result c.args.section (sym c.is_of.ensures ∙ c.if-is_of.true) ∙ own in
    none_after c.answer.result _ _
    (λ never kind place rest. unreplied_none code kind c.args.named place here.begun here.place st c.args.section c.args.class rest who_is c.requires.branch
    (λ t other after replied. never t other after (subst (λ who. IsReplied code who here.place st t c.args.class other after) (sym own) replied)))
    c.answer.ensures.none

pub returns-else-is_of-clause-none : goal.returns-else-is_of-clause-none
returns-else-is_of-clause-none c kind place rest =
    let here = c.args.self.now in
    let other = ap (λ own. is_of own c.args.section) (sym c.section-own.ensures) ∙ sym c.is_of.ensures ∙ c.if-is_of.false in
    other_section_none c.args.code.now kind c.args.named place here.begun here.place (state_of c.args.code.now here.known) c.args.section c.args.class rest
    other c.requires.of_p
