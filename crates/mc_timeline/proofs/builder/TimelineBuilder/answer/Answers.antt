use Rattle.std.proofs.Common.{◌++◌, ◌∷◌, [], None, Some, slice_get, ap, subst, sym, ◌∙◌}
use Rattle.std.specs.Prelude.{if◌then◌else◌}
use Rattle.std.specs.Option.{option_copied}
use Rattle.mc_model.specs.declared.note.Note.TheVariants as note
use Rattle.mc_model.specs.declared.rules.HistoryKind.TheVariants as kind
use Rattle.mc_timeline.specs.{Timelines.operations_of, Rules.waiting_of, RuleState.begun_at, RuleState.Answers}
use Rattle.mc_timeline.proofs.{Following.finds_request, Replied.no_request, Replied.fault_by, Replied.asked, Replied.follows_reply}
use Rattle.mc_timeline.proofs.builder.TimelineBuilder.answer.Goals as goal

pub returns-in_default-clause-fault : goal.returns-in_default-clause-fault
returns-in_default-clause-fault c = λ other.
    let waits = slice_get c.self.inside.waiting c.args.client in
    let seen = c.begun_request.ensures ∙ ap (λ l. begun_at l waits) (c.as_slice.ensures.value ∙ c.reserve.ensures.items) in
    let found = sym (seen ∙ finds_request c.self.invariant c.args.client) ∙ ap option_copied c.in_default.is in
    rw (← c.self.view_is) (no_request (waiting_of c.args.client (operations_of c.self.inside.notes.items)) c.args.reply found)

pub returns-then-not-may_answer-clause-fault : goal.returns-then-not-may_answer-clause-fault
returns-then-not-may_answer-clause-fault c = λ other.
    let waits = slice_get c.self.inside.waiting c.args.client in
    let seen = c.begun_request.ensures ∙ ap (λ l. begun_at l waits) (c.as_slice.ensures.value ∙ c.reserve.ensures.items) in
    let found = sym (seen ∙ finds_request c.self.invariant c.args.client) ∙ ap option_copied c.in-Some.is in
    let unfit = sym c.may_answer.ensures ∙ c.if-not-may_answer.true in
    rw (← c.self.view_is) (fault_by (waiting_of c.args.client (operations_of c.self.inside.notes.items)) c.in-Some.request.now c.args.reply found
    ∙ ap (λ b. if b then None else Some kind.WrongReply) unfit)

pub bounds-self-inside-client : goal.bounds-self-inside-client
bounds-self-inside-client c =
    let waits = slice_get c.self.inside.waiting c.args.client in
    let seen = c.begun_request.ensures ∙ ap (λ l. begun_at l waits) (c.as_slice.ensures.value ∙ c.reserve.ensures.items) in
    let found = sym (seen ∙ finds_request c.self.invariant c.args.client) ∙ ap option_copied c.in-Some.is in
    (asked c.self.invariant c.args.client c.in-Some.request.now found).small

pub invariant_of-self-2 : goal.invariant_of-self-2
invariant_of-self-2 c =
    let waits = slice_get c.self.inside.waiting c.args.client in
    let seen = c.begun_request.ensures ∙ ap (λ l. begun_at l waits) (c.as_slice.ensures.value ∙ c.reserve.ensures.items) in
    let found = sym (seen ∙ finds_request c.self.invariant c.args.client) ∙ ap option_copied c.in-Some.is in
    let fit = sym c.may_answer.ensures ∙ c.if-not-may_answer.false in
    let answers = subst (λ n. Answers c.in-Some.request.now.key c.args.client n c.self.inside.keys.entries c.answer_key.new.keys.entries)
    c.shown_number.ensures c.in_ok-answer_key.ensures.ok in
    let items = c.push_reserved.ensures.items ∙ ap (λ l. l ++ (c.args.client, note.Reply c.args.reply) ∷ []) c.reserve.ensures.items in
    rw items (follows_reply c.self.invariant c.args.client c.args.reply c.in-Some.request.now c.answer_key.new.keys.entries found fit answers)

pub returns-clause-faultless : goal.returns-clause-faultless
returns-clause-faultless c =
    let waits = slice_get c.self.inside.waiting c.args.client in
    let seen = c.begun_request.ensures ∙ ap (λ l. begun_at l waits) (c.as_slice.ensures.value ∙ c.reserve.ensures.items) in
    let found = sym (seen ∙ finds_request c.self.invariant c.args.client) ∙ ap option_copied c.in-Some.is in
    let fit = sym c.may_answer.ensures ∙ c.if-not-may_answer.false in
    rw (← c.self.view_is) (fault_by (waiting_of c.args.client (operations_of c.self.inside.notes.items)) c.in-Some.request.now c.args.reply found
    ∙ ap (λ b. if b then None else Some kind.WrongReply) fit)

pub returns-clause-keeps : goal.returns-clause-keeps
returns-clause-keeps c = (invariant_of-self-2 c).timeline
