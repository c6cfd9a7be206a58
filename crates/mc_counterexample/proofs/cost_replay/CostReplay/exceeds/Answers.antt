use Rattle.std.proofs.Common.{◌≡◌, true, slice_get, slice_index_or, ap, sym, ◌∙◌, arith}
use Rattle.std.proofs.{lemmas.Bool.ltb-true, lemmas.Bool.lt-ltb, lemmas.Option.same_Some, lemmas.Option.slice_get-get_or}
use Rattle.mc_code.specs.{Calls.no_template, Code.instructions_in, Code.section_of}
use Rattle.mc_code.specs.declared.instr.Instr.TheVariants as instr
use Rattle.mc_code.proofs.LookUps.{some_is}
use Rattle.mc_sound.specs.Costs.{bound_of, cost_of}
use Rattle.mc_flow.proofs.CallCosts.{weight_at}
use Rattle.mc_sound.proofs.Structured.{structured_template}
use Rattle.mc_counterexample.proofs.CostReplays.{exceeding_there, there_exceeding}
use Rattle.mc_counterexample.proofs.cost_replay.CostReplay.exceeds.Goals as goal

pub returns-then-not-rests_at : goal.returns-then-not-rests_at
returns-then-not-rests_at c = (
  λ e. absurd (cc),
  λ exceeds.
      let there = exceeding_there c.args.code.now c.args.measure c.args.actor c.args.place c.args.self.now exceeds in
      let rests = c.rests_at.ensures.rests.1 (there.rests, there.leads) in
      let isnt = c.if-not-rests_at.true in
      grind (arith, rests, isnt),
)

pub call_cost-requires : goal.call_cost-requires
call_cost-requires c =
    structured_template c.args.code.now c.args.actor (c.requires.structured c.args.actor) c.from.result c.in-Send.template c.in-Send.next
    c.in-Send.ensures.instruction

pub returns-in-Send : goal.returns-in-Send
returns-in-Send c =
    let code = c.args.code.now in
    let is = c.if-not-rests_at.false in
    let rests : c.rests_at.result ≡ true = grind (arith, is) in
    let at = ap (slice_get (instructions_in code c.args.actor)) (sym c.from.ensures) ∙ c.in-Send.ensures.instruction in
    let inside = structured_template code c.args.actor (c.requires.structured c.args.actor) c.from.result c.in-Send.template c.in-Send.next
    c.in-Send.ensures.instruction in
    let t = slice_index_or code.templates c.in-Send.template no_template in
    let named = slice_get-get_or code.templates c.in-Send.template no_template inside in
    let cost : c.call_cost.result ≡ cost_of code c.args.measure t =
    same_Some _ _ (sym c.call_cost.ensures.weight ∙ weight_at code c.args.measure c.in-Send.template t named) in
    let bound : c.bound.result ≡ bound_of c.args.measure (section_of code c.args.actor).budget =
    c.bound.ensures ∙ ap (bound_of c.args.measure) c.budget.ensures.budget in
    there_exceeding code c.args.measure c.args.actor c.args.place c.in-Send.template c.in-Send.next t c.args.self.now _
    (c.rests_at.ensures.rests.0 rests).1 at named
    (λ e. let less = ltb-true _ _ e in omega (arith, less, cost, bound), λ less. lt-ltb _ _ (omega (arith, less, cost, bound)))

pub returns-in_default : goal.returns-in_default
returns-in_default c = (
  λ e. absurd (cc),
  λ exceeds.
      let sends = (exceeding_there c.args.code.now c.args.measure c.args.actor c.args.place c.args.self.now exceeds).sends in
      let at = ap (slice_get (instructions_in c.args.code.now c.args.actor)) (sym c.from.ensures) ∙ c.instruction.ensures.instruction in
      absurd (c.in_default.not-Send sends.0 sends.1 (some_is c.instruction.result (instr.Send sends.0 sends.1) (sym at ∙ sends.2))),
)
