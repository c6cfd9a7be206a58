-- Of a `cas` the earlier requests are asked, one by one.
use Rattle.std.proofs.Common.{◌≡◌, Bool, true, false, not, refl, rules, tests}
use Rattle.std.proofs.lemmas.{Iterator.YieldsList-from_slice, Iterator.Search.any_from_yields_List}
use Rattle.std.specs.List.{list_any}
use denote.Enum.Bare.{same_true}
use Rattle.mc_protocol.specs.{contracts.request.Verb.the_type, declared.request.Verb.TheVariants.Cas}
use Rattle.mc_model.specs.History as rule
use Rattle.mc_model.proofs.rules.is_seen.Goals as goal

twice : (b : Bool) → false ≡ not b → b ≡ true
twice true h = refl
twice false h = absurd (cc)

pub returns-else-ne : goal.returns-else-ne
returns-else-ne c =
    let request = c.args.sent.now.request in
    let test = rule.shows request.key request.number in
    let any : c.any.result ≡ list_any test c.args.earlier.now =
    any_from_yields_List test _ _ c.any.result c.any.ensures.ran (YieldsList-from_slice c.args.earlier.now cc) (λ x b q k. search (rules, tests)) in
    let cas : request.verb ≡ Cas = same_true the_type (search rules) _ _ (twice _ c.if-ne.ensures) in
    rw cas any
