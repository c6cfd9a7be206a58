-- Where the next operation of a client leads is left to the server under incr and decr alone.
use Rattle.std.specs.Prelude.{if◌then◌else◌}
use Rattle.std.proofs.Common.{◌≡◌, ◌+◌, ◌&&◌, ◌∙◌, ℕ, List, Option, false, get_or, slice_set, refl, ap, subst, sym}
use Rattle.mc_protocol.specs.declared.{request.Request.Request, request.Verb.Verb}
use Rattle.mc_protocol.specs.declared.request.Verb.TheVariants as verb
use Rattle.mc_protocol.specs.declared.reply.Reply.TheVariants as reply
use Rattle.mc_model.specs.{declared.act.Choice.Choice, declared.cache.Item.Item, Act.Effect, Act.answers, Act.effect_by, ActLaws.counts, History.is_cas}
use Rattle.mc_claims.specs.Explains.{IsReceived}
use Rattle.mc_timeline.specs.{Explanations.received, Operations.Operation}
use Rattle.mc_linearize.specs.Held.{Held, is_unmarked, effect_of_operation, held_after, marked}
use Rattle.mc_linearize.specs.{Points.Point, Points.Moves, Searching.ActsAlone, Standing.left_by}

one_effect : (v : Verb) (request : Request) (choice other : Choice) (found : Option Item) → counts v ≡ false
    → effect_by v request choice 0 found ≡ effect_by v request other 0 found
one_effect verb.Incr request choice other found none = absurd cc
one_effect verb.Decr request choice other found none = absurd cc
one_effect _ request choice other found none = refl

one_effect_of : (x : Operation) (choice other : Choice) (held : Option Held) → counts x.request.verb ≡ false
    → effect_of_operation x choice held ≡ effect_of_operation x other held
one_effect_of x choice other held none =
    let found = marked (received x.answer) held in
    ap (λ (e : Effect). if is_cas x.request.verb && is_unmarked found then answers reply.Exists else e)
    (one_effect x.request.verb x.request choice other _ none)

-- an operation that leads somewhere with one choice leads there with every other
pub one_move : (all : List (List Operation)) (p q : Point) (client : ℕ) (choice other : Choice) (x : Operation) → ActsAlone client (left_by all p.counts) x
    → counts x.request.verb ≡ false → Moves all p client choice q → Moves all p client other q
one_move all p q client choice other x a none m =
    let same : m.operation ≡ x = a.only m.operation m.left m.may in
    let plain : counts m.operation.request.verb ≡ false = subst (λ (y : Operation). counts y.request.verb ≡ false) (sym same) none in
    let effect = one_effect_of m.operation choice other p.held plain in
    record {
      operation = m.operation;
      left = m.left;
      may = m.may;
      unshown = m.unshown;
      given = subst (λ (e : Effect). IsReceived (received m.operation.answer) e.reply) effect m.given;
      after = m.after ∙ ap (λ (e : Effect). record {
        counts = slice_set p.counts client (get_or p.counts client 0 + 1);
        held = held_after e.change (marked (received m.operation.answer) p.held);
      }) effect;
    }
