use Rattle.std.proofs.Common.{◌<◌, [], length, sym, subst}
use Rattle.mc_protocol.specs.declared.actor.Actor.TheVariants as actor
use Rattle.mc_code.specs.Code.{instructions_in}
use Rattle.mc_counterexample.specs.KindReplays.{state_of}
use Rattle.mc_counterexample.proofs.KindBegins.{begins_there, branch_is_never, where_behind, through}
use Rattle.mc_sound.proofs.Structured.{structured_some}
use Rattle.mc_counterexample.proofs.kind_replay.KindReplay.fails.Goals as goal

pub fails_on-requires-clause-structured : goal.fails_on-requires-clause-structured
fails_on-requires-clause-structured c = c.requires.structured c.args.named

pub begin-requires-clause-structured : goal.begin-requires-clause-structured
begin-requires-clause-structured c = c.requires.structured actor.P

pub fails_on-requires-in-Some-clause-structured : goal.fails_on-requires-in-Some-clause-structured
fails_on-requires-in-Some-clause-structured c = c.requires.structured c.args.named

pub fails_on-requires-in-Some-clause-inside : goal.fails_on-requires-in-Some-clause-inside
fails_on-requires-in-Some-clause-inside c =
    subst (λ place. place < length (instructions_in c.args.code.now c.args.named)) (sym c.in-Some.ensures.place)
    (structured_some c.args.code.now c.args.named (c.requires.structured c.args.named))

pub returns-in-Some : goal.returns-in-Some
returns-in-Some c =
    let here = c.args.self.now in
    let replay = c.in-Some.replay in
    let left = begins_there c.args.code.now c.args.kind c.args.named c.args.place here.begun here.place replay.place
    (state_of c.args.code.now here.known) (state_of c.args.code.now replay.known) c.if-self.false c.in-Some.ensures.place c.in-Some.ensures.some in
    through c.fails_on-in-Some.ensures (left.1, left.0)

pub returns-in-None : goal.returns-in-None
returns-in-None c = (
  λ e. absurd (cc),
  λ fails.
      let here = c.args.self.now in
      let st = state_of c.args.code.now here.known in
      absurd (branch_is_never c.args.code.now c.args.kind c.args.named c.args.place here.place st c.in-None.ensures.none
      ((where_behind here.begun c.args.code.now c.args.kind c.args.named c.args.place here.place st [] c.if-self.false).0 fails)),
)
