use Rattle.std.proofs.Common.{◌≡◌, ◌<◌, false, length, sym, subst, ◌∙◌, arith}
use Rattle.mc_protocol.specs.declared.actor.Actor.TheVariants as actor
use Rattle.mc_code.specs.Code.{instructions_in}
use Rattle.mc_counterexample.specs.KindReplays.{state_of, section_in}
use Rattle.mc_counterexample.proofs.KindBegins.{begins_left, branch_begins_never, where_behind, through, some_after, none_after}
use Rattle.mc_sound.proofs.Structured.{structured_some}
use Rattle.mc_counterexample.proofs.kind_replay.KindReplay.after.Goals as goal

pub begin-requires-clause-structured : goal.begin-requires-clause-structured
begin-requires-clause-structured c = c.requires.structured actor.P

pub reply-requires-clause-inside : goal.reply-requires-clause-inside
reply-requires-clause-inside c =
    let code = c.args.code.now in
    let replay = c.in-Some.replay in
    subst (λ begun. replay.place < length (instructions_in code (section_in begun c.args.named))) (sym c.in-Some.ensures.begun)
    (subst (λ place. place < length (instructions_in code c.args.named)) (sym c.in-Some.ensures.place)
    (structured_some code c.args.named (c.requires.structured c.args.named)))

pub returns-in-Some-clause-some : goal.returns-in-Some-clause-some
returns-in-Some-clause-some c =
    let code = c.args.code.now in
    let here = c.args.self.now in
    let replay = c.in-Some.replay in
    let isnt = c.if-not-self.true in
    let begun : here.begun ≡ false = grind (arith, isnt) in
    let branch = sym c.is_branch.ensures ∙ c.if-is_branch.true in
    some_after c.reply.result _ _ _
    (λ next first second kind place rest. through
    (begins_left code kind c.args.named place here.begun replay.begun here.place replay.place (state_of code here.known) (state_of code replay.known)
    c.args.reply.0 c.args.reply.1 rest begun c.in-Some.ensures.begun c.in-Some.ensures.place branch c.in-Some.ensures.some)
    (first kind place rest))
    c.reply.ensures.some c.reply.ensures.some

pub returns-in-Some-clause-none : goal.returns-in-Some-clause-none
returns-in-Some-clause-none c =
    let code = c.args.code.now in
    let here = c.args.self.now in
    let replay = c.in-Some.replay in
    let isnt = c.if-not-self.true in
    let begun : here.begun ≡ false = grind (arith, isnt) in
    let branch = sym c.is_branch.ensures ∙ c.if-is_branch.true in
    none_after c.reply.result _ _
    (λ never kind place rest fails. never kind place rest
    ((begins_left code kind c.args.named place here.begun replay.begun here.place replay.place (state_of code here.known) (state_of code replay.known)
    c.args.reply.0 c.args.reply.1 rest begun c.in-Some.ensures.begun c.in-Some.ensures.place branch c.in-Some.ensures.some).0 fails))
    c.reply.ensures.none

pub returns-in-None-clause-none : goal.returns-in-None-clause-none
returns-in-None-clause-none c kind place rest fails =
    let code = c.args.code.now in
    let here = c.args.self.now in
    let st = state_of code here.known in
    let isnt = c.if-not-self.true in
    let begun : here.begun ≡ false = grind (arith, isnt) in
    let branch = sym c.is_branch.ensures ∙ c.if-is_branch.true in
    branch_begins_never code kind c.args.named place here.place st c.args.reply.0 c.args.reply.1 rest branch c.in-None.ensures.none
    ((where_behind here.begun code kind c.args.named place here.place st _ begun).0 fails)
