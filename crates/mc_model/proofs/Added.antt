-- A test of every request, of the sections with one more request.
use Rattle.std.proofs.Common.{◌≡◌, Bool, true, ◌&&◌, [], ◌∷◌, arith}
use Rattle.std.proofs.lemmas.List.Folds.{list_all-append}
use Rattle.std.specs.List.{list_all}
use Rattle.mc_model.specs.{Types.Actor, Types.Sent, Sections.Sections, Sections.with_sent, History.every}
use Rattle.mc_protocol.specs.declared.actor.Actor.TheVariants as actor

-- one more part of the first, of the second or of the last
pub and_first : (p a b t : Bool) → (p && t && a && b) ≡ (p && a && b && t)
and_first p a b t = grind arith

pub and_second : (p a b t : Bool) → (p && (a && t) && b) ≡ (p && a && b && t)
and_second p a b t = grind arith

pub and_last : (p a b t : Bool) → (p && a && (b && t)) ≡ (p && a && b && t)
and_last p a b t = grind arith

one : (t : Bool) → (t && true) ≡ t
one t = grind arith

-- every request passes exactly where every one of before does, and the one that came
pub every_added : (test : Sent → Bool) (s : Sections) (who : Actor) (sent : Sent) → every test (with_sent s who sent) ≡ (every test s && test sent)
every_added test s actor.P sent =
    rw (list_all-append test s.p (sent ∷ []), one (test sent)) (and_first (list_all test s.p) (list_all test s.a) (list_all test s.b) (test sent))
every_added test s actor.A sent =
    rw (list_all-append test s.a (sent ∷ []), one (test sent)) (and_second (list_all test s.p) (list_all test s.a) (list_all test s.b) (test sent))
every_added test s actor.B sent =
    rw (list_all-append test s.b (sent ∷ []), one (test sent)) (and_last (list_all test s.p) (list_all test s.a) (list_all test s.b) (test sent))
