-- The words of the sections.
use Rattle.std.proofs.Common.{◌≡◌, ◌==◌, if◌then◌else◌, ◌∷◌, length, get_or, codes, refl, sym, ap, ◌∙◌, arith}
use Rattle.mc_protocol.specs.{declared.actor.Actor.Actor, Lines.Word, Lines.Words, Words.actor_word}
use Rattle.mc_protocol.specs.declared.actor.Actor.TheVariants as actor
use Rattle.mc_protocol.proofs.FirstItems.{head_is}

pub length-actor_word : (a : Actor) → length (actor_word a) ≡ 1
length-actor_word actor.P = refl
length-actor_word actor.A = refl
length-actor_word actor.B = refl

pub actor_is_not_end : (a : Actor) (xs ys : Words) → actor_word a ∷ xs ≡ codes "end" ∷ ys → ⊥
actor_is_not_end a xs ys e =
    let same = ap length (head_is (actor_word a) (codes "end") xs ys e) in
    let one = length-actor_word a in
    absurd (omega (arith, same, one))

-- the section of a word
actor_in : Word → Actor
actor_in word = if get_or word 0 0 == 80 then actor.P else (if get_or word 0 0 == 65 then actor.A else actor.B)

actor_in-actor_word : (a : Actor) → actor_in (actor_word a) ≡ a
unfolding actor_in
actor_in-actor_word actor.P = refl
actor_in-actor_word actor.A = refl
actor_in-actor_word actor.B = refl

-- each section has a word of its own
pub one_actor : (a b : Actor) → actor_word a ≡ actor_word b → a ≡ b
one_actor a b e = sym (actor_in-actor_word a) ∙ ap actor_in e ∙ actor_in-actor_word b
