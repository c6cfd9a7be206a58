-- Replies that stand one after the other at the front of what was received.
use Rattle.std.specs.Prelude.{◌≡◌, ◌⊎◌, ℕ, ◌+◌, ◌≤◌, Option, Some, None, Ok, List, [], ◌∷◌, ◌++◌, length, take, drop}
use Rattle.std.proofs.Common.{inl, inr, refl, sym, ap, subst, ◌∙◌, arith, length-drop}
use Rattle.std.proofs.lemmas.List.{append_cancel_left, drop-drop, take-append-drop}
use Rattle.mc_protocol.specs.{declared.reply.Reply.Reply, declared.request.Request.Request}
use Rattle.mc_model.specs.declared.sent.Sent.{Sent}
use Rattle.mc_reader.specs.Replies.{Spells}
use Rattle.mc_recorded.specs.Fronts.{BeginsWith, CountsReply, CountsReplies}
use Rattle.mc_recorded.specs.{Recorded.StandsAtFront, Recorded.StandAtFront, declared.front.Front.Front}
use Rattle.mc_recorded.specs.declared.front.Front.TheVariants as front
use Rattle.mc_recorded.proofs.FromReader.{one_reply}

-- ---- one reply

-- it stands there in one way
pub front_once : (request : Request) (given : Option Reply) (got a b : List ℕ)
    → StandsAtFront request given got a → StandsAtFront request given got b → a ≡ b
front_once request None got a b h k = sym h ∙ k
front_once request (Some reply) got a b (text, cut, spelled) (other, cut', spelled') =
    let same = (one_reply request.verb request.key text other a b (Ok reply) (Ok reply) spelled spelled' (sym cut ∙ cut')).0 in
    append_cancel_left text a b (sym cut ∙ cut' ∙ ap (λ (x : List ℕ). x ++ b) (sym same))

-- the whole reply that was found is the one that is looked for
pub reply_found : (request : Request) (given : Option Reply) (got : List ℕ) (found reply : Reply) (used : ℕ) → given ≡ Some reply
    → found ≡ reply → BeginsWith request.verb request.key got (front.Whole found used) → CountsReply request given got (Some used)
reply_found request given got found reply used given_is same whole =
    subst (λ (r : Option Reply). CountsReply request r got (Some used)) (sym given_is)
    (whole.0, (take used got, sym (take-append-drop used got), subst (Spells request.verb request.key (take used got)) same whole.1))

-- what was found is not the reply that is looked for
abbrev pub IsOther : Reply → Front → Type 0
IsOther reply (front.Whole found used) = found ≡ reply → ⊥
IsOther reply f = Unit {0}

pub none_found : (reply : Reply) (f : Front) → (f ≡ front.Malformed) ⊎ ((f ≡ front.ErrorLine) ⊎ (f ≡ front.Unfinished)) → IsOther reply f
none_found reply f (inl e) = subst (IsOther reply) (sym e) tt
none_found reply f (inr (inl e)) = subst (IsOther reply) (sym e) tt
none_found reply f (inr (inr e)) = subst (IsOther reply) (sym e) tt

not_there : (request : Request) (reply : Reply) (got : List ℕ) (f : Front) → IsOther reply f
    → BeginsWith request.verb request.key got f → CountsReply request (Some reply) got None
not_there request reply got (front.Whole found used) other whole rest (text, cut, spelled) =
    let same = one_reply request.verb request.key (take used got) text (drop used got) rest (Ok found) (Ok reply) whole.1 spelled
    (take-append-drop used got ∙ cut) in
    let alike = same.1 in
    other (cc)
not_there request reply got front.Malformed other (f, malformed, failed) rest (text, cut, spelled) =
    let same = one_reply request.verb request.key failed.front text failed.back rest _ (Ok reply) failed.fails spelled (failed.cut ∙ cut) in
    let alike = same.1 in
    cc
not_there request reply got front.ErrorLine other (kind, failed) rest (text, cut, spelled) =
    let same = one_reply request.verb request.key failed.front text failed.back rest _ (Ok reply) failed.fails spelled (failed.cut ∙ cut) in
    let alike = same.1 in
    cc
not_there request reply got front.Unfinished other unfinished rest (text, cut, spelled) = unfinished text rest (Ok reply) (sym cut) spelled

pub reply_missing : (request : Request) (given : Option Reply) (got : List ℕ) (f : Front) (reply : Reply) → given ≡ Some reply
    → IsOther reply f → BeginsWith request.verb request.key got f → CountsReply request given got None
reply_missing request given got f reply given_is other begins =
    subst (λ (r : Option Reply). CountsReply request r got None) (sym given_is) (not_there request reply got f other begins)

-- ---- one after the other

-- they stand there in one way
pub fronts_once : (requests : List Sent) (got a b : List ℕ) → StandAtFront requests got a → StandAtFront requests got b → a ≡ b
fronts_once [] got a b h k = sym h ∙ k
fronts_once (s ∷ requests) got a b (mid, first, others) (mid', first', others') =
    let same = front_once s.request s.reply got mid mid' first first' in
    fronts_once requests mid a b others (subst (λ (m : List ℕ). StandAtFront requests m b) (sym same) others')

-- one more
fronts_more : (requests : List Sent) (s : Sent) (got mid rest : List ℕ) → StandAtFront requests got mid
    → StandsAtFront s.request s.reply mid rest → StandAtFront (requests ++ s ∷ []) got rest
fronts_more [] s got mid rest h k = (rest, subst (λ (g : List ℕ). StandsAtFront s.request s.reply g rest) (sym h) k, refl)
fronts_more (x ∷ requests) s got mid rest (back, first, others) k = (back, first, fronts_more requests s back mid rest others k)

-- the next one, where more stand there than these
front_after : (requests more : List Sent) (s : Sent) (got mid rest : List ℕ) → StandAtFront requests got mid
    → StandAtFront (requests ++ s ∷ more) got rest → (back : List ℕ) × StandsAtFront s.request s.reply mid back
front_after [] more s got mid rest h (back, first, others) =
    (back, subst (λ (g : List ℕ). StandsAtFront s.request s.reply g back) h first)
front_after (x ∷ requests) more s got mid rest (back, first, others) (back', first', others') =
    let same = front_once x.request x.reply got back' back first' first in
    front_after requests more s back mid rest others (subst (λ (g : List ℕ). StandAtFront (requests ++ s ∷ more) g rest) same others')

-- ---- how many bytes they take

-- with one more reply
pub counted_more : (requests : List Sent) (s : Sent) (got after : List ℕ) (taken count : ℕ) → after ≡ drop taken got → taken ≤ length got
    → StandAtFront requests got (drop taken got) → CountsReply s.request s.reply after (Some count)
    → CountsReplies (requests ++ s ∷ []) got (Some (taken + count))
counted_more requests s got after taken count after_is within stand counts =
    let next = subst (λ (g : List ℕ). CountsReply s.request s.reply g (Some count)) after_is counts in
    let long = length-drop taken got in
    let short = next.0 in (
      omega arith,
      fronts_more requests s got (drop taken got) (drop (taken + count) got) stand
          (subst (StandsAtFront s.request s.reply (drop taken got)) (drop-drop count taken got) next.1),
    )

-- the next reply isn't there
pub missing : (requests more : List Sent) (s : Sent) (got after : List ℕ) (taken : ℕ) → after ≡ drop taken got
    → StandAtFront requests got (drop taken got) → CountsReply s.request s.reply after None
    → CountsReplies (requests ++ s ∷ more) got None
missing requests more s got after taken after_is stand none rest all =
    let there = front_after requests more s got (drop taken got) rest stand all in
    none there.0 (subst (λ (g : List ℕ). StandsAtFront s.request s.reply g there.0) (sym after_is) there.1)
