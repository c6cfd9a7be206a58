-- What a section sent and received is what its operations say.
use Rattle.std.proofs.Common.{◌≡◌, ℕ, suc, Bool, true, false, cond, not, ◌&&◌, Option, Some, None}
use Rattle.std.proofs.Common.{List, [], ◌∷◌, ◌++◌, map, refl, ap, sym, ◌∙◌, if◌then◌else◌}
use Rattle.std.proofs.lemmas.Bool.{and_parts}
use Rattle.mc_protocol.specs.declared.{actor.Actor.Actor, request.Request.Request, reply.Reply.Reply}
use Rattle.mc_model.specs.declared.note.Note.TheVariants as note
use Rattle.mc_model.specs.{Notes.Noted, Notes.is_same_section, Notes.requests_in, Notes.replies_in, Notes.with_replies, Notes.sections_in, Sections.section_of}
use Rattle.mc_model.proofs.Noting.{section_in}
use Rattle.mc_timeline.specs.{Explanations.received, Rules.sent_of}
use Rattle.mc_timeline_of.proofs.ClientQueues.{operation_at, first_reply, queue, takes_turns}

-- ---- the first of the replies

abbrev first_of : List Reply → Option Reply
first_of [] = None
first_of (reply ∷ replies) = Some reply

-- the replies to those that begin from here on: the first may be to one that began before
abbrev left_replies : Bool → List Reply → List Reply
left_replies false replies = replies
left_replies true [] = []
left_replies true (reply ∷ replies) = replies

first_received : (section : Actor) (place : ℕ) (notes : List Noted) → received (first_reply section place notes) ≡ first_of (replies_in section notes)
first_received section place [] = refl
first_received section place ((who, note.Begin request) ∷ notes) = first_received section (suc place) notes
first_received section place ((who, note.Reply reply) ∷ notes) = by (is_same_section section who) (first_received section (suc place) notes)
  where
    by : (b : Bool) → received (first_reply section (suc place) notes) ≡ first_of (replies_in section notes)
        → received (cond b (Some (record { time = place; reply = reply })) (first_reply section (suc place) notes))
        ≡ first_of ((if b then reply ∷ [] else []) ++ replies_in section notes)
    by true rest = refl
    by false rest = rest

one_replied : (request : Request) (requests : List Request) (replies : List Reply)
    → with_replies (request ∷ requests) replies
    ≡ record { request = request; reply = first_of replies } ∷ with_replies requests (left_replies true replies)
one_replied request requests [] = refl
one_replied request requests (reply ∷ replies) = refl

-- ---- the requests with their replies

sent_from : (section : Actor) (place : ℕ) (waits : Bool) (notes : List Noted) → takes_turns section waits notes ≡ true
    → map sent_of (queue section place notes) ≡ with_replies (requests_in section notes) (left_replies waits (replies_in section notes))
sent_from section place waits [] turns = refl
sent_from section place waits ((who, note.Begin request) ∷ notes) turns =
    by (is_same_section section who) turns (sent_from section (suc place) true notes) (sent_from section (suc place) waits notes)
  where
    by : (b : Bool) → cond b (not waits && takes_turns section true notes) (takes_turns section waits notes) ≡ true
        → (takes_turns section true notes ≡ true
        → map sent_of (queue section (suc place) notes) ≡ with_replies (requests_in section notes) (left_replies true (replies_in section notes)))
        → (takes_turns section waits notes ≡ true
        → map sent_of (queue section (suc place) notes) ≡ with_replies (requests_in section notes) (left_replies waits (replies_in section notes)))
        → map sent_of
        (cond b
        (operation_at section place request notes ∷ queue section (suc place) notes)
        (queue section (suc place) notes))
        ≡ with_replies ((if b then request ∷ [] else []) ++ requests_in section notes) (left_replies waits (replies_in section notes))
    by true t own other =
        let parts = and_parts (not waits) (takes_turns section true notes) t in
        free waits parts.0
        (ap (λ r. record { request = request; reply = r } ∷ map sent_of (queue section (suc place) notes)) (first_received section (suc place) notes)
        ∙ ap (λ l. record { request = request; reply = first_of (replies_in section notes) } ∷ l) (own parts.1)
        ∙ sym (one_replied request (requests_in section notes) (replies_in section notes)))
      where
        free : (w : Bool) → not w ≡ true
            → map sent_of (operation_at section place request notes ∷ queue section (suc place) notes)
            ≡ with_replies (request ∷ requests_in section notes) (replies_in section notes)
            → map sent_of (operation_at section place request notes ∷ queue section (suc place) notes)
            ≡ with_replies (request ∷ requests_in section notes) (left_replies w (replies_in section notes))
        free true e h = absurd (cc)
        free false e h = h
    by false t own other = other t
sent_from section place waits ((who, note.Reply reply) ∷ notes) turns =
    by (is_same_section section who) waits turns (sent_from section (suc place) false notes) (sent_from section (suc place) waits notes)
  where
    by : (b w : Bool) → cond b (w && takes_turns section false notes) (takes_turns section w notes) ≡ true
        → (takes_turns section false notes ≡ true
        → map sent_of (queue section (suc place) notes) ≡ with_replies (requests_in section notes) (replies_in section notes))
        → (takes_turns section w notes ≡ true
        → map sent_of (queue section (suc place) notes) ≡ with_replies (requests_in section notes) (left_replies w (replies_in section notes)))
        → map sent_of (queue section (suc place) notes)
        ≡ with_replies (requests_in section notes) (left_replies w ((if b then reply ∷ [] else []) ++ replies_in section notes))
    by true true t own other = own t
    by true false t own other = absurd (cc)
    by false w t own other = other t

-- what the section sent and received
pub sent_is : (section : Actor) (notes : List Noted) → takes_turns section false notes ≡ true
    → map sent_of (queue section 0 notes) ≡ section_of (sections_in notes) section
sent_is section notes turns = sent_from section 0 false notes turns ∙ sym (section_in section notes)
