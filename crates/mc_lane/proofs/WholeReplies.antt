-- A reply that was received whole is answered.
use Rattle.std.specs.Prelude.{◌≡◌, ℕ, ◌-◌, Result, Ok, Err, List, ◌++◌, drop, slice_range}
use Rattle.std.proofs.Common.{refl, sym, ap, ◌∙◌}
use Rattle.std.proofs.lemmas.List.{take-append-drop}
use Rattle.mc_protocol.specs.{Lines.Word, declared.fault.Fault.Fault, declared.reply.Reply.Reply, declared.request.Verb.Verb}
use Rattle.mc_protocol.specs.declared.fault.Fault.TheVariants as fault
use Rattle.mc_reader.specs.{Laws.OneReply, Replies.Outcome, Replies.Spells, Replies.HasFailed, declared.fault.ReadFault.ReadFault}
use Rattle.mc_reader.specs.declared.fault.ReadFault.TheVariants as read_fault
use Rattle.mc_lane.specs.{Lanes.LaneRecord, Lanes.ComesTo, Laws.IsAnswered, Laws.WholeReplyIsAnswered}

-- a text that begins with a whole reply has not failed
not_failed : OneReply → (verb : Verb) (key : Word) (unread text rest : List ℕ) (reply : Reply) (f : ReadFault) → unread ≡ text ++ rest
    → Spells verb key text reply → HasFailed verb key unread f → ⊥
not_failed one verb key unread text rest reply f whole spelled failed =
    let same = one verb key failed.front text failed.back rest (Err f) (Ok reply) failed.fails spelled (failed.cut ∙ whole) in
    let alike = same.1 in
    cc

-- an outcome is one reply at most
same_reply : (r reply : Reply) (one : Outcome) → one ≡ Ok r → one ≡ Ok reply → r ≡ reply
same_reply r reply one h k = cc

by_outcome : OneReply → (verb : Verb) (key : Word) (request written : List ℕ) (old new : LaneRecord) (result : Result Reply Fault)
    (text rest : List ℕ) (reply : Reply) → drop old.taken new.got ≡ text ++ rest → Spells verb key text reply
    → ComesTo verb key request written old new result → IsAnswered reply result
by_outcome one verb key request written old new (Ok r) text rest reply whole spelled outcome =
    let count = new.taken - old.taken in
    let same = one verb key (slice_range new.got old.taken new.taken) text (drop count (drop old.taken new.got)) rest (Ok r) (Ok reply)
    outcome.1.spelled spelled (take-append-drop count (drop old.taken new.got) ∙ whole) in
    same_reply r reply (Ok r) refl same.1
by_outcome one verb key request written old new (Err fault.ReadFailed) text rest reply whole spelled outcome =
    outcome.1.1 text rest (Ok reply) (sym whole ∙ ap (λ (n : ℕ). drop n new.got) (sym outcome.0)) spelled
by_outcome one verb key request written old new (Err fault.Ended) text rest reply whole spelled outcome =
    outcome.1.1 text rest (Ok reply) (sym whole ∙ ap (λ (n : ℕ). drop n new.got) (sym outcome.0)) spelled
by_outcome one verb key request written old new (Err fault.TooMuch) text rest reply whole spelled outcome =
    outcome.1.1.0 text rest (Ok reply) (sym whole ∙ ap (λ (n : ℕ). drop n new.got) (sym outcome.0)) spelled
by_outcome one verb key request written old new (Err fault.BadReply) text rest reply whole spelled outcome =
    let unread = ap (λ (n : ℕ). drop n new.got) outcome.0 ∙ whole in
    not_failed one verb key (drop new.taken new.got) text rest reply outcome.1.1.0 unread spelled outcome.1.1.2
by_outcome one verb key request written old new (Err fault.ErrorLine) text rest reply whole spelled outcome =
    let unread = ap (λ (n : ℕ). drop n new.got) outcome.0 ∙ whole in
    not_failed one verb key (drop new.taken new.got) text rest reply (read_fault.ErrorLine outcome.1.1.0) unread spelled outcome.1.1.1
by_outcome one verb key request written old new (Err fault.WriteFailed) text rest reply whole spelled outcome = tt
by_outcome one verb key request written old new (Err fault.Memory) text rest reply whole spelled outcome = tt
by_outcome one verb key request written old new (Err fault.Closed) text rest reply whole spelled outcome = outcome.1.1

pub whole_reply_is_answered : OneReply → WholeReplyIsAnswered
whole_reply_is_answered one verb key request old new before result text rest reply call whole spelled =
    by_outcome one verb key request call.written old new result text rest reply whole spelled call.outcome
