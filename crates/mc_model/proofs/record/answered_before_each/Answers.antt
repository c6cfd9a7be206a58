use Rattle.std.proofs.Common.{◌≡◌, ◌+◌, [], ◌∷◌, ◌++◌, length, take, if◌then◌else◌, append-nil, refl, sym, ap, ap₂, ◌∙◌, arith}
use Rattle.std.proofs.lemmas.List.{take_more}
use Rattle.mc_model.specs.Notes.{replies_in, replied_by, begins, answered_before_each}
use Rattle.mc_model.proofs.Noting.{answered_before-push, reply_count-push}
use Rattle.mc_model.proofs.record.answered_before_each.Goals.{then-begins+in_ok-push, else-begins, then-replies, else-replies}
use Rattle.mc_model.proofs.record.answered_before_each.Goals as goal

pub counting-preserved : goal.counting-preserved
counting-preserved c =
    let seen = take c.counting.actor-index c.args.notes.now in
    let noted = c.counting-item.result in
    let within = c.counting.invariant.within in
    let next : take (c.counting.actor-index + 1) c.args.notes.now ≡ seen ++ noted ∷ [] =
    take_more c.args.notes.now c.counting.actor-index noted c.counting-test.true ∙ ap (λ x. seen ++ x ∷ []) (sym c.counting-item.is) in
    let counts : c.if-begins.counts.items ≡ c.counting.counts.items ++ (if begins c.args.section noted then c.counting.answered ∷ [] else []) =
    elim c.if-begins.branch [
      | then-begins+in_ok-push w ↦ rw (w.counts-is, w.in_ok-push.ensures.items, ← c.begins.ensures, w.if-begins.true) refl
      | else-begins w ↦ rw (w.counts-is, ← c.begins.ensures, w.if-begins.false) (sym (append-nil c.counting.counts.items))
    ] in
    let answered : c.if-replies.answered ≡ c.counting.answered + length (replied_by c.args.other noted) =
    elim c.if-replies.branch [
      | then-replies w ↦ rw (w.answered-is, ← c.replies.ensures, w.if-replies.true) refl
      | else-replies w ↦ rw (w.answered-is, ← c.replies.ensures, w.if-replies.false) (omega arith)
    ] in
    record {
      counts = counts ∙ ap₂ (λ l a. l ++ (if begins c.args.section noted then a ∷ [] else [])) c.counting.invariant.counts c.counting.invariant.answered
          ∙ sym (ap (answered_before_each c.args.section c.args.other) next ∙ answered_before-push c.args.section c.args.other seen noted);
      answered = answered ∙ ap (λ a. a + length (replied_by c.args.other noted)) c.counting.invariant.answered
          ∙ sym (ap (λ l. length (replies_in c.args.other l)) next ∙ reply_count-push c.args.other seen noted);
      within = elim c.if-replies.branch [ then-replies w ↦ omega (arith, within) | else-replies w ↦ omega (arith, within) ];
    }
