-- What is explained stays so where one more request begins.
use Rattle.std.proofs.Common.{◌≡◌, inl, inr, ℕ, zero, suc, ◌+◌, ◌≤◌, ◌<◌, Bool, true, false, cond, not, ◌||◌, Option, Some, None, if◌then◌else◌}
use Rattle.std.proofs.Common.{List, [], ◌∷◌, ◌++◌, take, length, get_or, slice_get, refl, sym, ap, subst, ◌∙◌, arith}
use Rattle.std.proofs.{lemmas.List.take_more, lemmas.List.Sums.sum_by-append, lemmas.List.Sums.sum_by-cons, lemmas.Option.get_or_from_slice_get}
use Rattle.mc_protocol.specs.{declared.actor.Actor.Actor, declared.request.Request.Request, declared.reply.Reply.Reply}
use Rattle.mc_protocol.specs.declared.actor.Actor.TheVariants as actor
use Rattle.mc_model.specs.Notes.{History, Keeps, Noted, answered_before, answered_before_each, begins, is_record, is_same_section, is_waiting}
use Rattle.mc_model.specs.Notes.{replies_in, sections_in, with_notes}
use Rattle.mc_model.specs.{declared.sent.Sent.Sent, Sections.Sections, Sections.section_of, Sections.with_sent, History.are_answered, History.comes_late}
use Rattle.mc_model.specs.declared.note.Note.TheVariants as note
use Rattle.mc_model.proofs.{Answering.answered_push, Noting.answered_before-push, Noting.sections-begin, NoteFaults.balanced, NoteFaults.record_front}
use Rattle.mc_history.specs.{Claim.Claim, Turns.Turn}
use Rattle.mc_claims.specs.{Explains.Explains, Orders.HasActed, Orders.IsOrderOf, Orders.KeepsRecordedOrder, Orders.other_branch, Orders.turn_count}
use Rattle.mc_claims.proofs.Counts.{each_answered, moves_counted}
use Rattle.mc_explain.specs.Hopeless.{IsUnexplained}
use Rattle.mc_why.specs.{Cuts.count_of, Cuts.cut_of, CutLaws.RepliesStandAtPlaces}
use Rattle.mc_why.proofs.{Cuts.record_cut, OneLess.count_each, OneLess.in_order, OneLess.length-sent}

-- ---- the order stays allowed

acted_too : (xs acted : List Sent) (last : Sent) → last.reply ≡ None → are_answered xs ≡ true → HasActed xs acted → HasActed (xs ++ last ∷ []) acted
acted_too xs acted last none all (inl e) = inr (last, ap (λ (l : List Sent). l ++ last ∷ []) e, none)
acted_too xs acted last none all (inr (sent, e, n)) =
    let some = answered_push acted sent (sym (ap are_answered e) ∙ all) in
    absurd (cc)

ordered_too : (s : Sections) (who : Actor) (last : Sent) (order : List Turn) → last.reply ≡ None → are_answered (section_of s who) ≡ true → IsOrderOf s order
    → IsOrderOf (with_sent s who last) order
ordered_too s actor.P last order none all o =
    record {
      p = o.p;
      a = o.a;
      b = o.b;
      branches = o.branches;
      p_acted = acted_too s.p o.p last none all o.p_acted;
      a_acted = o.a_acted;
      b_acted = o.b_acted;
      merged = o.merged;
      whole = o.whole;
    }
ordered_too s actor.A last order none all o =
    record {
      p = o.p;
      a = o.a;
      b = o.b;
      branches = o.branches;
      p_acted = o.p_acted;
      a_acted = acted_too s.a o.a last none all o.a_acted;
      b_acted = o.b_acted;
      merged = o.merged;
      whole = o.whole;
    }
ordered_too s actor.B last order none all o =
    record {
      p = o.p;
      a = o.a;
      b = o.b;
      branches = o.branches;
      p_acted = o.p_acted;
      a_acted = o.a_acted;
      b_acted = acted_too s.b o.b last none all o.b_acted;
      merged = o.merged;
      whole = o.whole;
    }

front_same : (xs ys : List ℕ) (i : ℕ) → i < length xs → get_or (xs ++ ys) i 0 ≡ get_or xs i 0
front_same [] ys i less = absurd (omega arith)
front_same (x ∷ xs) ys zero less = refl
front_same (x ∷ xs) ys (suc i) less = front_same xs ys i (omega arith)

-- what was answered before a request that had begun stays the same
before_same : (section other : Actor) (notes : List Noted) (next : Noted) (i : ℕ) → i < length (answered_before_each section other notes)
    → get_or (answered_before_each section other (notes ++ next ∷ [])) i 0 ≡ get_or (answered_before_each section other notes) i 0
before_same section other notes next i less =
    ap (λ (l : List ℕ). get_or l i 0) (answered_before-push section other notes next)
    ∙ front_same (answered_before_each section other notes) (if begins section next then length (replies_in other notes) ∷ [] else []) i less

answered_same : (section : Actor) (notes : List Noted) (next : Noted) (i : ℕ) → i < length (section_of (sections_in notes) section)
    → answered_before (Some (notes ++ next ∷ [])) section i ≡ answered_before (Some notes) section i
answered_same actor.P notes next i less = refl
answered_same actor.A notes next i less =
    let each = count_each actor.A actor.B notes in
    let own = length-sent actor.A notes in
    before_same actor.A actor.B notes next i (omega (arith, each, own, less))
answered_same actor.B notes next i less =
    let each = count_each actor.B actor.A notes in
    let own = length-sent actor.B notes in
    before_same actor.B actor.A notes next i (omega (arith, each, own, less))

-- before a turn stand fewer turns of its section than the section has requests
few_in_front : (h : History) (claim : Claim) (x : Explains h claim) (front : List Turn) (turn : Turn) (back : List Turn) → x.order ≡ front ++ turn ∷ back
    → is_same_section turn.0 turn.0 ≡ true → turn_count turn.0 front < length (section_of h.sections turn.0)
few_in_front h claim x front turn back e own =
    let all = sum_by-append (λ (t : Turn). cond {A = ℕ} (is_same_section turn.0 t.0) 1 0) front (turn ∷ back) in
    let one = sum_by-cons (λ (t : Turn). cond {A = ℕ} (is_same_section turn.0 t.0) 1 0) turn back in
    let mine = ap (λ b. cond {A = ℕ} b 1 0) own in
    let whole = ap (λ (l : List Turn). turn_count turn.0 l) e in
    let moves = moves_counted turn.0 claim.order x.order x.actors in
    let most = (each_answered h claim x turn.0).1 in
    omega (arith, all, one, mine, whole, moves, most)

same_section : (section : Actor) → is_same_section section section ≡ true
same_section actor.P = refl
same_section actor.A = refl
same_section actor.B = refl

idle : (waits first late : Bool) → (waits || first || late) ≡ false → waits ≡ false
idle true first late e = absurd (cc)
idle false first late e = refl

answered : (all : Bool) → not all ≡ false → all ≡ true
answered true e = refl
answered false e = absurd (cc)

begun_explained : (notes : List Noted) (who : Actor) (request : Request) (claim : Claim) → is_record (notes ++ (who, note.Begin request) ∷ []) ≡ true
    → Explains (with_notes notes) claim → Explains (with_notes (notes ++ (who, note.Begin request) ∷ [])) claim
begun_explained notes who request claim r x =
    let next : Noted = (who, note.Begin request) in
    let s = sections_in notes in
    let last : Sent = record { request = request; reply = None } in
    let free = idle (is_waiting s who) (is_waiting s actor.P) (comes_late s who) (in_order notes next r) in
    let all = answered (are_answered (section_of s who)) free in
    let sections = sections-begin notes who request (balanced notes who (record_front notes next r)) in
    let recorded : KeepsRecordedOrder (Some (notes ++ next ∷ [])) x.order =
    λ front turn back e.
    let less = few_in_front (with_notes notes) claim x front turn back e (same_section turn.0) in
    let same = answered_same turn.0 notes next (turn_count turn.0 front) less in
    let kept = x.allowed.recorded front turn back e in
    subst (λ (n : ℕ). n ≤ turn_count (other_branch turn.0) front) (sym same) kept in
    record {
      order = x.order;
      allowed = record {
        sections = subst (λ (t : Sections). IsOrderOf t x.order) (sym sections) (ordered_too s who last x.order refl all x.allowed.sections);
        recorded = recorded;
      };
      actors = x.actors;
      fit = x.fit;
      keys = x.keys;
      numbers = x.numbers;
      replies = x.replies;
    }

-- ---- what stands at the place

IsReplyAt : List Noted → ℕ → Type 0
IsReplyAt notes place = (section : Actor) × (reply : Reply) × (slice_get notes place ≡ Some (section, note.Reply reply))

reply_at : (notes : List Noted) (place : ℕ) (claim : Claim) (noted : Noted) → slice_get notes place ≡ Some noted → place < length notes
    → is_record notes ≡ true
    → Explains (with_notes (take place notes)) claim → IsUnexplained (with_notes (take (place + 1) notes)) → IsReplyAt notes place
unfolding IsReplyAt
reply_at notes place claim (who, note.Reply reply) e less r x none = (who, reply, e)
reply_at notes place claim (who, note.Begin request) e less r x none =
    let next : Noted = (who, note.Begin request) in
    let more : take (place + 1) notes ≡ take place notes ++ next ∷ [] = take_more notes place next less
    ∙ ap (λ (n : Noted). take place notes ++ n ∷ []) (get_or_from_slice_get notes place next next e) in
    let kept : is_record (take place notes ++ next ∷ []) ≡ true = sym (ap is_record more) ∙ record_cut (place + 1) notes r in
    absurd (none claim (subst (λ (l : List Noted). Explains (with_notes l) claim) (sym more) (begun_explained (take place notes) who request claim kept x)))

replies_at : (kept : Option (List Noted)) (s : Sections) (notes : List Noted) (place : ℕ) (claim : Claim) → Keeps s kept → kept ≡ Some notes
    → place < count_of kept s → Explains (cut_of place kept s) claim → ((n : ℕ) → place < n → IsUnexplained (cut_of n kept s)) → IsReplyAt notes place
replies_at None s notes place claim keeps e less x none = absurd (cc)
replies_at (Some l) s notes place claim keeps e less x none =
    let same : l ≡ notes = cc in
    let (noted, at) = slice_get_of l place less in
    subst (λ (m : List Noted). IsReplyAt m place) same (reply_at l place claim noted at less keeps.0 x (none (place + 1) (omega arith)))
  where
    slice_get_of : (l : List Noted) (place : ℕ) → place < length l → (noted : Noted) × (slice_get l place ≡ Some noted)
    slice_get_of [] place less = absurd (omega arith)
    slice_get_of (x ∷ xs) zero less = (x, refl)
    slice_get_of (x ∷ xs) (suc n) less = slice_get_of xs n (omega arith)

pub replies_stand_at_places : RepliesStandAtPlaces
unfolding IsReplyAt
replies_stand_at_places h notes place claim is e from =
    replies_at h.notes h.sections notes place claim is.notes e from.within from.before from.onward
