-- The sections that notes spell, with one more note.
use Rattle.std.proofs.Common.{◌≡◌, ℕ, suc, nat_le, ◌+◌, ◌<◌, ◌≤◌, Bool, true, false, not, ◌||◌, Some, None, List, [], ◌∷◌, ◌++◌, length}
use Rattle.std.proofs.Common.{map, if◌then◌else◌, arith, refl, sym, ap, ap₂, subst, ◌∙◌, length-append, append-nil, append_assoc}
use Rattle.std.proofs.lemmas.Bool.{and_parts, not-true, leb-true, leb-false, le-leb, lt-leb}
use Rattle.std.proofs.lemmas.{Bool.Decides.nat_tests, List.map-append, List.Concat.flat_map-append}
use Rattle.mc_model.specs.Notes.{Noted, begun_by, replied_by, requests_in, replies_in, with_replies, sent_in, sections_in, is_waiting}
use Rattle.mc_model.specs.Notes.{is_out_of_order, are_in_order, is_same_section, begins, notes_before_each, answered_before_each}
use Rattle.mc_model.specs.{Types.Actor, Types.Request, Types.Reply, Types.Sent, Types.Note, Sections.section_of, Sections.with_sent, History.are_answered}
use Rattle.mc_model.specs.{History.comes_late, Next.with_section, Next.with_last_reply, Next.after_reply}
use Rattle.mc_protocol.specs.declared.actor.Actor.TheVariants as actor
use Rattle.mc_model.specs.declared.note.Note.TheVariants as note
use Rattle.mc_model.proofs.Prefixes.{added_last, same_section}

-- ---- requests and replies with one more note

pub requests-push : (section : Actor) (notes : List Noted) (noted : Noted)
    → requests_in section (notes ++ noted ∷ []) ≡ requests_in section notes ++ begun_by section noted
requests-push section notes noted =
    flat_map-append (begun_by section) notes (noted ∷ []) ∙ ap (λ l. requests_in section notes ++ l) (append-nil (begun_by section noted))

pub replies-push : (section : Actor) (notes : List Noted) (noted : Noted)
    → replies_in section (notes ++ noted ∷ []) ≡ replies_in section notes ++ replied_by section noted
replies-push section notes noted =
    flat_map-append (replied_by section) notes (noted ∷ []) ∙ ap (λ l. replies_in section notes ++ l) (append-nil (replied_by section noted))

-- a section with one more note, as far as it is one of the section
sent_more : (section : Actor) (notes : List Noted) (noted : Noted) → sent_in section (notes ++ noted ∷ [])
    ≡ with_replies (requests_in section notes ++ begun_by section noted) (replies_in section notes ++ replied_by section noted)
sent_more section notes noted = ap₂ with_replies (requests-push section notes noted) (replies-push section notes noted)

-- ---- the requests with their replies

-- one more request
request_more : (requests : List Request) (replies : List Reply) (request : Request) → length replies ≤ length requests
    → with_replies (requests ++ request ∷ []) replies ≡ with_replies requests replies ++ record { request = request; reply = None } ∷ []
request_more [] [] request few = refl
request_more [] (x ∷ xs) request few = absurd (omega (arith, few))
request_more (r ∷ rs) [] request few = ap (λ l. record { request = r; reply = None } ∷ l) (request_more rs [] request (omega arith))
request_more (r ∷ rs) (x ∷ xs) request few = ap (λ l. record { request = r; reply = Some x } ∷ l) (request_more rs xs request (omega (arith, few)))

-- one more reply, where one is awaited
reply_more : (requests : List Request) (replies : List Reply) (reply : Reply) → length requests ≡ length replies + 1
    → with_replies requests (replies ++ reply ∷ []) ≡ with_last_reply (with_replies requests replies) reply
reply_more [] xs reply one = absurd (omega (arith, one))
reply_more (r ∷ []) [] reply one = refl
reply_more (r ∷ q ∷ rs) [] reply one = absurd (omega (arith, one))
reply_more (r ∷ []) (x ∷ xs) reply one = absurd (omega (arith, one))
reply_more (r ∷ q ∷ rs) (x ∷ []) reply one =
    ap (λ l. record { request = r; reply = Some x } ∷ l) (reply_more (q ∷ rs) [] reply (omega (arith, one)))
reply_more (r ∷ q ∷ rs) (x ∷ y ∷ xs) reply one =
    ap (λ l. record { request = r; reply = Some x } ∷ l) (reply_more (q ∷ rs) (y ∷ xs) reply (omega (arith, one)))

-- a reply for which no request waits changes nothing
reply_late : (requests : List Request) (replies : List Reply) (reply : Reply) → length requests ≤ length replies
    → with_replies requests (replies ++ reply ∷ []) ≡ with_replies requests replies
reply_late [] xs reply many = refl
reply_late (r ∷ rs) [] reply many = absurd (omega (arith, many))
reply_late (r ∷ rs) (x ∷ xs) reply many = ap (λ l. record { request = r; reply = Some x } ∷ l) (reply_late rs xs reply (omega (arith, many)))

-- ---- how many of both there are

-- all were answered exactly where there are no more requests than replies
answered_by_counts : (requests : List Request) (replies : List Reply) → are_answered (with_replies requests replies) ≡ nat_le (length requests) (length replies)
answered_by_counts [] xs = sym (le-leb 0 (length xs) (omega arith))
answered_by_counts (r ∷ rs) [] = sym (lt-leb (length (r ∷ rs)) 0 (omega arith))
answered_by_counts (r ∷ rs) (x ∷ xs) = answered_by_counts rs xs ∙ shifted (length rs) (length xs)
  where
    shifted : (m n : ℕ) → nat_le m n ≡ nat_le (suc m) (suc n)
    shifted m n = grind (arith, nat_tests)

-- the last request waits, where there is one more than there are replies
pub waiting_last : (requests : List Request) (replies : List Reply) → length requests ≡ length replies + 1
    → (front : List Sent) × (request : Request) × (with_replies requests replies ≡ front ++ record { request = request; reply = None } ∷ [])
waiting_last [] xs one = absurd (omega (arith, one))
waiting_last (r ∷ []) [] one = ([], r, refl)
waiting_last (r ∷ q ∷ rs) [] one = absurd (omega (arith, one))
waiting_last (r ∷ []) (x ∷ xs) one = absurd (omega (arith, one))
waiting_last (r ∷ q ∷ rs) (x ∷ xs) one =
    let (front, request, e) = waiting_last (q ∷ rs) xs (omega (arith, one)) in
    (record { request = r; reply = Some x } ∷ front, request, ap (λ l. record { request = r; reply = Some x } ∷ l) e)

-- a section has as many replies as requests, or one less
abbrev pub IsBalanced : List Noted → Actor → Type 0
IsBalanced notes section =
    (length (replies_in section notes) ≤ length (requests_in section notes)) × (length (requests_in section notes) ≤ length (replies_in section notes) + 1)

-- the section waits exactly if it has more requests than replies
waiting_by_counts : (section : Actor) (notes : List Noted) → not (are_answered (sent_in section notes)) ≡ true
    → length (replies_in section notes) < length (requests_in section notes)
waiting_by_counts section notes w =
    leb-false (length (requests_in section notes)) (length (replies_in section notes))
    (sym (answered_by_counts (requests_in section notes) (replies_in section notes)) ∙ not-true (are_answered (sent_in section notes)) w)

pub no_more_requests : (section : Actor) (notes : List Noted) → are_answered (sent_in section notes) ≡ true
    → length (requests_in section notes) ≤ length (replies_in section notes)
no_more_requests section notes all =
    leb-true (length (requests_in section notes)) (length (replies_in section notes))
    (sym (answered_by_counts (requests_in section notes) (replies_in section notes)) ∙ all)

pub section_in : (section : Actor) (notes : List Noted) → section_of (sections_in notes) section ≡ sent_in section notes
section_in actor.P notes = refl
section_in actor.A notes = refl
section_in actor.B notes = refl

same_actor : (a b : Actor) → is_same_section a b ≡ true → a ≡ b
same_actor actor.P actor.P e = refl
same_actor actor.A actor.A e = refl
same_actor actor.B actor.B e = refl
same_actor _ _ e = absurd cc

-- a note that is in order keeps the balance
balanced_push : (section : Actor) (notes : List Noted) (noted : Noted) → IsBalanced notes section → is_out_of_order (sections_in notes) noted ≡ false
    → IsBalanced (notes ++ noted ∷ []) section
balanced_push section notes (who, note.Begin request) both in_order =
    rw (
      requests-push section notes (who, note.Begin request),
      replies-push section notes (who, note.Begin request),
      append-nil
          (replies_in section notes),
      length-append,
    )
    (by (length (requests_in section notes)) (length (replies_in section notes)) (is_same_section section who) both.0 both.1 own)
  where
    idle : (w wp late : Bool) → (not w || wp || late) ≡ false → w ≡ true
    idle w wp late e = grind arith

    own : is_same_section section who ≡ true → length (requests_in section notes) ≤ length (replies_in section notes)
    own same =
        let in_turn = subst (λ who. is_out_of_order (sections_in notes) (who, note.Begin request) ≡ false) (sym (same_actor section who same)) in_order in
        let answered = idle (are_answered (section_of (sections_in notes) section)) (is_waiting (sections_in notes) actor.P)
        (comes_late (sections_in notes) section) in_turn in
        no_more_requests section notes (sym (ap are_answered (section_in section notes)) ∙ answered)

    by : (q p : ℕ) (same : Bool) → p ≤ q → q ≤ p + 1 → (same ≡ true → q ≤ p)
        → (p ≤ q + length (if same then request ∷ [] else [])) × (q + length (if same then request ∷ [] else []) ≤ p + 1)
    by q p true low high few = let h = few refl in (omega arith, omega arith)
    by q p false low high few = (omega arith, omega arith)
balanced_push section notes (who, note.Reply reply) both in_order =
    rw (
      requests-push section notes (who, note.Reply reply),
      replies-push section notes (who, note.Reply reply),
      append-nil
          (requests_in section notes),
      length-append,
    )
    (by (length (requests_in section notes)) (length (replies_in section notes)) (is_same_section section who) both.0 both.1 own)
  where
    awaits : (w late : Bool) → (not w || late) ≡ false → w ≡ true
    awaits w late e = grind arith

    own : is_same_section section who ≡ true → length (replies_in section notes) < length (requests_in section notes)
    own same =
        let in_turn = subst (λ who. is_out_of_order (sections_in notes) (who, note.Reply reply) ≡ false) (sym (same_actor section who same)) in_order in
        let w = awaits (is_waiting (sections_in notes) section) (comes_late (sections_in notes) section) in_turn in
        waiting_by_counts section notes (sym (ap (λ l. not (are_answered l)) (section_in section notes)) ∙ w)

    by : (q p : ℕ) (same : Bool) → p ≤ q → q ≤ p + 1 → (same ≡ true → p < q)
        → (p + length (if same then reply ∷ [] else []) ≤ q) × (q ≤ p + length (if same then reply ∷ [] else []) + 1)
    by q p true low high more = let h = more refl in (omega arith, omega arith)
    by q p false low high more = (omega arith, omega arith)

-- notes in order keep the balance
pub balanced_along : (section : Actor) (earlier notes : List Noted) → IsBalanced earlier section → are_in_order earlier notes ≡ true
    → IsBalanced (earlier ++ notes) section
balanced_along section earlier [] few in_order = rw (append-nil earlier) few
balanced_along section earlier (noted ∷ notes) few in_order =
    let parts = and_parts (not (is_out_of_order (sections_in earlier) noted)) (are_in_order (earlier ++ noted ∷ []) notes) in_order in
    let next = balanced_push section earlier noted few (not-true (is_out_of_order (sections_in earlier) noted) parts.0) in
    let P : List Noted → Type 0 = λ l. IsBalanced l section in
    subst P (append_assoc earlier (noted ∷ []) notes) (balanced_along section (earlier ++ noted ∷ []) notes next parts.1)

-- ---- the sections with one more note

-- a note is of one section alone
noted_section : (notes : List Noted) (who : Actor) (n : Note) → sections_in (notes ++ (who, n) ∷ []) ≡ with_section (sections_in notes) who
    (with_replies (requests_in who notes ++ begun_by who (who, n)) (replies_in who notes ++ replied_by who (who, n)))
noted_section notes actor.P (note.Begin r) = simp (sent_more, append-nil)
noted_section notes actor.P (note.Reply r) = simp (sent_more, append-nil)
noted_section notes actor.A (note.Begin r) = simp (sent_more, append-nil)
noted_section notes actor.A (note.Reply r) = simp (sent_more, append-nil)
noted_section notes actor.B (note.Begin r) = simp (sent_more, append-nil)
noted_section notes actor.B (note.Reply r) = simp (sent_more, append-nil)

itself : (who : Actor) → is_same_section who who ≡ true
itself actor.P = refl
itself actor.A = refl
itself actor.B = refl

-- a request that begins is the last of its section
pub sections-begin : (notes : List Noted) (who : Actor) (request : Request) → IsBalanced notes who
    → sections_in (notes ++ (who, note.Begin request) ∷ []) ≡ with_sent (sections_in notes) who (record { request = request; reply = None })
sections-begin notes who request both =
    let open_one : Sent = record { request = request; reply = None } in
    noted_section notes who (note.Begin request)
    ∙ rw (itself who, append-nil (replies_in who notes), request_more (requests_in who notes) (replies_in who notes) request both.0, ← section_in who notes)
    (added_last (sections_in notes) who (section_of (sections_in notes) who) open_one
    ∙ ap (λ s. with_sent s who open_one) (same_section (sections_in notes) who))

-- the section waits for one reply
abbrev pub WaitsForOne : List Noted → Actor → Type 0
WaitsForOne notes section = length (requests_in section notes) ≡ length (replies_in section notes) + 1

pub waits_for_one : (notes : List Noted) (section : Actor) → IsBalanced notes section → are_answered (section_of (sections_in notes) section) ≡ false
    → WaitsForOne notes section
waits_for_one notes section both some =
    let more = waiting_by_counts section notes (ap not (sym (ap are_answered (section_in section notes)) ∙ some)) in
    omega (arith, more, both.1)

-- a reply is that to the last request of its section, or late
own_reply : (notes : List Noted) (who : Actor) (reply : Reply) → sections_in (notes ++ (who, note.Reply reply) ∷ [])
    ≡ with_section (sections_in notes) who (with_replies (requests_in who notes) (replies_in who notes ++ reply ∷ []))
own_reply notes who reply = noted_section notes who (note.Reply reply) ∙ rw (itself who, append-nil (requests_in who notes)) refl

pub sections-reply : (notes : List Noted) (who : Actor) (reply : Reply) → WaitsForOne notes who
    → sections_in (notes ++ (who, note.Reply reply) ∷ []) ≡ after_reply (sections_in notes) who reply
sections-reply notes who reply one =
    own_reply notes who reply ∙ ap (with_section (sections_in notes) who) (reply_more (requests_in who notes) (replies_in who notes) reply one
    ∙ ap (λ l. with_last_reply l reply) (sym (section_in who notes)))

-- a reply for which its section doesn't wait changes nothing
pub sections-no_reply : (notes : List Noted) (who : Actor) (reply : Reply) → length (requests_in who notes) ≤ length (replies_in who notes)
    → sections_in (notes ++ (who, note.Reply reply) ∷ []) ≡ sections_in notes
sections-no_reply notes who reply many =
    own_reply notes who reply ∙ ap (with_section (sections_in notes) who) (reply_late (requests_in who notes) (replies_in who notes) reply many
    ∙ sym (section_in who notes))
    ∙ same_section (sections_in notes) who

-- ---- counts

-- what was noted before each request, with one more note
pub before_each-push : (section : Actor) (notes : List Noted) (noted : Noted)
    → notes_before_each section (notes ++ noted ∷ []) ≡ notes_before_each section notes ++ (if begins section noted then notes ∷ [] else [])
before_each-push section [] noted = append-nil (if begins section noted then [] ∷ [] else [])
before_each-push section (x ∷ notes) noted =
    ap (λ l. (if begins section x then [] ∷ [] else []) ++ map (λ earlier. x ∷ earlier) l) (before_each-push section notes noted)
    ∙ ap (λ l. (if begins section x then [] ∷ [] else []) ++ l)
    (map-append (λ (earlier : List Noted). x ∷ earlier) (notes_before_each section notes) (if begins section noted then notes ∷ [] else [])
    ∙ ap (λ l. map (λ earlier. x ∷ earlier) (notes_before_each section notes) ++ l) (in_if (begins section noted)))
    ∙ sym (append_assoc (if begins section x then [] ∷ [] else []) (map (λ earlier. x ∷ earlier) (notes_before_each section notes))
    (if begins section noted then (x ∷ notes) ∷ [] else []))
  where
    in_if : (b : Bool) → map (λ (earlier : List Noted). x ∷ earlier) (if b then notes ∷ [] else []) ≡ (if b then (x ∷ notes) ∷ [] else [])
    in_if true = refl
    in_if false = refl

-- the counts with one more note
pub answered_before-push : (section other : Actor) (notes : List Noted) (noted : Noted)
    → answered_before_each section other (notes ++ noted ∷ [])
    ≡ answered_before_each section other notes ++ (if begins section noted then length (replies_in other notes) ∷ [] else [])
answered_before-push section other notes noted =
    ap (map count) (before_each-push section notes noted)
    ∙ map-append count (notes_before_each section notes) (if begins section noted then notes ∷ [] else [])
    ∙ ap (λ l. map count (notes_before_each section notes) ++ l) (in_if (begins section noted))
  where
    count : List Noted → ℕ
    count earlier = length (replies_in other earlier)

    in_if : (b : Bool) → map count (if b then notes ∷ [] else []) ≡ (if b then length (replies_in other notes) ∷ [] else [])
    in_if true = refl
    in_if false = refl

pub reply_count-push : (other : Actor) (notes : List Noted) (noted : Noted)
    → length (replies_in other (notes ++ noted ∷ [])) ≡ length (replies_in other notes) + length (replied_by other noted)
reply_count-push other notes noted = ap length (replies-push other notes noted) ∙ length-append (replies_in other notes) (replied_by other noted)
