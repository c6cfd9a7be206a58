-- Which faults bytes show.
use Rattle.std.specs.Prelude.{◌≡◌, ◌↔◌, ℕ, true, false, Option, Some, None, Ok, Err, List, take, drop}
use Rattle.std.proofs.Common.{refl, sym, subst, ◌∙◌}
use Rattle.std.proofs.lemmas.List.{take-append-drop}
use Rattle.mc_protocol.specs.{Lines.Word, declared.fault.Fault.Fault, declared.reply.Reply.Reply, declared.request.Verb.Verb}
use Rattle.mc_protocol.specs.declared.fault.Fault.TheVariants as fault
use Rattle.mc_model.specs.declared.sent.Sent.{Sent}
use Rattle.mc_lane.specs.Receiving.{IsMalformed}
use Rattle.mc_reader.specs.{Replies.Spells, Replies.HasFailed, declared.fault.ReadFault.ReadFault}
use Rattle.mc_reader.specs.declared.fault.ReadFault.TheVariants as read_fault
use Rattle.mc_recorded.specs.Recorded.{waiting_of, FailsForWaiting, IsShownBy}
use Rattle.mc_recorded.specs.{Fronts.BeginsWith, Fronts.BeginsForWaiting, Fronts.shows, declared.front.Front.Front}
use Rattle.mc_recorded.specs.declared.front.Front.TheVariants as front
use Rattle.mc_recorded.proofs.FromReader.{one_reply}

-- ---- bytes fail in one way

fails_once : (verb : Verb) (key : Word) (bytes : List ℕ) (f g : ReadFault) → HasFailed verb key bytes f → HasFailed verb key bytes g → f ≡ g
fails_once verb key bytes f g a b =
    let same = one_reply verb key a.front b.front a.back b.back (Err f) (Err g) a.fails b.fails (a.cut ∙ sym b.cut) in
    let alike = same.1 in
    cc

-- and bytes that begin with a whole reply don't
not_both : (verb : Verb) (key : Word) (bytes : List ℕ) (used : ℕ) (reply : Reply) (f : ReadFault) → Spells verb key (take used bytes) reply
    → HasFailed verb key bytes f → ⊥
not_both verb key bytes used reply f spelled a =
    let same = one_reply verb key (take used bytes) a.front (drop used bytes) a.back (Ok reply) (Err f) spelled a.fails
    (take-append-drop used bytes ∙ sym a.cut) in
    let alike = same.1 in
    cc

-- ---- the request that waits

-- none waits
none_waits : (requests : List Sent) (bytes : List ℕ) (f : ReadFault) → waiting_of requests ≡ None → FailsForWaiting requests bytes f → ⊥
none_waits requests bytes f none (s, waits, failed) = let e = sym none ∙ waits in cc

-- one waits, and the bytes fail for it
fails_for : (requests : List Sent) (bytes : List ℕ) (s : Sent) (f : ReadFault) → waiting_of requests ≡ Some s
    → FailsForWaiting requests bytes f → HasFailed s.request.verb s.request.key bytes f
fails_for requests bytes s f waits (other, waits', failed) =
    let same : other ≡ s = (let e = sym waits' ∙ waits in cc) in
    subst (λ (x : Sent). HasFailed x.request.verb x.request.key bytes f) same failed

not_malformed : (requests : List Sent) (bytes : List ℕ) (s : Sent) (f : Front) → waiting_of requests ≡ Some s
    → BeginsWith s.request.verb s.request.key bytes f → shows fault.BadReply (Some f) ≡ false → IsShownBy requests bytes fault.BadReply → ⊥
not_malformed requests bytes s (front.Whole reply used) waits begins unseen (f, malformed, failed) =
    not_both s.request.verb s.request.key bytes used reply f begins.1 (fails_for requests bytes s f waits failed)
not_malformed requests bytes s front.Malformed waits begins unseen shown = absurd (cc)
not_malformed requests bytes s front.ErrorLine waits (kind, error) unseen (f, malformed, failed) =
    let same = fails_once s.request.verb s.request.key bytes f (read_fault.ErrorLine kind) (fails_for requests bytes s f waits failed) error in
    subst IsMalformed same malformed
not_malformed requests bytes s front.Unfinished waits begins unseen (f, malformed, failed) =
    let a = fails_for requests bytes s f waits failed in
    begins a.front a.back (Err f) a.cut a.fails

not_error : (requests : List Sent) (bytes : List ℕ) (s : Sent) (f : Front) → waiting_of requests ≡ Some s
    → BeginsWith s.request.verb s.request.key bytes f → shows fault.ErrorLine (Some f) ≡ false → IsShownBy requests bytes fault.ErrorLine → ⊥
not_error requests bytes s (front.Whole reply used) waits begins unseen (kind, failed) =
    not_both s.request.verb s.request.key bytes used reply _ begins.1 (fails_for requests bytes s _ waits failed)
not_error requests bytes s front.Malformed waits (f, malformed, bad) unseen (kind, failed) =
    let same = fails_once s.request.verb s.request.key bytes f (read_fault.ErrorLine kind) bad (fails_for requests bytes s _ waits failed) in
    subst IsMalformed same malformed
not_error requests bytes s front.ErrorLine waits begins unseen shown = absurd (cc)
not_error requests bytes s front.Unfinished waits begins unseen (kind, failed) =
    let a = fails_for requests bytes s _ waits failed in
    begins a.front a.back _ a.cut a.fails

-- ---- what is shown

bad_reply : (requests : List Sent) (bytes : List ℕ) (f : Option Front) → BeginsForWaiting requests bytes f
    → (shows fault.BadReply f ≡ true) ↔ IsShownBy requests bytes fault.BadReply
bad_reply requests bytes None none =
    (λ (h : false ≡ true). absurd (cc), λ shown. absurd (none_waits requests bytes shown.0 none shown.2))
bad_reply requests bytes (Some front.Malformed) (s, waits, (g, malformed, failed)) = (λ _. (g, malformed, (s, waits, failed)), λ _. refl)
bad_reply requests bytes (Some (front.Whole reply used)) (s, waits, begins) =
    (λ (h : false ≡ true). absurd (cc), λ shown. absurd (not_malformed requests bytes s (front.Whole reply used) waits begins refl shown))
bad_reply requests bytes (Some front.ErrorLine) (s, waits, begins) =
    (λ (h : false ≡ true). absurd (cc), λ shown. absurd (not_malformed requests bytes s front.ErrorLine waits begins refl shown))
bad_reply requests bytes (Some front.Unfinished) (s, waits, begins) =
    (λ (h : false ≡ true). absurd (cc), λ shown. absurd (not_malformed requests bytes s front.Unfinished waits begins refl shown))

error_line : (requests : List Sent) (bytes : List ℕ) (f : Option Front) → BeginsForWaiting requests bytes f
    → (shows fault.ErrorLine f ≡ true) ↔ IsShownBy requests bytes fault.ErrorLine
error_line requests bytes None none =
    (λ (h : false ≡ true). absurd (cc), λ shown. absurd (none_waits requests bytes (read_fault.ErrorLine shown.0) none shown.1))
error_line requests bytes (Some front.ErrorLine) (s, waits, (kind, failed)) = (λ _. (kind, (s, waits, failed)), λ _. refl)
error_line requests bytes (Some (front.Whole reply used)) (s, waits, begins) =
    (λ (h : false ≡ true). absurd (cc), λ shown. absurd (not_error requests bytes s (front.Whole reply used) waits begins refl shown))
error_line requests bytes (Some front.Malformed) (s, waits, begins) =
    (λ (h : false ≡ true). absurd (cc), λ shown. absurd (not_error requests bytes s front.Malformed waits begins refl shown))
error_line requests bytes (Some front.Unfinished) (s, waits, begins) =
    (λ (h : false ≡ true). absurd (cc), λ shown. absurd (not_error requests bytes s front.Unfinished waits begins refl shown))

pub shown_where : (requests : List Sent) (bytes : List ℕ) (f : Option Front) (why : Fault) → BeginsForWaiting requests bytes f
    → (shows why f ≡ true) ↔ IsShownBy requests bytes why
shown_where requests bytes f fault.BadReply begins = bad_reply requests bytes f begins
shown_where requests bytes f fault.ErrorLine begins = error_line requests bytes f begins
shown_where requests bytes f fault.WriteFailed begins = (λ _. tt, λ _. refl)
shown_where requests bytes f fault.ReadFailed begins = (λ _. tt, λ _. refl)
shown_where requests bytes f fault.Ended begins = (λ _. tt, λ _. refl)
shown_where requests bytes f fault.TooMuch begins = (λ _. tt, λ _. refl)
shown_where requests bytes f fault.Closed begins = (λ _. tt, λ _. refl)
shown_where requests bytes f fault.Memory begins = (λ _. tt, λ _. refl)
