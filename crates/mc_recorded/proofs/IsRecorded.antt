-- What a lane recorded, part by part.
use Rattle.std.specs.Prelude.{◌≡◌, ◌↔◌, ℕ, true, Bool, Option, Some, Result, Ok, Err, IfOk, List}
use Rattle.std.proofs.Common.{sym, subst}
use Rattle.mc_protocol.specs.declared.fault.Fault.{Fault}
use Rattle.mc_model.specs.declared.sent.Sent.{Sent}
use Rattle.mc_lane.specs.Lanes.{LaneRecord}
use Rattle.mc_recorded.specs.Recorded.{WereSent, StandAtFront, IsShownBy, FaultsAgree, IsRecordedBy}
use Rattle.mc_recorded.proofs.InOrder.{fronts_once}

-- the answer, if there is one, says whether the fact holds
abbrev Answers : {E : Type 0} → Result Bool E → Type 0 → Type 0
Answers r P = IfOk r (λ answer. (answer ≡ true) ↔ P)

same_answer : {E : Type 0} (P Q : Type 0) (r : Result Bool E) → (P → Q) → (Q → P) → Answers r P → Answers r Q
same_answer P Q (Ok answer) to from h = (λ e. to (h.0 e), λ q. h.1 (from q))
same_answer P Q (Err e) to from h = tt

-- the fault of the lane ended the section, if the bytes show it
pub faults_answered : {E : Type 0} (requests : List Sent) (ended : Option Fault) (rest : List ℕ) (f : Fault) (given : Option Fault) (r : Result Bool E)
    → given ≡ Some f → ended ≡ Some f → Answers r (IsShownBy requests rest f) → Answers r (FaultsAgree requests ended rest given)
faults_answered requests ended rest f given r given_is ended_is h =
    subst (λ (x : Option Fault). Answers r (FaultsAgree requests ended rest x)) (sym given_is)
    (same_answer (IsShownBy requests rest f) (FaultsAgree requests ended rest (Some f)) r (λ shown. (ended_is, shown)) (λ agree. agree.1) h)

-- all was sent and received, if the faults agree
pub all_answered : {E : Type 0} (requests : List Sent) (ended : Option Fault) (lane : LaneRecord) (sent got rest : List ℕ) (given : Option Fault)
    (r : Result Bool E) → sent ≡ lane.sent → got ≡ lane.got → given ≡ lane.fault → WereSent requests ended sent → StandAtFront requests got rest
    → Answers r (FaultsAgree requests ended rest given) → Answers r (IsRecordedBy requests ended lane)
all_answered requests ended lane sent got rest given r sent_is got_is given_is were stand h =
    let whole = subst (WereSent requests ended) sent_is were in
    let there = subst (λ (g : List ℕ). StandAtFront requests g rest) got_is stand in
    let faults = subst (λ (x : Option Fault). Answers r (FaultsAgree requests ended rest x)) given_is h in
    same_answer (FaultsAgree requests ended rest lane.fault) (IsRecordedBy requests ended lane) r
    (λ agree. record { sent = whole; rest = rest; received = there; faults = agree })
    (λ all. subst (λ (x : List ℕ). FaultsAgree requests ended x lane.fault)
    (fronts_once requests lane.got all.rest rest all.received there) all.faults)
    faults
