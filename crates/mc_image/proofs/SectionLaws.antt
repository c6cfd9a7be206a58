-- Budgets and instructions: what is read was written, and keeps the limits; and what was written is read again.
use Rattle.std.proofs.Common.{◌≡◌, ℕ, zero, suc, ◌^◌, ◌≤◌, leb, Some, List, [], ◌∷◌, ◌++◌, length, All, refl, subst, sym, arith}
use Rattle.std.proofs.lemmas.Bool.{leb-true, le-leb}
use Rattle.std.proofs.lemmas.List.Elements.{All-nil, All-push, All-from_get_or}
use Rattle.std.specs.Int.{w16, to_be_bytes}
use Rattle.mc_protocol.specs.declared.limits.TheConstants.{REQUESTS_LIMIT, REQUEST_BYTES_LIMIT}
use Rattle.mc_script.specs.Chains.{◌>>=◌}
use Rattle.mc_script.specs.{declared.section.Budget.Budget, declared.version.Version.Version, Versions.steps_limit}
use Rattle.mc_code.specs.{declared.instr.Instr.Instr, declared.limits.TheConstants.CLASS_COUNT, Code.is_byte, Code.IsInstr}
use Rattle.mc_code.specs.declared.instr.Instr.TheVariants as instr
use Rattle.mc_image.specs.Image.{budget_bytes, instr_bytes, with_count}
use Rattle.mc_image.specs.ImageReading.{bytes_in, byte_in, number_in, small_in, budget_in, send_in, bind_in, goto_in, after_sort, instr_in, instructions_in}
use Rattle.mc_image.proofs.FieldLaws.{then-some, only-then, some-same, IsBytes, Takes, Takes-then, bytes_take, bytes_again, byte_takes}
use Rattle.mc_image.proofs.FieldLaws.{byte_again, wide16, number_takes, number_again, small_takes, small_again}
use Rattle.mc_image.proofs.{ItemLaws.IsItem, ItemLaws.counted_takes, ItemLaws.counted_again, TemplateLaws.middle}

-- ---- budgets

pub budget_takes : (bytes : List ℕ) (x : Budget × List ℕ) → IsBytes bytes → budget_in bytes ≡ Some x
    → Takes bytes (budget_bytes x.0) x.1 × (x.0.requests ≤ REQUESTS_LIMIT) × (x.0.bytes ≤ REQUEST_BYTES_LIMIT)
unfolding budget_in
budget_takes bytes x fits e =
    let r = then-some (small_in 0 REQUESTS_LIMIT bytes) _ x e in
    let b = then-some (number_in w16 r.0.1) _ x r.2 in
    let made : Budget × List ℕ = (record { requests = r.0.0; bytes = b.0.0 }, b.0.1) in
    let g = only-then (leb b.0.0 REQUEST_BYTES_LIMIT) (Some made) x b.2 in
    let tr = small_takes 0 REQUESTS_LIMIT bytes r.0 fits r.1 in
    let tb = number_takes w16 (2 ^ 16) wide16 r.0.1 b.0 tr.0.fits b.1 in
    let both = Takes-then bytes (r.0.0 ∷ []) r.0.1 (to_be_bytes w16 b.0.0) b.0.1 tr.0 tb.0 in
    subst (λ (y : Budget × List ℕ). Takes bytes (budget_bytes y.0) y.1 × (y.0.requests ≤ REQUESTS_LIMIT) × (y.0.bytes ≤ REQUEST_BYTES_LIMIT))
    (some-same made x g.1)
    (both, tr.2, leb-true _ _ g.0)

pub budget_again : (budget : Budget) (rest : List ℕ) → budget.requests ≤ REQUESTS_LIMIT → budget.bytes ≤ REQUEST_BYTES_LIMIT
    → budget_in (budget_bytes budget ++ rest) ≡ Some (budget, rest)
unfolding budget_in
budget_again budget rest few-requests few-bytes =
    rw (
      small_again 0 REQUESTS_LIMIT budget.requests (to_be_bytes w16 budget.bytes ++ rest) (omega arith) few-requests,
      number_again w16 (2 ^ 16) wide16 budget.bytes rest (omega (arith, few-bytes)),
      le-leb budget.bytes REQUEST_BYTES_LIMIT few-bytes,
    ) refl

-- ---- one instruction

-- what was read after the sort
abbrev Behind : ℕ → List ℕ → Instr × List ℕ → Type 0
Behind sort bytes x = (text : List ℕ) × Takes bytes text x.1 × (instr_bytes x.0 ≡ sort ∷ text) × IsInstr x.0

send_takes : (bytes : List ℕ) (x : Instr × List ℕ) → IsBytes bytes → send_in bytes ≡ Some x → Behind 0 bytes x
unfolding send_in
send_takes bytes x fits e =
    let t = then-some (byte_in bytes) (λ t. bytes_in CLASS_COUNT t.1 >>= λ next. Some (instr.Send t.0 next.0, next.1)) x e in
    let n = then-some (bytes_in CLASS_COUNT t.0.1) (λ next. Some (instr.Send t.0.0 next.0, next.1)) x t.2 in
    let tt0 = byte_takes bytes t.0 fits t.1 in
    let tn = bytes_take CLASS_COUNT t.0.1 n.0 tt0.0.fits n.1 in
    let both = Takes-then bytes (t.0.0 ∷ []) t.0.1 n.0.0 n.0.1 tt0.0 tn.0 in
    let each : All is_byte n.0.0 = All-from_get_or is_byte n.0.0 0 (λ i lt. tn.2 i) in
    subst (Behind 0 bytes) (some-same (instr.Send t.0.0 n.0.0, n.0.1) x n.2) (t.0.0 ∷ n.0.0, both, refl, (tt0.1, tn.1, each))

bind_takes : (bytes : List ℕ) (x : Instr × List ℕ) → IsBytes bytes → bind_in bytes ≡ Some x → Behind 1 bytes x
unfolding bind_in
bind_takes bytes x fits e =
    let v = then-some (byte_in bytes) (λ v. Some (instr.Bind v.0, v.1)) x e in
    let t = byte_takes bytes v.0 fits v.1 in
    subst (Behind 1 bytes) (some-same (instr.Bind v.0.0, v.0.1) x v.2) (v.0.0 ∷ [], t.0, refl, t.1)

goto_takes : (bytes : List ℕ) (x : Instr × List ℕ) → IsBytes bytes → goto_in bytes ≡ Some x → Behind 2 bytes x
unfolding goto_in
goto_takes bytes x fits e =
    let p = then-some (byte_in bytes) (λ p. Some (instr.Goto p.0, p.1)) x e in
    let t = byte_takes bytes p.0 fits p.1 in
    subst (Behind 2 bytes) (some-same (instr.Goto p.0.0, p.0.1) x p.2) (p.0.0 ∷ [], t.0, refl, t.1)

halt_takes : (bytes : List ℕ) (x : Instr × List ℕ) → IsBytes bytes → Some (instr.Halt, bytes) ≡ Some x → Behind 3 bytes x
halt_takes bytes x fits e =
    subst (Behind 3 bytes) (some-same (instr.Halt, bytes) x e) ([], record { parts = refl; fits = fits }, refl, tt)

after_takes : (sort : ℕ) (bytes : List ℕ) (x : Instr × List ℕ) → sort ≤ 3 → IsBytes bytes → after_sort sort bytes ≡ Some x → Behind sort bytes x
unfolding after_sort
after_takes zero bytes x le fits e = send_takes bytes x fits e
after_takes (suc zero) bytes x le fits e = bind_takes bytes x fits e
after_takes (suc (suc zero)) bytes x le fits e = goto_takes bytes x fits e
after_takes (suc (suc (suc zero))) bytes x le fits e = halt_takes bytes x fits e
after_takes (suc (suc (suc (suc n)))) bytes x le fits e = absurd (omega arith)

instr_takes : (bytes : List ℕ) (x : Instr × List ℕ) → IsBytes bytes → instr_in bytes ≡ Some x → Takes bytes (instr_bytes x.0) x.1 × IsInstr x.0
unfolding instr_in
instr_takes bytes x fits e =
    let s = then-some (small_in 0 3 bytes) (λ sort. after_sort sort.0 sort.1) x e in
    let t = small_takes 0 3 bytes s.0 fits s.1 in
    let b = after_takes s.0.0 s.0.1 x t.2 t.0.fits s.2 in
    (subst (λ (text : List ℕ). Takes bytes text x.1) (sym b.2) (Takes-then bytes (s.0.0 ∷ []) s.0.1 b.0 x.1 t.0 b.1), b.3)

instr_again : (i : Instr) (rest : List ℕ) → IsInstr i → instr_in (instr_bytes i ++ rest) ≡ Some (i, rest)
unfolding instr_in after_sort send_in bind_in goto_in
instr_again (instr.Send template next) rest h =
    rw (small_again 0 3 0 (template ∷ (next ++ rest)) (omega arith) (omega arith), byte_again template (next ++ rest), bytes_again CLASS_COUNT next rest h.1)
    refl
instr_again (instr.Bind variable) rest h = rw (small_again 0 3 1 (variable ∷ rest) (omega arith) (omega arith), byte_again variable rest) refl
instr_again (instr.Goto place) rest h = rw (small_again 0 3 2 (place ∷ rest) (omega arith) (omega arith), byte_again place rest) refl
instr_again instr.Halt rest h = rw (small_again 0 3 3 rest (omega arith) (omega arith)) refl

-- ---- all instructions

instructions_law : IsItem (λ _. instr_in) instr_bytes (All IsInstr)
instructions_law = record {
  takes = λ is bytes x fits h e. let t = instr_takes bytes x fits e in (t.0, All-push IsInstr is x.0 h t.1);
  again = λ is i others rest h. instr_again i rest (middle IsInstr is i others h);
}

pub instructions_take : (v : Version) (bytes : List ℕ) (x : List Instr × List ℕ) → IsBytes bytes → instructions_in v bytes ≡ Some x
    → Takes bytes (with_count instr_bytes x.0) x.1 × (length x.0 ≤ steps_limit v) × All IsInstr x.0
unfolding instructions_in
instructions_take v bytes x fits e =
    let t = counted_takes (λ _. instr_in) instr_bytes (All IsInstr) instructions_law 0 (steps_limit v) bytes x fits (All-nil IsInstr) e in
    (t.0, t.2, t.3)

pub instructions_again : (v : Version) (is : List Instr) (rest : List ℕ) → length is ≤ steps_limit v → All IsInstr is
    → instructions_in v (with_count instr_bytes is ++ rest) ≡ Some (is, rest)
unfolding instructions_in
instructions_again v is rest few h = counted_again (λ _. instr_in) instr_bytes (All IsInstr) instructions_law 0 (steps_limit v) is rest h (omega arith) few
