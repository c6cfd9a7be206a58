use Rattle.std.proofs.Common.{◌≡◌, ◌-◌, ℕ, true, false, List, length, take, sym, ap, ap₂, ◌∙◌}
use Rattle.mc_model.specs.{declared.sent.Sent.Sent, History.is_history}
use Rattle.mc_why.proofs.Cuts.{memory_alone, same_sections, sections_cut}
use Rattle.mc_why.proofs.cutting.cut_sections.Goals as goal

pub want_of_memory-requires : goal.want_of_memory-requires
want_of_memory-requires c =
    let s = c.args.history.now.sections in
    let of_branches : c.saturating_sub-of_branches.result ≡ c.args.count - length s.p = c.saturating_sub-of_branches.ensures
    ∙ ap (λ (l : List Sent). c.args.count - length l) c.sent-p.ensures.sent in
    let of_b : c.saturating_sub-of_b.result ≡ c.args.count - length s.p - length s.a = c.saturating_sub-of_b.ensures
    ∙ ap₂ (λ (n : ℕ) (l : List Sent). n - length l) of_branches c.sent-a.ensures.sent in
    let whole = same_sections _ _ _ _ _ _
    (c.in_ok-first_p.ensures ∙ c.first.ensures ∙ ap (λ (l : List Sent). take c.args.count l) c.sent-p.ensures.sent)
    (c.in_ok-first_a.ensures ∙ c.first-2.ensures ∙ ap₂ (λ (n : ℕ) (l : List Sent). take n l) of_branches c.sent-a.ensures.sent)
    (c.in_ok-first_b.ensures ∙ c.first-3.ensures ∙ ap₂ (λ (n : ℕ) (l : List Sent). take n l) of_b c.sent-b.ensures.sent) in
    memory_alone c.in-Err.fault.0
    (λ other.
    let clash : true ≡ false = sym (ap is_history whole ∙ sections_cut c.args.count s c.requires) ∙ c.in-Err.ensures.none other in
    absurd (cc))
