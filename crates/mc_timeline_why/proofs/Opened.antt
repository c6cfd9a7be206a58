-- The requests that have no reply yet, one after the other.
use Rattle.std.proofs.Common.{◌≡◌, ◌<◌, ◌+◌, ℕ, Bool, List, ◌++◌, drop, get_or, length, sym, ap, ◌∙◌, append_assoc}
use Rattle.std.proofs.lemmas.List.{drop_more}
use Rattle.mc_timeline.specs.Timelines.{ClientNote}
use Rattle.mc_timeline_why.specs.Fronts.{if_so, is_open, open_from}

-- one more note
pub opened : (key : List ℕ) (notes : List ClientNote) (i : ℕ) (d : ClientNote) (places next whole : List ℕ) (is : Bool) → i < length notes
    → is ≡ is_open key (get_or notes i d) (drop (i + 1) notes) → next ≡ places ++ if_so is i
    → places ++ open_from key i (drop i notes) ≡ whole
    → next ++ open_from key (i + 1) (drop (i + 1) notes) ≡ whole
opened key notes i d places next whole is less known pushed before =
    let more : List ℕ = open_from key (i + 1) (drop (i + 1) notes) in
    ap (λ (l : List ℕ). l ++ more) (pushed ∙ ap (λ (b : Bool). places ++ if_so b i) known)
    ∙ append_assoc places (if_so (is_open key (get_or notes i d) (drop (i + 1) notes)) i) more
    ∙ sym (ap (λ (l : List ClientNote). places ++ open_from key i l) (drop_more notes i d less))
    ∙ before
