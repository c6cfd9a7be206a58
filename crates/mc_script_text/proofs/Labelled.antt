-- A line is a label exactly where what it says is one.
use Rattle.std.proofs.Common.{◌≡◌, ℕ, nat_lt, Bool, true, false, cond, Option, Some, None, Result, Ok, Err, List, [], ◌∷◌, refl, sym, ap, subst, ◌∙◌}
use Rattle.std.specs.Result.{IfOk}
use Rattle.mc_script_text.specs.{Values.Word, Values.Words, Values.Entry, Values.WordFault, Reading.Gives, Reading.entry_in, Reading.label_of}
use Rattle.mc_script_text.specs.{Reading.label_named, Reading.is_label, Reading.may_follow, Reading.following, Reading.with_label}
use Rattle.mc_script_text.specs.Values.entry
use Rattle.mc_protocol.specs.Names.{is_new}
use Rattle.mc_script.specs.{Script.Names, ScriptWords.is_label_name}
use Rattle.mc_script_text.proofs.{EntryWords.entry-spelled, EntryWords.colon-read, Outcomes.some-same, Outcomes.only-then}

-- a line that is no label says no label
entry-no-label : (names : Names) (line : Words) (e : Entry) → label_of line ≡ None → entry_in names line ≡ Some e → is_label e ≡ false
entry-no-label names line (entry.Label name) none h =
    let spelled = entry-spelled names line (entry.Label name) h in
    let labelled = ap label_of spelled.0 ∙ colon-read name in cc
entry-no-label names line e none h = refl

-- ---- whether a line may follow

step-follows : (limit count : ℕ) (labels : List Word) (e : Entry) → is_label e ≡ false
    → (may_follow limit count labels e ≡ nat_lt count limit) × (with_label labels e ≡ labels)
step-follows limit count labels (entry.Label name) n = absurd (cc)
step-follows limit count labels e n = (refl, refl)

cond-none : {A : Type 0} (b : Bool) → ◌≡◌ {A = Option A} (cond b None None) None
cond-none true = refl
cond-none false = refl

steps-follow : (limit count : ℕ) (labels : List Word) (read : Option Entry) → ((e : Entry) → read ≡ Some e → is_label e ≡ false)
    → following limit count labels read ≡ cond (nat_lt count limit) read None
steps-follow limit count labels None n = sym (cond-none (nat_lt count limit))
steps-follow limit count labels (Some e) n = ap (λ b. cond b (Some e) None) (step-follows limit count labels e (n e refl)).0

-- a line that is no label may follow where there is room
pub step_following : (limit count : ℕ) (labels : List Word) (names : Names) (line : Words) → label_of line ≡ None
    → following limit count labels (entry_in names line) ≡ cond (nat_lt count limit) (entry_in names line) None
step_following limit count labels names line none = steps-follow limit count labels (entry_in names line) (λ e h. entry-no-label names line e none h)

-- and it adds no label
pub step_adds : (limit count : ℕ) (labels : List Word) (names : Names) (line : Words) (result : Result Entry WordFault) → label_of line ≡ None
    → Gives result (cond (nat_lt count limit) (entry_in names line) None) → IfOk result (λ e. labels ≡ with_label labels e)
step_adds limit count labels names line (Err fault) none h = tt
step_adds limit count labels names line (Ok e) none h =
    sym (step-follows limit count labels e (entry-no-label names line e none (only-then (nat_lt count limit) (entry_in names line) e h).1)).1

label-entry : (names : Names) (line : Words) (name : Word) → label_of line ≡ Some name → entry_in names line ≡ label_named name
unfolding entry_in
label-entry names [] name h = absurd (cc)
label-entry names (word ∷ others) name h = rw h refl

label-same : (name : Word) (e : Entry) → label_named name ≡ Some e → entry.Label name ≡ e
label-same name e h = some-same (entry.Label name) e (only-then (is_label_name name) (Some (entry.Label name)) e h).1

-- a label may follow where it is new
pub label_following : (limit count : ℕ) (labels : List Word) (names : Names) (line : Words) (name : Word) (e : Entry) → label_of line ≡ Some name
    → label_named name ≡ Some e → following limit count labels (entry_in names line) ≡ cond (is_new labels name) (Some e) None
label_following limit count labels names line name e at h =
    let P : Entry → Type 0 = λ x. following limit count labels (Some x) ≡ cond (is_new labels name) (Some x) None in
    ap (following limit count labels) (label-entry names line name at ∙ h) ∙ subst P (label-same name e h) refl

pub label_unread : (limit count : ℕ) (labels : List Word) (names : Names) (line : Words) (name : Word) → label_of line ≡ Some name
    → label_named name ≡ None → following limit count labels (entry_in names line) ≡ None
label_unread limit count labels names line name at h = ap (following limit count labels) (label-entry names line name at ∙ h)
