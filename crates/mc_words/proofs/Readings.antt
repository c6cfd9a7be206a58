-- What a reading that succeeded went through, and what a reader's answer says where words spell what is read.
use Rattle.std.proofs.Common.{◌≡◌, ◌≢◌, Bool, true, false, cond, Result, Ok, Err, refl}
use Rattle.std.specs.Result.{IfOk, IfErr}
use Rattle.mc_words.specs.{declared.words_fault.WordsFault.WordsFault, declared.words_fault.WordsKind.WordsKind}
use Rattle.mc_words.specs.Reading.{◌>>=◌, Gives, Fails}
use Rattle.mc_words.specs.declared.words_fault.WordsKind.TheVariants as kind

-- a test that let a reading through held
pub then-ok : {A E : Type 0} (b : Bool) (r : Result A E) (e : E) (x : A) → cond b r (Err e) ≡ Ok x → (b ≡ true) × (r ≡ Ok x)
then-ok true r e x h = (refl, h)
then-ok false r e x h = absurd (cc)

-- both steps succeeded
pub steps-ok : {A B : Type 0} (r : Result A WordsKind) (f : A → Result B WordsKind) (y : B) → (r >>= f) ≡ Ok y → (x : A) × (r ≡ Ok x) × (f x ≡ Ok y)
steps-ok (Ok x) f y h = (x, refl, h)
steps-ok (Err e) f y h = absurd (cc)

pub ok-same : {A E : Type 0} (x y : A) → ◌≡◌ {A = Result A E} (Ok x) (Ok y) → x ≡ y
ok-same x y h = cc

-- what was read is spelled
pub IfOk-from_gives : {V : Type 0} (Spells : V → Type 0) (read : Result V WordsKind) (result : Result V WordsFault) → ((v : V) → read ≡ Ok v → Spells v)
    → Gives (λ v. v) result read → IfOk result Spells
IfOk-from_gives Spells read (Ok v) spelled g = spelled v g
IfOk-from_gives Spells read (Err e) spelled g = tt

fails-apart : {V : Type 0} (read : Result V WordsKind) (v : V) (e : WordsKind) → Fails e read → read ≡ Ok v → e ≢ kind.OutOfMemory → ⊥
fails-apart read v kind.OutOfMemory f h apart = apart refl
fails-apart read v kind.Form f h apart = cc
fails-apart read v kind.Number f h apart = cc

-- where reading failed, and not for want of memory, nothing is spelled
pub IfErr-from_gives : {V : Type 0} (Spells : V → Type 0) (read : Result V WordsKind) (result : Result V WordsFault) → ((v : V) → Spells v → read ≡ Ok v)
    → Gives (λ v. v) result read → IfErr result (λ e. e.kind ≢ kind.OutOfMemory → (v : V) → Spells v → ⊥)
IfErr-from_gives Spells read (Ok v) spells g = tt
IfErr-from_gives Spells read (Err e) spells g = λ apart v s. fails-apart read v e.kind g (spells v s) apart
