-- Where the keys of the last job are short under a name, those of all jobs are.
use Rattle.std.proofs.Common.{◌≡◌, ◌↔◌, ℕ, ◌+◌, ◌-◌, ◌<◌, ◌≤◌, ◌^◌, nat_le, true, false, List, [], ◌∷◌, ◌++◌, length, codes, decimal}
use Rattle.std.proofs.{Common.ap, Common.arith, Common.length-append, lemmas.Bool.le-leb, lemmas.Bool.leb-true, lemmas.Bool.le-ltb, lemmas.Bool.ltb-false}
use Rattle.std.proofs.{lemmas.Fmt.decimal_digit, lemmas.List.Elements.All-nil, lemmas.List.Elements.All-cons, lemmas.List.Elements.All-head}
use Rattle.mc_protocol.specs.{Lines.Word, declared.limits.TheConstants.KEY_BYTES_LIMIT}
use Rattle.mc_settings.specs.{JobKeys.key_name, JobKeys.keys_of, JobKeys.KeysFit, Namespaces.key_under, Namespaces.is_too_long, Namespaces.AreShort}
use Rattle.mc_settings.proofs.MoreDigits.{more-digits}

pub key-length : (job key : ℕ) → key < 10 → 1 + length (decimal job) + 1 + 1 ≡ length (key_name job key)
key-length job key small =
    let digit : length (decimal key) ≡ 1 = ap length (decimal_digit key small) in
    let front : Word = codes "r" ++ decimal job ++ codes "-" in
    let size : length (key_name job key) ≡ length front + length (decimal key) = length-append front (decimal key) in
    let first : length front ≡ length (codes "r" ++ decimal job) + 1 = length-append (codes "r" ++ decimal job) (codes "-") in
    let begun : length (codes "r" ++ decimal job) ≡ 1 + length (decimal job) = length-append (codes "r") (decimal job) in
    omega arith

length_under : (name key : Word) → length (key_under name key) ≡ length name + 1 + length key
length_under name key = omega (arith, length-append name (codes "-" ++ key))

not-long : (name key : Word) → length name + 1 + length key ≤ KEY_BYTES_LIMIT → is_too_long name key ≡ false
not-long name key h = let size = length_under name key in le-ltb KEY_BYTES_LIMIT (length (key_under name key)) (omega arith)

abbrev IsShort : Word → Word → Type 0
IsShort name key = is_too_long name key ≡ false

both-short : (name : Word) (job : ℕ) → length name + 1 + length (key_name job 0) ≤ KEY_BYTES_LIMIT → AreShort name (keys_of job)
both-short name job h =
    let first = key-length job 0 (omega arith) in
    let second = key-length job 1 (omega arith) in
    All-cons (IsShort name) (key_name job 0) (key_name job 1 ∷ []) (not-long name (key_name job 0) h)
    (All-cons (IsShort name) (key_name job 1) [] (not-long name (key_name job 1) (omega arith)) (All-nil (IsShort name)))

first-short : (name : Word) (job : ℕ) → AreShort name (keys_of job) → length name + 1 + length (key_name job 0) ≤ KEY_BYTES_LIMIT
first-short name job h =
    let short = ltb-false KEY_BYTES_LIMIT (length (key_under name (key_name job 0))) (All-head (IsShort name) (key_name job 0) (key_name job 1 ∷ []) h) in
    let size = length_under name (key_name job 0) in
    omega arith

pub fits-with-last : (name : Word) (first jobs size : ℕ) → 0 < jobs → first + jobs ≤ 2 ^ 64 → size ≡ length (key_name (first + (jobs - 1)) 0)
    → (nat_le (length name + 1 + size) KEY_BYTES_LIMIT ≡ true) ↔ KeysFit name first jobs
fits-with-last name first jobs size some fits is = (
  λ h job from below.
      let enough = leb-true (length name + 1 + size) KEY_BYTES_LIMIT h in
      let fewer = more-digits job (first + (jobs - 1)) (omega arith) (omega arith) in
      let this = key-length job 0 (omega arith) in
      let last = key-length (first + (jobs - 1)) 0 (omega arith) in
      both-short name job (omega arith),
  λ h. let short = first-short name (first + (jobs - 1)) (h (first + (jobs - 1)) (omega arith) (omega arith)) in
      le-leb (length name + 1 + size) KEY_BYTES_LIMIT (omega arith),
)
