-- The marks of a request are read exactly where its words spell them, and they may stand together.
use Rattle.std.proofs.Common.{◌≡◌, ℕ, ◌+◌, ◌<◌, ◌==◌, Bool, true, not, Option, Some, None, [], ◌∷◌, ◌++◌, length, take, drop, get_or, refl, sym, ap, subst}
use Rattle.std.proofs.Common.{◌∙◌, arith, length-append, suc, false, ◌&&◌, ◌||◌, List, append-nil, append_assoc}
use Rattle.std.proofs.lemmas.Bool.{eqb-true, lt-ltb, and_parts, not-true, and_from}
use Rattle.std.proofs.{Math.Seq.take-append_seam, lemmas.List.take-append-drop, lemmas.List.drop_more, lemmas.List.Quantifiers.position-Some}
use Rattle.std.specs.List.{list_all, position, position_or_len, list_any}
use Rattle.mc_script_text.specs.Values.{Class, Word, Mark, Sign, Verb, Words}
use Rattle.mc_script_text.specs.Marks.{SpellsMark, sign_byte, may_stand, are_twins, have_no_twins, is_bind, is_number_jump, may_stand_together}
use Rattle.mc_script_text.specs.Reading.{mark_in, bind_mark_in, flag_or_jump, flag_in, jump_in, sign_of, marks_in, may_join, joining, binds}
use Rattle.mc_script_text.specs.Values.class
use Rattle.mc_script_text.specs.Values.mark
use Rattle.mc_script_text.specs.Values.sign
use Rattle.mc_protocol.specs.{Names.index_of, Words.class_word, Words.class_of_word, Spelling.SpellEach}
use Rattle.mc_protocol.proofs.OfWords.{class_of-word, word-of_class}
use Rattle.mc_script.specs.Script.{Names}
use Rattle.mc_script_text.proofs.Outcomes.{then-some, some-same, cond-cases, only-then}
use Rattle.mc_script_text.proofs.Lists.{three, none_twins, twins-push, none-before}

-- ---- the first colon

abbrev has_no_colon : Word → Bool
has_no_colon word = list_all (λ byte. not (byte == 58)) word

no-colon-in-class : (c : Class) → has_no_colon (class_word c) ≡ true
no-colon-in-class class.Stored = refl
no-colon-in-class c = refl

first-colon : (front label : Word) → has_no_colon front ≡ true → position_or_len (λ byte. byte == 58) (front ++ 58 ∷ label) ≡ length front
first-colon [] label h = refl
first-colon (byte ∷ front) label h =
    let p = and_parts (not (byte == 58)) (has_no_colon front) h in
    let e : 1 + length front ≡ length (byte ∷ front) = omega arith in
    rw (not-true (byte == 58) p.0) (ap (λ n. 1 + n) (first-colon front label p.1) ∙ e)

colon-found : (front label : Word) → has_no_colon front ≡ true → position (λ byte. byte == 58) (front ++ 58 ∷ label) ≡ Some (length front)
colon-found front label h =
    let below : length front < length (front ++ 58 ∷ label) = omega (arith, length-append front (58 ∷ label)) in
    rw (first-colon front label h, lt-ltb (length front) (length (front ++ 58 ∷ label)) below) refl

drop-front : (front label : Word) → drop (length front + 1) (front ++ 58 ∷ label) ≡ label
drop-front [] label = refl
drop-front (byte ∷ front) label =
    let e : length (byte ∷ front) + 1 ≡ suc (length front + 1) = omega arith in
    let P : ℕ → Type 0 = λ n. drop n (byte ∷ (front ++ 58 ∷ label)) ≡ label in
    subst P (sym e) (drop-front front label)

-- ---- jumps

jump-read : (c : Class) (label : Word) → jump_in (class_word c ++ 58 ∷ label) ≡ Some (mark.Jump c label)
jump-read c label =
    let front = class_word c in
    rw (colon-found front label (no-colon-in-class c), take-append_seam front (58 ∷ label), class_of-word c, drop-front front label) refl

split-at : (word : Word) (i : ℕ) → i < length word → get_or word i 0 ≡ 58 → word ≡ take i word ++ 58 ∷ drop (i + 1) word
split-at word i below colon =
    sym (take-append-drop i word)
    ∙ ap (λ bytes. take i word ++ bytes) (drop_more word i 0 below ∙ ap (λ byte. byte ∷ drop (i + 1) word) colon)

jump-spelled : (names : Names) (word : Word) (m : Mark) → jump_in word ≡ Some m → SpellsMark names word m
jump-spelled names word m h =
    let p = then-some (position (λ byte. byte == 58) word) _ _ h in
    let i = p.0 in
    let at = position-Some (λ byte. byte == 58) word i 0 p.1 in
    let q = then-some (class_of_word (take i word)) _ _ p.2 in
    let P : Mark → Type 0 = SpellsMark names word in
    subst P (some-same (mark.Jump q.0 (drop (i + 1) word)) m q.2)
    (split-at word i at.0 (eqb-true (get_or word i 0) 58 at.1) ∙ ap (λ front. front ++ 58 ∷ drop (i + 1) word) (sym (word-of_class (take i word) q.0 q.1)))

-- ---- flags

flag-spelled : (names : Names) (s : Sign) (first : ℕ) (name : Word) (m : Mark) → first ≡ sign_byte s → flag_in names s name ≡ Some m
    → SpellsMark names (first ∷ name) m
flag-spelled names s first name m e h =
    let q = then-some (index_of names.flags name) _ _ h in
    let P : Mark → Type 0 = SpellsMark names (first ∷ name) in
    subst P (some-same (mark.Flag s q.0) m q.2) (name, ap (λ byte. byte ∷ name) e, q.1)

sign-byte : (byte : ℕ) (s : Sign) → sign_of byte ≡ Some s → byte ≡ sign_byte s
sign-byte byte s h =
    let same : (t : Sign) (n : ℕ) → (byte == n) ≡ true → n ≡ sign_byte t → Some t ≡ Some s → byte ≡ sign_byte s =
    λ t n b k e. eqb-true byte n b ∙ k ∙ ap sign_byte (some-same t s e) in
    cond-cases (byte == 63) _ _ s (byte ≡ sign_byte s) h (λ b e. same sign.RequireSet 63 b refl e)
    (λ _ g. cond-cases (byte == 33) _ _ s (byte ≡ sign_byte s) g (λ b e. same sign.RequireClear 33 b refl e)
    (λ _ k. cond-cases (byte == 43) _ _ s (byte ≡ sign_byte s) k (λ b e. same sign.Sets 43 b refl e)
    (λ _ l. cond-cases (byte == 45) _ _ s (byte ≡ sign_byte s) l (λ b e. same sign.Clears 45 b refl e)
    (λ _ n. absurd (cc)))))

flag-or-jump-spelled : (names : Names) (o : Option Sign) (first : ℕ) (name : Word) (m : Mark) → sign_of first ≡ o
    → flag_or_jump names o name (first ∷ name) ≡ Some m → SpellsMark names (first ∷ name) m
flag-or-jump-spelled names (Some s) first name m e h = flag-spelled names s first name m (sign-byte first s e) h
flag-or-jump-spelled names None first name m e h = jump-spelled names (first ∷ name) m h

-- ---- marks

pub mark-spelled : (names : Names) (word : Word) (m : Mark) → mark_in names word ≡ Some m → SpellsMark names word m
mark-spelled names [] m h = absurd (cc)
mark-spelled names (first ∷ name) m h =
    let P : Mark → Type 0 = SpellsMark names (first ∷ name) in
    cond-cases (first == 62) (bind_mark_in names name) (flag_or_jump names (sign_of first) name (first ∷ name)) m (SpellsMark names (first ∷ name) m) h
    (λ b g.
    let q = then-some (index_of names.vars name) _ _ g in
    subst P (some-same (mark.Bind q.0) m q.2) (name, ap (λ byte. byte ∷ name) (eqb-true first 62 b), q.1))
    (λ _ g. flag-or-jump-spelled names (sign_of first) first name m refl g)

class-mark : (names : Names) (c : Class) (label : Word) → mark_in names (class_word c ++ 58 ∷ label) ≡ jump_in (class_word c ++ 58 ∷ label)
class-mark names class.Stored label = refl
class-mark names c label = refl

sign-mark : (names : Names) (s : Sign) (name : Word) (f : ℕ) → index_of names.flags name ≡ Some f → mark_in names (sign_byte s ∷ name) ≡ Some (mark.Flag s f)
sign-mark names sign.RequireSet name f i = rw i refl
sign-mark names s name f i = rw i refl

pub mark-read : (names : Names) (word : Word) (m : Mark) → SpellsMark names word m → mark_in names word ≡ Some m
mark-read names word (mark.Flag s f) (name, e, i) = rw e (sign-mark names s name f i)
mark-read names word (mark.Jump c label) e = rw e (class-mark names c label ∙ jump-read c label)
mark-read names word (mark.Bind v) (name, e, i) = rw (e, i) refl

-- the rules for the marks that follow others, on a line that binds a variable or not
abbrev may_join_all : Verb → Bool → List Mark → List Mark → Bool
may_join_all v bound done [] = true
may_join_all v bound done (m ∷ marks) = may_join v bound done m && may_join_all v bound (done ++ m ∷ []) marks

-- ---- reading, mark by mark

-- the words spell the marks after those that were read, which may join them
pub record SpelledMarks (names : Names) (v : Verb) (bound : Bool) (done : List Mark) (words : Words) (all : List Mark) : Type 0 where
  pub marks : List Mark
  pub all_are : all ≡ done ++ marks
  pub spelled : SpellEach (SpellsMark names) words marks
  pub joined : may_join_all v bound done marks ≡ true

joined-mark : (v : Verb) (bound : Bool) (done : List Mark) (read : Option Mark) (m : Mark) → joining v bound done read ≡ Some m
    → (read ≡ Some m) × (may_join v bound done m ≡ true)
joined-mark v bound done read m h =
    let p = then-some read _ _ h in
    let q = only-then (may_join v bound done p.0) (Some p.0) m p.2 in
    let P : Mark → Type 0 = λ x. (read ≡ Some x) × (may_join v bound done x ≡ true) in
    subst P (some-same p.0 m q.1) (p.1, q.0)

marks-spelled-from : (names : Names) (v : Verb) (bound : Bool) (done : List Mark) (words : Words) (all : List Mark)
    → marks_in names v bound done words ≡ Some all → SpelledMarks names v bound done words all
marks-spelled-from names v bound done [] all h = record {
  marks = [];
  all_are = sym (some-same done all h) ∙ sym (append-nil done);
  spelled = tt;
  joined = refl;
}
marks-spelled-from names v bound done (word ∷ words) all h =
    let p = then-some (joining v bound done (mark_in names word)) _ _ h in
    let (read, may) = joined-mark v bound done (mark_in names word) p.0 p.1 in
    let r = marks-spelled-from names v bound (done ++ p.0 ∷ []) words all p.2 in
    record {
      marks = p.0 ∷ r.marks;
      all_are = r.all_are ∙ append_assoc done (p.0 ∷ []) r.marks;
      spelled = (mark-spelled names word p.0 read, r.spelled);
      joined = and_from (may_join v bound done p.0) (may_join_all v bound (done ++ p.0 ∷ []) r.marks) may r.joined;
    }

marks-read-from : (names : Names) (v : Verb) (bound : Bool) (done : List Mark) (words : Words) (marks : List Mark)
    → SpellEach (SpellsMark names) words marks → may_join_all v bound done marks ≡ true
    → marks_in names v bound done words ≡ Some (done ++ marks)
marks-read-from names v bound done [] [] s j = ap Some (sym (append-nil done))
marks-read-from names v bound done (word ∷ words) (m ∷ marks) s j =
    let p = and_parts (may_join v bound done m) (may_join_all v bound (done ++ m ∷ []) marks) j in
    rw (mark-read names word m s.0, p.0) (marks-read-from names v bound (done ++ m ∷ []) words marks s.1 p.1 ∙ ap Some (append_assoc done (m ∷ []) marks))
marks-read-from names v bound done words marks s j = absurd s

-- ---- `>VAR` stands on the line exactly where a mark binds

sign-first : (s : Sign) (name : Word) → binds (sign_byte s ∷ name) ≡ false
sign-first sign.RequireSet name = refl
sign-first s name = refl

class-first : (c : Class) (label : Word) → binds (class_word c ++ 58 ∷ label) ≡ false
class-first class.Stored label = refl
class-first c label = refl

sign-binds-not : (names : Names) (word : Word) (m : Mark) → SpellsMark names word m → binds word ≡ is_bind m
sign-binds-not names word (mark.Flag s f) (name, e, i) = ap binds e ∙ sign-first s name
sign-binds-not names word (mark.Jump c label) e = ap binds e ∙ class-first c label
sign-binds-not names word (mark.Bind v) (name, e, i) = ap binds e

binds-any : (names : Names) (words : Words) (marks : List Mark) → SpellEach (SpellsMark names) words marks → list_any binds words ≡ list_any is_bind marks
binds-any names [] [] s = refl
binds-any names (word ∷ words) (m ∷ marks) s = rw (sign-binds-not names word m s.0, binds-any names words marks s.1) refl
binds-any names words marks s = absurd s

-- ---- the rules together

abbrev twins_of : Mark → Mark → Bool
twins_of m e = are_twins e m

bound-none : (b : Bool) → true ≡ (true && not (b && false) && true && true)
bound-none b = grind arith

regroup : (s b n t ss ns ts m d : Bool) → ((s && not (b && n) && t) && (ss && not (b && ns) && (ts && not m) && d))
    ≡ ((s && ss) && not (b && (n || ns)) && (t && ts) && (not m && d))
regroup s b n t ss ns ts m d = grind arith

all-joined : (v : Verb) (bound : Bool) (done marks : List Mark) → may_join_all v bound done marks
    ≡ (list_all (may_stand v) marks && not (bound && list_any is_number_jump marks) && none_twins twins_of done marks && have_no_twins marks)
all-joined v bound done [] = bound-none bound
all-joined v bound done (m ∷ marks) =
    rw (all-joined v bound (done ++ m ∷ []) marks, twins-push twins_of are_twins (λ x y. refl) done m marks)
    (regroup (may_stand v m) bound (is_number_jump m) (not (list_any (twins_of m) done)) (list_all (may_stand v) marks) (list_any is_number_jump marks)
    (none_twins twins_of done marks) (list_any (are_twins m) marks) (have_no_twins marks))

order : (s f d : Bool) → (s && f && true && d) ≡ (s && d && f)
order s f d = grind arith

-- marks may join one by one where they may stand together
joined-together : (names : Names) (v : Verb) (words : Words) (marks : List Mark) → SpellEach (SpellsMark names) words marks
    → may_join_all v (list_any binds words) [] marks ≡ may_stand_together v marks
joined-together names v words marks s =
    all-joined v (list_any binds words) [] marks
    ∙ rw (binds-any names words marks s, none-before twins_of marks)
    (order (list_all (may_stand v) marks) (not (list_any is_bind marks && list_any is_number_jump marks)) (have_no_twins marks))

-- ---- the marks of a request

pub marks-spelled : (names : Names) (v : Verb) (words : Words) (marks : List Mark) → marks_in names v (list_any binds words) [] words ≡ Some marks
    → SpellEach (SpellsMark names) words marks × (may_stand_together v marks ≡ true)
marks-spelled names v words marks h =
    let s = marks-spelled-from names v (list_any binds words) [] words marks h in
    let P : List Mark → Type 0 = λ ms. SpellEach (SpellsMark names) words ms × (may_stand_together v ms ≡ true) in
    subst P (sym s.all_are) (s.spelled, sym (joined-together names v words s.marks s.spelled) ∙ s.joined)

pub marks-read : (names : Names) (v : Verb) (words : Words) (marks : List Mark) → SpellEach (SpellsMark names) words marks
    → may_stand_together v marks ≡ true → marks_in names v (list_any binds words) [] words ≡ Some marks
marks-read names v words marks s together =
    marks-read-from names v (list_any binds words) [] words marks s (joined-together names v words marks s ∙ together)

-- no two of the marks that were read are twins
pub marks-apart : (names : Names) (v : Verb) (words : Words) (marks : List Mark) → marks_in names v (list_any binds words) [] words ≡ Some marks
    → have_no_twins marks ≡ true
marks-apart names v words marks h =
    (three (list_all (may_stand v) marks) (have_no_twins marks) _ (marks-spelled names v words marks h).1).1
