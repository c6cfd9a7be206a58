-- A line of a section is read exactly where it spells an entry.
use Rattle.std.proofs.Common.{◌≡◌, ℕ, ◌+◌, ◌-◌, ◌<◌, ◌≤◌, ◌==◌, true, false, Option, Some, None, List, [], ◌∷◌, ◌++◌, length}
use Rattle.std.proofs.Common.{take, drop, get_or, codes, refl, sym, ap, subst, ◌∙◌, arith, drop-cons, length-append, suc}
use Rattle.std.proofs.{lemmas.Bool.eqb-true, Math.Seq.take-append_seam, lemmas.List.take-append-drop, lemmas.List.drop_all, lemmas.Bool.Decides.nat_tests}
use Rattle.std.specs.{List.list_any, Str.bytes_eq}
use Rattle.mc_protocol.specs.{Fields.fields_of, Words.verb_word, Words.verb_of, declared.request.Verb.TheVariants.Set, Names.index_of}
use Rattle.mc_script_text.specs.Values.{Verb, Word, Words, Entry, Mark, Parts, Keyword, Template}
use Rattle.mc_script_text.specs.SectionText.{SpellsEntry, SpellsRequest}
use Rattle.mc_script_text.specs.Reading.{entry_in, label_of, line_entry, keyword_of, step_words, before_colon}
use Rattle.mc_script_text.specs.Reading.{request_in, fields_in, field_count, marks_in, binds, template_of}
use Rattle.mc_script_text.specs.Values.entry
use Rattle.mc_script_text.specs.Values.keyword
use Rattle.mc_protocol.proofs.OfWords.{word-of_verb}
use Rattle.mc_script.specs.Chains.{◌>>=◌}
use Rattle.mc_script.specs.{Script.Names, ScriptWords.is_label_name, ScriptWords.label_word}
use Rattle.mc_script_text.proofs.Outcomes.{then-some, cond-cases, some-same, only-then, only-else}
use Rattle.mc_script_text.proofs.{Lists.bytes-same, FieldWords.fields-spelled, FieldWords.fields-read, MarkWords.marks-spelled, MarkWords.marks-read}

-- ---- verbs

verb-keyword : (v : Verb) → keyword_of (verb_word v) ≡ Some (keyword.Request v)
unfolding verb_of
verb-keyword Set = refl
verb-keyword v = refl

abbrev keyword_word : Keyword → Word
keyword_word keyword.Bind = codes "bind"
keyword_word keyword.Goto = codes "goto"
keyword_word keyword.Halt = codes "halt"
keyword_word (keyword.Request v) = verb_word v

request-same : (word : Word) (k : Keyword) → (verb_of word >>= λ v. Some (keyword.Request v)) ≡ Some k → word ≡ keyword_word k
request-same word k h =
    let p = then-some (verb_of word) _ _ h in
    sym (word-of_verb word p.0 p.1) ∙ ap keyword_word (some-same (keyword.Request p.0) k p.2)

keyword-same : (word : Word) (k : Keyword) → keyword_of word ≡ Some k → word ≡ keyword_word k
keyword-same word k h =
    let same : (l : Keyword) → bytes_eq word (keyword_word l) ≡ true → Some l ≡ Some k → word ≡ keyword_word k =
    λ l b e. bytes-same word (keyword_word l) b ∙ ap keyword_word (some-same l k e) in
    cond-cases (bytes_eq word (codes "bind")) _ _ k (word ≡ keyword_word k) h (λ b e. same keyword.Bind b e)
    (λ _ g. cond-cases (bytes_eq word (codes "goto")) _ _ k (word ≡ keyword_word k) g (λ b e. same keyword.Goto b e)
    (λ _ l. cond-cases (bytes_eq word (codes "halt")) _ _ k (word ≡ keyword_word k) l (λ b e. same keyword.Halt b e)
    (λ _ m. request-same word k m)))

-- ---- labels

last-split : (word : Word) → 1 ≤ length word → word ≡ take (length word - 1) word ++ get_or word (length word - 1) 0 ∷ []
last-split word some =
    let i = length word - 1 in
    let below : i < length word = omega arith in
    let past : length word ≤ suc i = omega arith in
    sym (take-append-drop i word) ∙ ap (λ bytes. take i word ++ bytes)
    (drop-cons word i 0 below ∙ ap (λ bytes. get_or word i 0 ∷ bytes) (drop_all (suc i) word past))

not-empty : (word : Word) → (length word == 0) ≡ false → 1 ≤ length word
not-empty word h = grind (arith, nat_tests, h)

colon-spelled : (word name : Word) → before_colon word ≡ Some name → word ≡ label_word name
colon-spelled word name h =
    let p = only-else (length word == 0) _ name h in
    let q = only-then (get_or word (length word - 1) 0 == 58) (Some (take (length word - 1) word)) name p.1 in
    last-split word (not-empty word p.0)
    ∙ ap (λ byte. take (length word - 1) word ++ byte ∷ []) (eqb-true (get_or word (length word - 1) 0) 58 q.0)
    ∙ ap (λ front. front ++ 58 ∷ []) (some-same (take (length word - 1) word) name q.1)

get-front : (front rest : Word) (byte : ℕ) → get_or (front ++ byte ∷ rest) (length front) 0 ≡ byte
get-front [] rest byte = refl
get-front (b ∷ front) rest byte = get-front front rest byte

labelled : (word : Word) (n : ℕ) → length word ≡ n + 1 → (length word == 0) ≡ false
labelled word n e = rw e (grind (arith, nat_tests))

pub colon-read : (name : Word) → before_colon (label_word name) ≡ Some name
colon-read name =
    let word = label_word name in
    let whole : length word ≡ length name + 1 = omega (arith, length-append name (58 ∷ [])) in
    let last : length word - 1 ≡ length name = omega (arith, whole) in
    rw (labelled word (length name) whole, last, get-front name [] 58, take-append_seam name (58 ∷ [])) refl

-- ---- steps

request-spelled : (names : Names) (v : Verb) (word key : Word) (words : Words) (e : Entry) → verb_word v ≡ word → request_in names v key words ≡ Some e
    → SpellsEntry names (word ∷ key ∷ words) e
request-spelled names v word key words e w h =
    let rest = drop (field_count (fields_of v)) words in
    let made : ℕ → Parts → List Mark → Entry = λ k parts marks. entry.Send (template_of v k parts) marks in
    let read = marks_in names v (list_any binds rest) [] rest in
    let p = then-some (index_of names.keys key) _ _ h in
    let q = then-some (fields_in names (fields_of v) words) _ _ p.2 in
    let r = then-some read _ _ q.2 in
    let f = fields-spelled names (fields_of v) words v p.0 q.0 q.1 in
    let m = marks-spelled names v rest r.0 r.1 in
    subst (SpellsEntry names (word ∷ key ∷ words)) (some-same (made p.0 q.0 r.0) e r.2)
    record {
      key = key;
      fields = f.front;
      others = rest;
      words = ap (λ x. x ∷ key ∷ words) (sym w) ∙ ap (λ ws. verb_word v ∷ key ∷ ws) f.words_are;
      declared = p.1;
      spelled = f.spelled;
      bare = record { require_set = refl; require_clear = refl; sets = refl; clears = refl };
      marked = m.0;
      together = m.1;
    }

step-spelled : (names : Names) (k : Keyword) (word : Word) (others : Words) (e : Entry) → word ≡ keyword_word k → step_words names k others ≡ Some e
    → SpellsEntry names (word ∷ others) e
step-spelled names keyword.Bind word (name ∷ []) e w h =
    let p = then-some (index_of names.vars name) _ _ h in
    subst (SpellsEntry names (word ∷ name ∷ [])) (some-same (entry.Bind p.0) e p.2) (name, ap (λ x. x ∷ name ∷ []) w, p.1)
step-spelled names keyword.Goto word (label ∷ []) e w h =
    subst (SpellsEntry names (word ∷ label ∷ [])) (some-same (entry.Goto label) e h) (ap (λ x. x ∷ label ∷ []) w)
step-spelled names keyword.Halt word [] e w h =
    subst (SpellsEntry names (word ∷ [])) (some-same entry.Halt e h) (ap (λ x. x ∷ []) w)
step-spelled names (keyword.Request v) word (key ∷ words) e w h = request-spelled names v word key words e (sym w) h
step-spelled names k word others e w h = absurd (cc)

line-spelled : (names : Names) (o : Option Word) (word : Word) (others : Words) (e : Entry) → label_of (word ∷ others) ≡ o
    → line_entry names o word others ≡ Some e → SpellsEntry names (word ∷ others) e
line-spelled names (Some name) word [] e at h =
    let p = only-then (is_label_name name) (Some (entry.Label name)) e h in
    subst (SpellsEntry names (word ∷ [])) (some-same (entry.Label name) e p.1) (ap (λ w. w ∷ []) (colon-spelled word name at), p.0)
line-spelled names (Some name) word (_ ∷ _) e at h = absurd (cc)
line-spelled names None word others e at h =
    let p = then-some (keyword_of word) _ _ h in
    step-spelled names p.0 word others e (keyword-same word p.0 p.1) p.2

pub entry-spelled : (names : Names) (line : Words) (e : Entry) → entry_in names line ≡ Some e → SpellsEntry names line e
unfolding entry_in
entry-spelled names [] e h = absurd (cc)
entry-spelled names (word ∷ others) e h = line-spelled names (label_of (word ∷ others)) word others e refl h

-- ---- what is spelled is read

pub same-template : (t : Template) (a b c d : ℕ) → t.require_set ≡ a → t.require_clear ≡ b → t.sets ≡ c → t.clears ≡ d
    → ◌≡◌ {A = Template}
    (record { verb = t.verb; key = t.key; flags = t.flags; argument = t.argument; body = t.body; require_set = a; require_clear = b; sets = c; clears = d }) t
same-template t a b c d e f g h = rw (← e, ← f, ← g, ← h) refl

request-read : (names : Names) (line : Words) (t : Template) (marks : List Mark) → SpellsRequest names line t marks
    → entry_in names line ≡ Some (entry.Send t marks)
unfolding entry_in
request-read names line t marks s =
    let f = fields-read names (fields_of t.verb) s.fields s.others t s.spelled in
    let m = marks-read names t.verb s.others marks s.marked s.together in
    let same = same-template t 0 0 0 0 s.bare.require_set s.bare.require_clear s.bare.sets s.bare.clears in
    rw (s.words, verb-keyword t.verb, s.declared, f.0, f.1, m) (ap (λ x. Some (entry.Send x marks)) same)

pub entry-read : (names : Names) (line : Words) (e : Entry) → SpellsEntry names line e → entry_in names line ≡ Some e
unfolding entry_in
entry-read names line (entry.Label name) (e, n) = rw (e, colon-read name, n) refl
entry-read names line (entry.Send t marks) s = request-read names line t marks s
entry-read names line (entry.Bind v) (name, e, i) = rw (e, i) refl
entry-read names line (entry.Goto label) e = rw e refl
entry-read names line entry.Halt e = rw e refl
