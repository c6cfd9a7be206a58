-- A text is read as a script exactly where it spells it, so a text spells one.
use Rattle.std.proofs.Common.{◌≡◌, ℕ, ◌≤◌, ◌==◌, cond, true, not, Some, None, List, [], ◌∷◌, ◌++◌, length, drop, codes, refl, sym, ap, subst, ◌∙◌}
use Rattle.std.proofs.Common.{append_assoc, arith}
use Rattle.std.specs.Str.{bytes_eq}
use Rattle.mc_script_text.specs.Values.{Actor, Sections, SpaceOrTab, Word, Words, KEYS_LIMIT, KEY_BYTES_LIMIT, REQUESTS_LIMIT, REQUEST_BYTES_LIMIT, Entry}
use Rattle.mc_script_text.specs.ScriptText.{SpellsInVersion, SpellsScript, SpellsBudget, header, names_line, names_lines, section_line, end_line, body_lines}
use Rattle.mc_script_text.specs.Reading.{entry_in, version_of_word, header_version, header_in, names_in, keys_in, optional_in, line_in, number_in, numbers_in}
use Rattle.mc_script_text.specs.Reading.{budget_in, all_names_in, next_budget_in, budgets_in, section_line_in, entries_in, ended_in}
use Rattle.mc_script_text.specs.{Values.NAME_BYTES_LIMIT, Values.FLAGS_LIMIT, Values.VARIABLES_LIMIT, Values.Budget, Values.Version, ScriptText.SpellsOneScript}
use Rattle.mc_script_text.specs.{SectionText.SpellsSection, Reading.bodies_in, Reading.section_in, Reading.script_of, Reading.resolved_in, Reading.script_in}
use Rattle.mc_script_text.specs.Values.actor
use Rattle.mc_script_text.specs.Values.version
use Rattle.mc_protocol.specs.{Lines.words_of_text, Lines.begins_with, Lines.is_only, Decimals.SpellsNumber, Words.actor_word, Words.verb_of}
use Rattle.mc_protocol.specs.Sections as sections
use Rattle.mc_script.specs.Versions.{version_word, flags_limit, steps_limit}
use Rattle.mc_script.specs.Script.{Names, Section, Script, AreDeclared, section_of, may_be_declared}
use Rattle.mc_script.specs.Chains.{◌>>=◌}
use Rattle.mc_script_text.proofs.Outcomes.{then-some, cond-cases, some-same, only-then}
use Rattle.mc_script_text.proofs.Declared.{names-declared, keys-declared, optional-declared, declared-few, declared-within, none-declared, flags-within}
use Rattle.mc_script_text.proofs.SectionLines.{bytes-equal, only-line, section-spelled, section-read}
use Rattle.mc_script_text.proofs.{FieldWords.number-spelled, FieldWords.number-read, Lists.bytes-same}

abbrev names_of : List Word → List Word → List Word → Names
names_of keys flags vars = record { keys = keys; flags = flags; vars = vars }

abbrev budgets_of : Budget → Budget → Budget → Sections Budget
budgets_of p a b = record { p = p; a = a; b = b }

-- ---- the header

version-word : (word : Word) (v : Version) → version_of_word word ≡ Some v → word ≡ version_word v
version-word word v h =
    cond-cases (bytes_eq word (codes "1")) (Some version.One) (cond (bytes_eq word (codes "2")) (Some version.Two) None) v (word ≡ version_word v) h
    (λ b g. bytes-same word (codes "1") b ∙ ap version_word (some-same version.One v g))
    (λ _ g.
    let p = only-then (bytes_eq word (codes "2")) (Some version.Two) v g in
    bytes-same word (codes "2") p.0 ∙ ap version_word (some-same version.Two v p.1))

header-line : (line : Words) (v : Version) → header_version line ≡ Some v → line ≡ header v
header-line (word ∷ number ∷ []) v h =
    let p = only-then (bytes_eq word (codes "script")) (version_of_word number) v h in
    ap (λ w. w ∷ number ∷ []) (bytes-same word (codes "script") p.0) ∙ ap (λ w. codes "script" ∷ w ∷ []) (version-word number v p.1)
header-line line v h = absurd (cc)

header-spelled : (lines : List Words) (v : Version) (rest : List Words) → header_in lines ≡ Some (v, rest) → lines ≡ header v ∷ rest
header-spelled [] v rest h = absurd (cc)
header-spelled (line ∷ lines) v rest h =
    let p = then-some (header_version line) _ _ h in
    let e = some-same (p.0, lines) (v, rest) p.2 in
    ap (λ l. l ∷ lines) (header-line line p.0 p.1) ∙ ap (λ t. header t.0 ∷ t.1) e

-- ---- names

first-word : (word : Word) (line : Words) → begins_with word line ≡ true → line ≡ word ∷ drop 1 line
first-word word [] h = absurd (cc)
first-word word (first ∷ others) h = ap (λ w. w ∷ others) (bytes-same first word h)

some-line : (word : Word) (names : List Word) → not (length names == 0) ≡ true → names_line word names ≡ (word ∷ names) ∷ []
some-line word [] h = absurd (cc)
some-line word (name ∷ names) h = refl

keys-line : (lines : List Words) (keys : List Word) (rest : List Words) → keys_in lines ≡ Some (keys, rest) → lines ≡ names_line (codes "keys") keys ++ rest
keys-line [] keys rest h = absurd (cc)
keys-line (line ∷ lines) keys rest h =
    let word = codes "keys" in
    let p = only-then (begins_with word line) (names_in KEYS_LIMIT KEY_BYTES_LIMIT (drop 1 line) >>= λ names. Some (names, lines)) (keys, rest) h in
    let q = then-some (names_in KEYS_LIMIT KEY_BYTES_LIMIT (drop 1 line)) _ _ p.1 in
    let d = names-declared KEYS_LIMIT KEY_BYTES_LIMIT (drop 1 line) q.0 q.1 in
    let e = some-same (q.0, lines) (keys, rest) q.2 in
    let here : line ≡ word ∷ q.0 = first-word word line p.0 ∙ ap (λ ns. word ∷ ns) d.2 in
    ap (λ l. l ∷ lines) here ∙ ap (λ ls. ls ++ lines) (sym (some-line word q.0 d.0)) ∙ ap (λ t. names_line word t.0 ++ t.1) e

line-same : (lines : List Words) (line : Words) (rest : List Words) → line_in lines ≡ Some (line, rest) → lines ≡ line ∷ rest
line-same [] line rest h = absurd (cc)
line-same (first ∷ lines) line rest h = ap (λ t. t.0 ∷ t.1) (some-same (first, lines) (line, rest) h)

optional-line : (word : Word) (limit : ℕ) (line : Words) (lines : List Words) (names : List Word) (next : Words) (rest : List Words)
    → optional_in word limit line lines ≡ Some (names, next, rest) → line ∷ lines ≡ names_line word names ++ next ∷ rest
optional-line word limit line lines names next rest h =
    cond-cases (begins_with word line) _ (Some ([], line, lines))
    (names, next, rest) (line ∷ lines ≡ names_line word names ++ next ∷ rest) h
    (λ b g.
    let q = then-some (names_in limit NAME_BYTES_LIMIT (drop 1 line)) _ _ g in
    let d = names-declared limit NAME_BYTES_LIMIT (drop 1 line) q.0 q.1 in
    let l = then-some (line_in lines) _ _ q.2 in
    let t = some-same (q.0, l.0.0, l.0.1) (names, next, rest) l.2 in
    let here : line ≡ word ∷ q.0 = first-word word line b ∙ ap (λ ns. word ∷ ns) d.2 in
    ap (λ l. l ∷ lines) here ∙ ap (λ ls. ls ++ lines) (sym (some-line word q.0 d.0))
    ∙ ap (λ ls. names_line word q.0 ++ ls) (line-same lines l.0.0 l.0.1 l.1) ∙ ap (λ t. names_line word t.0 ++ t.1 ∷ t.2) t)
    (λ _ g. let e = some-same ([], line, lines) (names, next, rest) g in ap (λ t. names_line word t.0 ++ t.1 ∷ t.2) e)

rejoin : (a b c d : List Words) → a ++ (b ++ (c ++ d)) ≡ ((a ++ b) ++ c) ++ d
rejoin a b c d = sym (append_assoc (a ++ b) c d ∙ append_assoc a b (c ++ d))

-- the parts of what declares the names
names-joined : (v : Version) (lines : List Words) (keys flags vars : List Word) (more : List Words) (first second last : Words)
    (behind onward rest : List Words)
    → keys_in lines ≡ Some (keys, more) → line_in more ≡ Some (first, behind)
    → optional_in (codes "flags") (flags_limit v) first behind ≡ Some (flags, second, onward)
    → optional_in (codes "vars") VARIABLES_LIMIT second onward ≡ Some (vars, last, rest)
    → (lines ≡ names_lines (names_of keys flags vars) ++ last ∷ rest) × AreDeclared (names_of keys flags vars) × (length flags ≤ flags_limit v)
names-joined v lines keys flags vars more first second last behind onward rest k l f w =
    let declared = keys-declared lines keys more k in
    let tail : more ≡ names_line (codes "flags") flags ++ (names_line (codes "vars") vars ++ last ∷ rest) =
    line-same more first behind l ∙ optional-line (codes "flags") (flags_limit v) first behind flags second onward f
    ∙ ap (λ ls. names_line (codes "flags") flags ++ ls) (optional-line (codes "vars") VARIABLES_LIMIT second onward vars last rest w) in
    let few = optional-declared (codes "flags") (flags_limit v) first behind flags second onward (none-declared v) f in
    let short = declared-few (flags_limit v) NAME_BYTES_LIMIT flags few in (
      keys-line lines keys more k ∙ ap (λ ls. names_line (codes "keys") keys ++ ls) tail
          ∙ rejoin (names_line (codes "keys") keys) (names_line (codes "flags") flags) (names_line (codes "vars") vars) (last ∷ rest),
      record {
        some = declared.0;
        keys = declared.1;
        flags = declared-within FLAGS_LIMIT (flags_limit v) NAME_BYTES_LIMIT flags (omega (arith, short, flags-within v)) few;
        vars = optional-declared (codes "vars") VARIABLES_LIMIT second onward vars last rest refl w;
      },
      short,
    )

names-spelled : (v : Version) (lines : List Words) (names : Names) (line : Words) (rest : List Words) → all_names_in v lines ≡ Some (names, line, rest)
    → (lines ≡ names_lines names ++ line ∷ rest) × AreDeclared names × (length names.flags ≤ flags_limit v)
names-spelled v lines names line rest h =
    let k = then-some (keys_in lines) _ _ h in
    let l = then-some (line_in k.0.1) _ _ k.2 in
    let f = then-some (optional_in (codes "flags") (flags_limit v) l.0.0 l.0.1) _ _ l.2 in
    let w = then-some (optional_in (codes "vars") VARIABLES_LIMIT f.0.1 f.0.2) _ _ f.2 in
    let P : Names × Words × List Words → Type 0 = λ t. (lines ≡ names_lines t.0 ++ t.1 ∷ t.2) × AreDeclared t.0 × (length t.0.flags ≤ flags_limit v) in
    subst P (some-same (names_of k.0.0 f.0.0 w.0.0, w.0.1, w.0.2) (names, line, rest) w.2)
    (names-joined v lines k.0.0 f.0.0 w.0.0 k.0.1 l.0.0 f.0.1 w.0.1 l.0.1 f.0.2 w.0.2 k.1 l.1 f.1 w.1)

-- ---- budgets

numbers-spelled : (words : Words) (b : Budget) → numbers_in words ≡ Some b
    → (r : Word) × (y : Word) × (words ≡ r ∷ y ∷ []) × SpellsNumber REQUESTS_LIMIT r b.requests × SpellsNumber REQUEST_BYTES_LIMIT y b.bytes
numbers-spelled (r ∷ y ∷ []) b h =
    let made : ℕ → ℕ → Budget = λ n m. record { requests = n; bytes = m } in
    let p = then-some (number_in REQUESTS_LIMIT r) _ _ h in
    let q = then-some (number_in REQUEST_BYTES_LIMIT y) _ _ p.2 in
    let P : Budget → Type 0 = λ x. (r' : Word) × (y' : Word) × (r ∷ y ∷ [] ≡ r' ∷ y' ∷ []) × SpellsNumber REQUESTS_LIMIT r' x.requests
    × SpellsNumber REQUEST_BYTES_LIMIT y' x.bytes in
    subst P (some-same (made p.0 q.0) b q.2) (r, y, refl, number-spelled REQUESTS_LIMIT r p.0 p.1, number-spelled REQUEST_BYTES_LIMIT y q.0 q.1)
numbers-spelled words b h = absurd (cc)

budget-spelled : (a : Actor) (line : Words) (b : Budget) → budget_in a line ≡ Some b → SpellsBudget a line b
unfolding budget_in
budget-spelled a (word ∷ section ∷ numbers) b h =
    let p = only-then (bytes_eq word (codes "budget")) _ b h in
    let q = only-then (bytes_eq section (actor_word a)) (numbers_in numbers) b p.1 in
    let (r, y, e, n, m) = numbers-spelled numbers b q.1 in (
      r,
      y,
      ap (λ w. w ∷ section ∷ numbers) (bytes-same word (codes "budget") p.0)
          ∙ ap (λ w. codes "budget" ∷ w ∷ numbers) (bytes-same section (actor_word a) q.0) ∙ ap (λ ws. codes "budget" ∷ actor_word a ∷ ws) e,
      n,
      m,
    )
budget-spelled a line b h = absurd (cc)

pub budget-read : (a : Actor) (line : Words) (b : Budget) → SpellsBudget a line b → budget_in a line ≡ Some b
unfolding budget_in
budget-read a line b (r, y, e, n, m) =
    rw (e, bytes-equal (actor_word a), number-read REQUESTS_LIMIT r b.requests n, number-read REQUEST_BYTES_LIMIT y b.bytes m) refl

next-budget : (a : Actor) (lines : List Words) (b : Budget) (rest : List Words) → next_budget_in a lines ≡ Some (b, rest)
    → (line : Words) × (lines ≡ line ∷ rest) × SpellsBudget a line b
next-budget a [] b rest h = absurd (cc)
next-budget a (line ∷ lines) b rest h =
    let p = then-some (budget_in a line) _ _ h in
    let e = some-same (p.0, lines) (b, rest) p.2 in
    let P : Budget → Type 0 = SpellsBudget a line in
    (line, ap (λ t. line ∷ t.1) e, subst P (ap (λ t. t.0) e) (budget-spelled a line p.0 p.1))

-- ---- sections

pub no-entry-a : (names : Names) → entry_in names (codes "A" ∷ []) ≡ None
unfolding entry_in verb_of
no-entry-a names = refl

pub no-entry-b : (names : Names) → entry_in names (codes "B" ∷ []) ≡ None
unfolding entry_in verb_of
no-entry-b names = refl

pub no-entry-end : (names : Names) → entry_in names (codes "end" ∷ []) ≡ None
unfolding entry_in verb_of
no-entry-end names = refl

section-line : (lines rest : List Words) → section_line_in lines ≡ Some rest → lines ≡ section_line actor.P ∷ rest
section-line [] rest h = absurd (cc)
section-line (line ∷ lines) rest h =
    let p = only-then (is_only (codes "P") line) (Some lines) rest h in
    ap (λ l. l ∷ lines) (only-line (codes "P") line p.0) ∙ ap (λ ls. section_line actor.P ∷ ls) (some-same lines rest p.1)

ended : {A : Type 0} (x y : A) (lines : List Words) → ended_in x lines ≡ Some y → (x ≡ y) × (lines ≡ [])
ended x y [] h = (some-same x y h, refl)
ended x y (line ∷ lines) h = absurd (cc)

-- what is so of each section
pub each : (P : Actor → Type 0) → P actor.P → P actor.A → P actor.B → (k : Actor) → P k
each P p a b actor.P = p
each P p a b actor.A = a
each P p a b actor.B = b

-- the three sections, and the end
record SpelledBodies (v : Version) (names : Names) (budgets : Sections Budget) (lines : List Words) (s : Script) : Type 0 where
  bodies : Sections (List Words)
  lines_are : lines ≡ body_lines bodies
  spelled : (k : Actor) → SpellsSection v names (sections.section_of bodies k) (section_of s k)
  budgets_are : (k : Actor) → (section_of s k).budget ≡ sections.section_of budgets k
  names_are : s.names ≡ names

bodies-joined : (v : Version) (names : Names) (budgets : Sections Budget) (lines l lp la lb : List Words) (p a b : List Entry) (x y z : Section)
    → section_line_in lines ≡ Some l → entries_in (steps_limit v) names (codes "A") [] 0 [] l ≡ Some (p, lp)
    → entries_in (steps_limit v) names (codes "B") [] 0 [] lp ≡ Some (a, la)
    → entries_in (steps_limit v) names (codes "end") [] 0 [] la ≡ Some (b, lb) → lb ≡ []
    → section_in budgets.p p ≡ Some x → section_in budgets.a a ≡ Some y → section_in budgets.b b ≡ Some z
    → SpelledBodies v names budgets lines (script_of names x y z)
bodies-joined v names budgets lines l lp la lb p a b x y z h i j k e f g m =
    let P = section-spelled v names (codes "A") budgets.p l p lp x i f in
    let A = section-spelled v names (codes "B") budgets.a lp a la y j g in
    let B = section-spelled v names (codes "end") budgets.b la b lb z k m in
    let s = script_of names x y z in
    let bodies : Sections (List Words) = record { p = P.body; a = A.body; b = B.body } in
    record {
      bodies = bodies;
      lines_are = section-line lines l h ∙ ap (λ ls. section_line actor.P ∷ ls) (P.lines_are
          ∙ ap (λ ls. P.body ++ section_line actor.A ∷ ls)
          (A.lines_are ∙ ap (λ ls. A.body ++ section_line actor.B ∷ ls) (B.lines_are ∙ ap (λ ls. B.body ++ end_line ∷ ls) e)));
      spelled = each (λ k. SpellsSection v names (sections.section_of bodies k) (section_of s k)) P.spelled A.spelled B.spelled;
      budgets_are = each (λ k. (section_of s k).budget ≡ sections.section_of budgets k) P.budget_is A.budget_is B.budget_is;
      names_are = refl;
    }

bodies-spelled : (v : Version) (names : Names) (budgets : Sections Budget) (lines : List Words) (p a b : List Entry) (s : Script)
    → bodies_in v names lines ≡ Some (p, a, b) → resolved_in names budgets p a b ≡ Some s → SpelledBodies v names budgets lines s
bodies-spelled v names budgets lines p a b s h made =
    let l = then-some (section_line_in lines) _ _ h in
    let P = then-some (entries_in (steps_limit v) names (codes "A") [] 0 [] l.0) _ _ l.2 in
    let A = then-some (entries_in (steps_limit v) names (codes "B") [] 0 [] P.0.1) _ _ P.2 in
    let B = then-some (entries_in (steps_limit v) names (codes "end") [] 0 [] A.0.1) _ _ A.2 in
    let E = ended (P.0.0, A.0.0, B.0.0) (p, a, b) B.0.1 B.2 in
    let x = then-some (section_in budgets.p p) _ _ made in
    let y = then-some (section_in budgets.a a) _ _ x.2 in
    let z = then-some (section_in budgets.b b) _ _ y.2 in
    let same-p : P.0.0 ≡ p = ap (λ t. t.0) E.0 in
    let same-a : A.0.0 ≡ a = ap (λ t. t.1) E.0 in
    let same-b : B.0.0 ≡ b = ap (λ t. t.2) E.0 in
    subst (SpelledBodies v names budgets lines) (some-same (script_of names x.0 y.0 z.0) s z.2)
    (bodies-joined v names budgets lines l.0 P.0.1 A.0.1 B.0.1 P.0.0 A.0.0 B.0.0 x.0 y.0 z.0 l.1 P.1 A.1 B.1 E.1
    (ap (section_in budgets.p) same-p ∙ x.1) (ap (section_in budgets.a) same-a ∙ y.1) (ap (section_in budgets.b) same-b ∙ z.1))

-- ---- the whole

budgets-spelled : (line : Words) (lines : List Words) (budgets : Sections Budget) (rest : List Words) → budgets_in line lines ≡ Some (budgets, rest)
    → (second : Words) × (third : Words) × (lines ≡ second ∷ third ∷ rest)
    × SpellsBudget actor.P line budgets.p × SpellsBudget actor.A second budgets.a × SpellsBudget actor.B third budgets.b
budgets-spelled line lines budgets rest h =
    let p = then-some (budget_in actor.P line) _ _ h in
    let a = then-some (next_budget_in actor.A lines) _ _ p.2 in
    let b = then-some (next_budget_in actor.B a.0.1) _ _ a.2 in
    let (second, e, s) = next-budget actor.A lines a.0.0 a.0.1 a.1 in
    let (third, f, t) = next-budget actor.B a.0.1 b.0.0 b.0.1 b.1 in
    let same = some-same (budgets_of p.0 a.0.0 b.0.0, b.0.1) (budgets, rest) b.2 in
    let P : Sections Budget × List Words → Type 0 = λ x. (second : Words) × (third : Words) × (lines ≡ second ∷ third ∷ x.1)
    × SpellsBudget actor.P line x.0.p × SpellsBudget actor.A second x.0.a × SpellsBudget actor.B third x.0.b in
    subst P same (second, third, e ∙ ap (λ ls. second ∷ ls) f, budget-spelled actor.P line p.0 p.1, s, t)

script-joined : (v : Version) (text : List ℕ) (l : List Words) (names : Names) (line : Words) (behind : List Words) (budgets : Sections Budget)
    (onward : List Words) (s : Script)
    → words_of_text SpaceOrTab text ≡ header v ∷ l → (l ≡ names_lines names ++ line ∷ behind) × AreDeclared names × (length names.flags ≤ flags_limit v)
    → (second : Words) × (third : Words) × (behind ≡ second ∷ third ∷ onward)
    × SpellsBudget actor.P line budgets.p × SpellsBudget actor.A second budgets.a × SpellsBudget actor.B third budgets.b
    → SpelledBodies v names budgets onward s → SpellsInVersion v text s
script-joined v text l names line behind budgets onward s h (n, declared, few) (second, third, e, p, a, b) bodies =
    let N : Names → Type 0 = AreDeclared in
    let read : Sections Words = record { p = line; a = second; b = third } in
    let spelled : (k : Actor) → SpellsBudget k (sections.section_of read k) (sections.section_of budgets k) =
    each (λ k. SpellsBudget k (sections.section_of read k) (sections.section_of budgets k)) p a b in
    record {
      budgets = read;
      bodies = bodies.bodies;
      lines = h ∙ ap (λ ls. header v ∷ ls) (n ∙ ap (λ ls. names_lines names ++ line ∷ ls) (e ∙ ap (λ ls. second ∷ third ∷ ls) bodies.lines_are)
          ∙ ap (λ ns. names_lines ns ++ line ∷ second ∷ third ∷ body_lines bodies.bodies) (sym bodies.names_are));
      declared = subst N (sym bodies.names_are) declared;
      few_flags = subst (λ (ns : Names). length ns.flags ≤ flags_limit v) (sym bodies.names_are) few;
      allowed = λ k. subst (SpellsBudget k (sections.section_of read k)) (sym (bodies.budgets_are k)) (spelled k);
      spelled = λ k. subst (λ (ns : Names). SpellsSection v ns (sections.section_of bodies.bodies k) (section_of s k))
          (sym bodies.names_are) (bodies.spelled k);
    }

pub script_spelled : (text : List ℕ) (s : Script) → script_in (words_of_text SpaceOrTab text) ≡ Some s → SpellsScript text s
script_spelled text s h =
    let lines = words_of_text SpaceOrTab text in
    let l = then-some (header_in lines) _ _ h in
    let v = l.0.0 in
    let n = then-some (all_names_in v l.0.1) _ _ l.2 in
    let d = then-some (budgets_in n.0.1 n.0.2) _ _ n.2 in
    let e = then-some (bodies_in v n.0.0 d.0.1) _ _ d.2 in (
      v,
      script-joined v text l.0.1 n.0.0 n.0.1 n.0.2 d.0.0 d.0.1 s (header-spelled lines v l.0.1 l.1) (names-spelled v l.0.1 n.0.0 n.0.1 n.0.2 n.1)
          (budgets-spelled n.0.1 n.0.2 d.0.0 d.0.1 d.1) (bodies-spelled v n.0.0 d.0.0 d.0.1 e.0.0 e.0.1 e.0.2 s e.1 e.2),
    )

names-in : (limit bytes : ℕ) (name : Word) (names : List Word) → may_be_declared limit bytes (name ∷ names) ≡ true
    → names_in limit bytes (name ∷ names) ≡ Some (name ∷ names)
unfolding names_in
names-in limit bytes name names h = rw h refl

-- names are read from their lines, where a budget follows
names-read : (v : Version) (keys flags vars : List Word) (others : Words) (rest : List Words) → not (length keys == 0) ≡ true
    → may_be_declared KEYS_LIMIT KEY_BYTES_LIMIT keys ≡ true → may_be_declared (flags_limit v) NAME_BYTES_LIMIT flags ≡ true
    → may_be_declared VARIABLES_LIMIT NAME_BYTES_LIMIT vars ≡ true
    → all_names_in v (names_lines (names_of keys flags vars) ++ (codes "budget" ∷ others) ∷ rest)
    ≡ Some (names_of keys flags vars, codes "budget" ∷ others, rest)
names-read v [] flags vars others rest some k f w = absurd (cc)
names-read v (key ∷ keys) [] [] others rest some k f w = rw (names-in KEYS_LIMIT KEY_BYTES_LIMIT key keys k) refl
names-read v (key ∷ keys) (flag ∷ flags) [] others rest some k f w =
    rw (names-in KEYS_LIMIT KEY_BYTES_LIMIT key keys k, names-in (flags_limit v) NAME_BYTES_LIMIT flag flags f) refl
names-read v (key ∷ keys) [] (var ∷ vars) others rest some k f w =
    rw (names-in KEYS_LIMIT KEY_BYTES_LIMIT key keys k, names-in VARIABLES_LIMIT NAME_BYTES_LIMIT var vars w) refl
names-read v (key ∷ keys) (flag ∷ flags) (var ∷ vars) others rest some k f w =
    rw (
      names-in KEYS_LIMIT KEY_BYTES_LIMIT key keys k,
      names-in (flags_limit v) NAME_BYTES_LIMIT flag flags f,
      names-in VARIABLES_LIMIT
          NAME_BYTES_LIMIT var vars w,
    ) refl

names-read-at : (v : Version) (names : Names) (line : Words) (budget : Budget) (rest : List Words) → AreDeclared names → length names.flags ≤ flags_limit v
    → SpellsBudget actor.P line budget
    → all_names_in v (names_lines names ++ line ∷ rest) ≡ Some (names, line, rest)
names-read-at v names line budget rest d few (r, y, e, n, m) =
    let behind = actor_word actor.P ∷ r ∷ y ∷ [] in
    let P : Words → Type 0 = λ l. all_names_in v (names_lines names ++ l ∷ rest) ≡ Some (names, l, rest) in
    subst P (sym e) (names-read v names.keys names.flags names.vars behind rest d.some d.keys
    (declared-within (flags_limit v) FLAGS_LIMIT NAME_BYTES_LIMIT names.flags few d.flags) d.vars)

budgets-read : (line second third : Words) (p a b : Budget) (rest : List Words) → SpellsBudget actor.P line p → SpellsBudget actor.A second a
    → SpellsBudget actor.B third b → budgets_in line (second ∷ third ∷ rest) ≡ Some (budgets_of p a b, rest)
budgets-read line second third p a b rest x y z =
    rw (budget-read actor.P line p x, budget-read actor.A second a y, budget-read actor.B third b z) refl

header-read : (v : Version) → header_version (header v) ≡ Some v
header-read version.One = refl
header-read version.Two = refl

script-read-lines : (v : Version) (text : List ℕ) (s : Script) (h : SpellsInVersion v text s)
    → script_in (header v ∷ (names_lines s.names ++ h.budgets.p ∷ h.budgets.a ∷ h.budgets.b ∷ body_lines h.bodies)) ≡ Some s
script-read-lines v text s h =
    let lines = h.budgets in
    let p = h.spelled actor.P in
    let a = h.spelled actor.A in
    let b = h.spelled actor.B in
    let B = section-read v s.names (codes "end") h.bodies.b [] s.sections.b (no-entry-end s.names) b in
    let A = section-read v s.names (codes "B") h.bodies.a (h.bodies.b ++ end_line ∷ []) s.sections.a (no-entry-b s.names) a in
    let P = section-read v s.names (codes "A") h.bodies.p (h.bodies.a ++ section_line actor.B ∷ (h.bodies.b ++ end_line ∷ [])) s.sections.p
    (no-entry-a s.names) p in
    let body = body_lines h.bodies in
    let names = names-read-at v s.names lines.p s.sections.p.budget (lines.a ∷ lines.b ∷ body) h.declared h.few_flags (h.allowed actor.P) in
    let budgets = budgets-read lines.p lines.a lines.b s.sections.p.budget s.sections.a.budget s.sections.b.budget body (h.allowed actor.P) (h.allowed actor.A)
    (h.allowed actor.B) in
    let bodies : bodies_in v s.names body ≡ Some (p.entries, a.entries, b.entries) = rw (P.0, A.0, B.0) refl in
    let made : resolved_in s.names (budgets_of s.sections.p.budget s.sections.a.budget s.sections.b.budget) p.entries a.entries b.entries ≡ Some s =
    rw (P.1, A.1, B.1) refl in
    rw (header-read v, names, budgets, bodies) made

pub script-read : (text : List ℕ) (s : Script) → SpellsScript text s → script_in (words_of_text SpaceOrTab text) ≡ Some s
script-read text s (v, h) = ap script_in h.lines ∙ script-read-lines v text s h

pub one_script : SpellsOneScript
one_script text s t a b = some-same s t (sym (script-read text s a) ∙ script-read text t b)
