-- A section is read exactly where its lines spell it.
use Rattle.std.proofs.Common.{◌≡◌, ℕ, ◌+◌, ◌≤◌, nat_lt, Bool, true, false, ◌&&◌, Option, Some, None, List, [], ◌∷◌, ◌++◌, refl, sym, ap, subst, ◌∙◌}
use Rattle.std.proofs.lemmas.Bool.{and_parts, and_from, ltb-true, lt-ltb, false_from_ne_true}
use Rattle.std.proofs.{Common.append-nil, Common.append_assoc, Common.arith, Common.length, lemmas.Slice.Eq.bytes_eq-Decides}
use Rattle.std.specs.{List.list_all, Str.bytes_eq}
use Rattle.mc_script_text.specs.Values.{Word, Words, Entry, Budget, Label, Step, Version}
use Rattle.mc_script_text.specs.Reading.{entry_in, entries_in, may_follow, following, step_count, with_label, step_total, section_in}
use Rattle.mc_script_text.specs.{SectionText.SpellsEntry, SectionText.SpellsSection, Steps.labels_from, Steps.step_in, Steps.steps_from}
use Rattle.mc_script_text.specs.Values.entry
use Rattle.mc_protocol.specs.{Lines.is_only, Names.is_new, Names.are_distinct, Spelling.SpellEach}
use Rattle.mc_script.specs.Chains.{◌>>=◌}
use Rattle.mc_script.specs.{Script.Names, Script.Section, WellFormed.label_names, Versions.steps_limit}
use Rattle.mc_script_text.proofs.Outcomes.{then-some, cond-cases, some-same, only-then, front-parts}
use Rattle.mc_script_text.proofs.{Lists.bytes-same, Lists.bytes-swap, Lists.twins-push, Lists.none-before, EntryWords.entry-spelled, EntryWords.entry-read}

pub bytes-equal : (xs : Word) → bytes_eq xs xs ≡ true
bytes-equal xs = (bytes_eq-Decides xs xs).1 refl

-- ---- the line after a section

pub only-line : (stop : Word) (line : Words) → is_only stop line ≡ true → line ≡ stop ∷ []
only-line stop (word ∷ []) h = ap (λ w. w ∷ []) (bytes-same word stop h)
only-line stop line h = absurd (cc)

pub only-itself : (stop : Word) → is_only stop (stop ∷ []) ≡ true
only-itself stop = bytes-equal stop

pub other-line : (names : Names) (stop : Word) (line : Words) (e : Entry) → entry_in names (stop ∷ []) ≡ None → entry_in names line ≡ Some e
    → is_only stop line ≡ false
other-line names stop line e none read =
    false_from_ne_true (is_only stop line) (λ h. let same = sym none ∙ ap (entry_in names) (sym (only-line stop line h)) ∙ read in cc)

-- ---- line by line

pub may_follow_all : ℕ → ℕ → List Word → List Entry → Bool
may_follow_all limit count labels [] = true
may_follow_all limit count labels (e ∷ entries) = may_follow limit count labels e && may_follow_all limit (count + step_count e) (with_label labels e) entries

pub record SpelledEntries (limit : ℕ) (names : Names) (stop : Word) (done : List Entry) (count : ℕ) (labels : List Word) (lines : List Words)
    (all : List Entry) (rest : List Words) : Type 0 where
  pub entries : List Entry
  pub body : List Words
  pub all_are : all ≡ done ++ entries
  pub lines_are : lines ≡ body ++ (stop ∷ []) ∷ rest
  pub spelled : SpellEach (SpellsEntry names) body entries
  pub follow : may_follow_all limit count labels entries ≡ true

-- an entry that may follow was read, and may follow
pub followed : (limit count : ℕ) (labels : List Word) (read : Option Entry) (e : Entry) → following limit count labels read ≡ Some e
    → (read ≡ Some e) × (may_follow limit count labels e ≡ true)
followed limit count labels read e h =
    let p = then-some read _ _ h in
    let q = only-then (may_follow limit count labels p.0) (Some p.0) e p.2 in
    let P : Entry → Type 0 = λ x. (read ≡ Some x) × (may_follow limit count labels x ≡ true) in
    subst P (some-same p.0 e q.1) (p.1, q.0)

pub entries-spelled : (limit : ℕ) (names : Names) (stop : Word) (done : List Entry) (count : ℕ) (labels : List Word) (lines : List Words)
    (all : List Entry) (rest : List Words)
    → entries_in limit names stop done count labels lines ≡ Some (all, rest) → SpelledEntries limit names stop done count labels lines all rest
unfolding may_follow_all
entries-spelled limit names stop done count labels [] all rest h = absurd (cc)
entries-spelled limit names stop done count labels (line ∷ lines) all rest h =
    let next : Entry → Option (List Entry × List Words) =
    λ e. entries_in limit names stop (done ++ e ∷ []) (count + step_count e) (with_label labels e) lines in
    let onward : Option (List Entry × List Words) = following limit count labels (entry_in names line) >>= next in
    cond-cases (is_only stop line) (Some (done, lines)) onward (all, rest) (SpelledEntries limit names stop done count labels (line ∷ lines) all rest) h
    (λ b g.
    let e = some-same (done, lines) (all, rest) g in
    record {
      entries = [];
      body = [];
      all_are = ap (λ t. t.0) (sym e) ∙ sym (append-nil done);
      lines_are = ap (λ l. l ∷ lines) (only-line stop line b) ∙ ap (λ t. (stop ∷ []) ∷ t.1) e;
      spelled = tt;
      follow = refl;
    })
    (λ _ g.
    let p = then-some (following limit count labels (entry_in names line)) next (all, rest) g in
    let (read, may) = followed limit count labels (entry_in names line) p.0 p.1 in
    let r = entries-spelled limit names stop (done ++ p.0 ∷ []) (count + step_count p.0) (with_label labels p.0) lines all rest p.2 in
    record {
      entries = p.0 ∷ r.entries;
      body = line ∷ r.body;
      all_are = r.all_are ∙ append_assoc done (p.0 ∷ []) r.entries;
      lines_are = ap (λ ls. line ∷ ls) r.lines_are;
      spelled = (entry-spelled names line p.0 read, r.spelled);
      follow = and_from (may_follow limit count labels p.0) (may_follow_all limit (count + step_count p.0) (with_label labels p.0) r.entries) may r.follow;
    })

pub entries-read : (limit : ℕ) (names : Names) (stop : Word) (done : List Entry) (count : ℕ) (labels : List Word) (body : List Words)
    (entries : List Entry) (rest : List Words)
    → entry_in names (stop ∷ []) ≡ None → SpellEach (SpellsEntry names) body entries → may_follow_all limit count labels entries ≡ true
    → entries_in limit names stop done count labels (body ++ (stop ∷ []) ∷ rest) ≡ Some (done ++ entries, rest)
unfolding may_follow_all
entries-read limit names stop done count labels [] [] rest none s f = rw (only-itself stop) (ap (λ es. Some (es, rest)) (sym (append-nil done)))
entries-read limit names stop done count labels (line ∷ body) (e ∷ entries) rest none s f =
    let read = entry-read names line e s.0 in
    let p = and_parts (may_follow limit count labels e) (may_follow_all limit (count + step_count e) (with_label labels e) entries) f in
    rw (other-line names stop line e none read, read, p.0)
    (entries-read limit names stop (done ++ e ∷ []) (count + step_count e) (with_label labels e) body entries rest none s.1 p.1
    ∙ ap (λ es. Some (es, rest)) (append_assoc done (e ∷ []) entries))
entries-read limit names stop done count labels body entries rest none s f = absurd s

-- ---- the rules one by one

unfoldable pub entry_names : List Entry → List Word
entry_names [] = []
entry_names (entry.Label name ∷ entries) = name ∷ entry_names entries
entry_names (step ∷ entries) = entry_names entries

pub record Rules (limit count : ℕ) (labels : List Word) (entries : List Entry) : Type 0 where
  pub few : count + step_total entries ≤ limit
  pub apart : list_all (is_new labels) (entry_names entries) ≡ true
  pub distinct : are_distinct (entry_names entries) ≡ true

-- names are new beside some labels and one more
new-push : (labels : List Word) (name : Word) (names : List Word)
    → list_all (is_new (labels ++ name ∷ [])) names ≡ (list_all (is_new labels) names && is_new names name)
new-push labels name names = twins-push bytes_eq bytes_eq bytes-swap labels name names

pub rules-from : (limit count : ℕ) (labels : List Word) (entries : List Entry) → count ≤ limit → may_follow_all limit count labels entries ≡ true
    → Rules limit count labels entries
unfolding may_follow_all step_total entry_names
rules-from limit count labels [] small h = record { few = omega arith; apart = refl; distinct = refl }
rules-from limit count labels (entry.Label name ∷ entries) small h =
    let p = and_parts (is_new labels name) (may_follow_all limit (count + 0) (labels ++ name ∷ []) entries) h in
    let r = rules-from limit (count + 0) (labels ++ name ∷ []) entries (omega arith) p.1 in
    let s = and_parts (list_all (is_new labels) (entry_names entries)) (is_new (entry_names entries) name)
    (sym (new-push labels name (entry_names entries)) ∙ r.apart) in
    let f = r.few in
    record {
      few = omega arith;
      apart = and_from (is_new labels name) (list_all (is_new labels) (entry_names entries)) p.0 s.0;
      distinct = and_from (is_new (entry_names entries) name) (are_distinct (entry_names entries)) s.1 r.distinct;
    }
rules-from limit count labels (step ∷ entries) small h =
    let p = and_parts (nat_lt count limit) (may_follow_all limit (count + 1) labels entries) h in
    let below = ltb-true count limit p.0 in
    let r = rules-from limit (count + 1) labels entries (omega arith) p.1 in
    let f = r.few in
    record { few = omega arith; apart = r.apart; distinct = r.distinct }

pub follow-from : (limit count : ℕ) (labels : List Word) (entries : List Entry) → Rules limit count labels entries
    → may_follow_all limit count labels entries ≡ true
unfolding may_follow_all step_total entry_names
follow-from limit count labels [] r = refl
follow-from limit count labels (entry.Label name ∷ entries) r =
    let a = and_parts (is_new labels name) (list_all (is_new labels) (entry_names entries)) r.apart in
    let d = and_parts (is_new (entry_names entries) name) (are_distinct (entry_names entries)) r.distinct in
    let f = r.few in
    and_from (is_new labels name) (may_follow_all limit (count + 0) (labels ++ name ∷ []) entries) a.0
    (follow-from limit (count + 0) (labels ++ name ∷ []) entries record {
      few = omega arith;
      apart = new-push labels name (entry_names entries)
          ∙ and_from (list_all (is_new labels) (entry_names entries)) (is_new (entry_names entries) name) a.1 d.0;
      distinct = d.1;
    })
follow-from limit count labels (step ∷ entries) r =
    let f = r.few in
    and_from (nat_lt count limit) (may_follow_all limit (count + 1) labels entries) (lt-ltb count limit (omega arith))
    (follow-from limit (count + 1) labels entries record { few = omega arith; apart = r.apart; distinct = r.distinct })

names-are : (place : ℕ) (entries : List Entry) → label_names (labels_from place entries) ≡ entry_names entries
unfolding entry_names
names-are place [] = refl
names-are place (entry.Label name ∷ entries) = ap (λ names. name ∷ names) (names-are place entries)
names-are place (step ∷ entries) = names-are (place + 1) entries

pub steps_count : (labels : List Label) (place : ℕ) (entries : List Entry) (steps : List Step) → steps_from labels place entries ≡ Some steps
    → length steps ≡ step_total entries
unfolding step_total
steps_count labels place [] steps h = ap length (sym (some-same [] steps h))
steps_count labels place (entry.Label name ∷ entries) steps h =
    let e = steps_count labels place entries steps h in omega (arith, e)
steps_count labels place (e ∷ entries) steps h =
    let (s, others, one, rest, all) = front-parts (step_in labels place e) (steps_from labels (place + 1) entries) steps h in
    omega (arith, steps_count labels (place + 1) entries others rest, ap length all)

pub record SpelledSection (v : Version) (names : Names) (stop : Word) (budget : Budget) (lines rest : List Words) (s : Section) : Type 0 where
  pub body : List Words
  pub lines_are : lines ≡ body ++ (stop ∷ []) ∷ rest
  pub spelled : SpellsSection v names body s
  pub budget_is : s.budget ≡ budget

pub section-spelled : (v : Version) (names : Names) (stop : Word) (budget : Budget) (lines : List Words) (entries : List Entry)
    (rest : List Words) (s : Section)
    → entries_in (steps_limit v) names stop [] 0 [] lines ≡ Some (entries, rest) → section_in budget entries ≡ Some s
    → SpelledSection v names stop budget lines rest s
section-spelled v names stop budget lines entries rest s h made =
    let labels = labels_from 0 entries in
    let e = entries-spelled (steps_limit v) names stop [] 0 [] lines entries rest h in
    let r = rules-from (steps_limit v) 0 [] e.entries (omega arith) e.follow in
    let q = then-some (steps_from labels 0 entries) _ _ made in
    let whole = some-same (record { budget = budget; steps = q.0; labels = labels }) s q.2 in
    let total = steps_count labels 0 entries q.0 q.1 in
    let same : entries ≡ e.entries = e.all_are in
    let P : List Entry → Type 0 = λ es. SpellEach (SpellsEntry names) e.body es in
    let Q : List Entry → Type 0 = λ es. are_distinct (entry_names es) ≡ true in
    let R : List Entry → Type 0 = λ es. 0 + step_total es ≤ steps_limit v in
    let few = subst R (sym same) r.few in
    record {
      body = e.body;
      lines_are = e.lines_are;
      spelled = subst (SpellsSection v names e.body) whole record {
        entries = entries;
        spelled = subst P (sym same) e.spelled;
        labels = refl;
        distinct = ap are_distinct (names-are 0 entries) ∙ subst Q (sym same) r.distinct;
        steps = q.1;
        few = omega (arith, few, total);
      };
      budget_is = ap (λ t. t.budget) (sym whole);
    }

same-section : (s : Section) (labels : List Label) → s.labels ≡ labels → ◌≡◌ {A = Section} (record { budget = s.budget; steps = s.steps; labels = labels }) s
same-section s labels e = rw (← e) refl

pub section-read : (v : Version) (names : Names) (stop : Word) (body rest : List Words) (s : Section) → entry_in names (stop ∷ []) ≡ None
    → (spelled : SpellsSection v names body s)
    → (entries_in (steps_limit v) names stop [] 0 [] (body ++ (stop ∷ []) ∷ rest) ≡ Some (spelled.entries, rest))
    × (section_in s.budget spelled.entries ≡ Some s)
section-read v names stop body rest s none p =
    let entries = p.entries in
    let total = steps_count s.labels 0 entries s.steps p.steps in
    let few = p.few in
    let named : label_names s.labels ≡ entry_names entries = ap label_names p.labels ∙ names-are 0 entries in
    let follow = follow-from (steps_limit v) 0 [] entries record {
      few = omega (arith, few, total);
      apart = none-before bytes_eq (entry_names entries);
      distinct = ap are_distinct (sym named) ∙ p.distinct;
    } in
    let steps : steps_from (labels_from 0 entries) 0 entries ≡ Some s.steps = ap (λ labels. steps_from labels 0 entries) (sym p.labels) ∙ p.steps in (
      entries-read (steps_limit v) names stop [] 0 [] body entries rest none p.spelled follow,
      rw steps (ap Some (same-section s (labels_from 0 entries) p.labels)),
    )
