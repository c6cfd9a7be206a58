-- The front of a text that spells a script ends with the first line that is `end`, since one line of a script is.
use Rattle.std.proofs.Common.{◌≡◌, ℕ, ◌+◌, cond, Bool, false, List, [], ◌∷◌, ◌++◌, codes, refl, ap, ◌∙◌, arith, ◌≤◌, true, if◌then◌else◌, length, take, sym}
use Rattle.std.proofs.{Common.subst, Common.append_assoc, lemmas.List.take_at, lemmas.List.Folds.concat-append}
use Rattle.mc_script_text.specs.Values.{Actor, SpaceOrTab, Word, Words, Entry, Budget, Version}
use Rattle.mc_script_text.specs.ScriptText.{SpellsInVersion, SpellsBudget, names_line, names_lines, section_line, end_line, body_lines, SpellsScript}
use Rattle.mc_script_text.specs.FrontText.{SpellsFront, FrontsSpellOneScript, IsEnd}
use Rattle.mc_script_text.specs.{SectionText.SpellsEntry, Reading.begins_with_end, Reading.is_end, Reading.to_end}
use Rattle.mc_script_text.specs.Values.actor
use Rattle.mc_protocol.specs.Lines.{words_of_text, is_only, words_of, is_skipped, Words}
use Rattle.mc_protocol.specs.{Spelling.SpellEach, declared.lines.Separator.TheVariants.SpaceOrTab}
use Rattle.mc_script.specs.Script.{Names, Script}
use Rattle.mc_script_text.proofs.SectionLines.{other-line, only-line, only-itself}
use Rattle.mc_script_text.proofs.FrontLines.{line_words, IsLine, words-by_lines, words-of_line, lines-of_front}
use Rattle.mc_script_text.proofs.{EntryWords.entry-read, WholeScript.no-entry-end, WholeScript.one_script}
use Rattle.std.specs.List.{concat, flat_map, AllByRecursion}
use Rattle.bstr.specs.Text.{lines_of, without_terminator}
use Rattle.bstr.proofs.lemmas.RestLemmas.{concat-lines_of}

-- how many of these pass the test
abbrev pub count : {X : Type 0} → (X → Bool) → List X → ℕ
count p [] = 0
count p (x ∷ xs) = cond (p x) 1 0 + count p xs

pub count-append : {X : Type 0} (p : X → Bool) (xs ys : List X) → count p (xs ++ ys) ≡ count p xs + count p ys
count-append p [] ys = omega arith
count-append p (x ∷ xs) ys = let others = count-append p xs ys in omega (arith, others)

-- the words are those of the line `end`
abbrev pub ends : Words → Bool
ends line = is_only (codes "end") line

none-named : (word : Word) (names : List Word) → count ends (names_line word names) ≡ 0
none-named word [] = refl
none-named word (name ∷ names) = refl

none-declared : (names : Names) → count ends (names_lines names) ≡ 0
none-declared names =
    let keys = names_line (codes "keys") names.keys in
    let flags = names_line (codes "flags") names.flags in
    let vars = names_line (codes "vars") names.vars in
    rw (
      count-append ends (keys ++ flags) vars,
      count-append ends keys flags,
      none-named (codes "keys") names.keys,
      none-named (codes "flags") names.flags,
      none-named (codes "vars") names.vars,
    ) refl

goes-budget : (a : Actor) (line : Words) (budget : Budget) → SpellsBudget a line budget → ends line ≡ false
goes-budget a line budget (r, y, e, n, m) = rw e refl

none-spelled : (names : Names) (lines : List Words) (entries : List Entry) → SpellEach (SpellsEntry names) lines entries → count ends lines ≡ 0
none-spelled names [] entries each = refl
none-spelled names (line ∷ lines) [] each = absurd each
none-spelled names (line ∷ lines) (e ∷ entries) each =
    rw (
      other-line names (codes "end") line e (no-entry-end names) (entry-read names line e each.0),
      none-spelled names lines entries each.1,
    ) refl

pub script-ends : (v : Version) (text : List ℕ) (s : Script) → SpellsInVersion v text s → count ends (words_of_text SpaceOrTab text) ≡ 1
script-ends v text s h =
    let p = h.spelled actor.P in
    let a = h.spelled actor.A in
    let b = h.spelled actor.B in
    let after_a = h.bodies.b ++ end_line ∷ [] in
    let after_p = h.bodies.a ++ section_line actor.B ∷ after_a in
    ap (count ends) h.lines ∙ rw (
      count-append ends (names_lines s.names) (h.budgets.p ∷ h.budgets.a ∷ h.budgets.b ∷ body_lines h.bodies),
      count-append ends h.bodies.p (section_line actor.A ∷ after_p),
      count-append ends h.bodies.a (section_line actor.B ∷ after_a),
      count-append ends h.bodies.b (end_line ∷ []),
      none-declared s.names,
      goes-budget actor.P h.budgets.p s.sections.p.budget (h.allowed actor.P),
      goes-budget actor.A h.budgets.a s.sections.a.budget (h.allowed actor.A),
      goes-budget actor.B h.budgets.b s.sections.b.budget (h.allowed actor.B),
      none-spelled s.names h.bodies.p p.entries p.spelled,
      none-spelled s.names h.bodies.a a.entries a.spelled,
      none-spelled s.names h.bodies.b b.entries b.spelled,
    ) refl

all-at : {X : Type 0} (P : X → Type 0) (xs : List X) (y : X) (ys : List X) → AllByRecursion P (xs ++ y ∷ ys) → P y
all-at P [] y ys h = h.0
all-at P (x ∷ xs) y ys h = all-at P xs y ys h.1

-- ---- a line that is `end`

abbrev words : List ℕ → List Words
words line = line_words SpaceOrTab line

only-end : (skips : Bool) (w : Words) → begins_with_end (if skips then [] else w ∷ []) ≡ true
    → (if skips then [] else w ∷ []) ≡ end_line ∷ []
only-end true w is = absurd (cc)
only-end false w is = ap (λ l. l ∷ []) (only-line (codes "end") w is)

-- a line is `end` where the test says so
end-from_test : (line : List ℕ) → IsLine line → is_end line ≡ true → IsEnd line
end-from_test line one is =
    let text = without_terminator line in
    let same = words-of_line SpaceOrTab line one in
    same ∙ only-end (is_skipped SpaceOrTab text) (words_of SpaceOrTab text) (sym (ap begins_with_end same) ∙ is)

end-to_test : (line : List ℕ) → IsEnd line → is_end line ≡ true
end-to_test line is = ap begins_with_end is ∙ only-itself (codes "end")

count-words : (skips : Bool) (w : Words) → count ends (if skips then [] else w ∷ []) ≡ cond (begins_with_end (if skips then [] else w ∷ [])) 1 0
count-words true w = refl
count-words false w = omega arith

-- as many lines are `end` as have its words
count-lines : (lines : List (List ℕ)) → AllByRecursion IsLine lines → count ends (flat_map words lines) ≡ count is_end lines
count-lines [] ones = refl
count-lines (line ∷ lines) ones =
    let text = without_terminator line in
    let here : count ends (words line) ≡ cond (is_end line) 1 0 =
    count-words (is_skipped SpaceOrTab text) (words_of SpaceOrTab text)
    ∙ ap (λ ws. cond (begins_with_end ws) 1 0) (sym (words-of_line SpaceOrTab line ones.0)) in
    count-append ends (words line) (flat_map words lines) ∙ ap (λ n. n + count ends (flat_map words lines)) here
    ∙ ap (λ n. cond (is_end line) 1 0 + n) (count-lines lines ones.1)

-- of the lines of a text that spells a script one is `end`
one-end : (text : List ℕ) (s : Script) (lines : List (List ℕ)) → SpellsScript text s → lines_of text ≡ lines → AllByRecursion IsLine lines
    → count is_end lines ≡ 1
one-end text s lines (v, spelled) are ones =
    sym (count-lines lines ones) ∙ ap (λ ls. count ends (flat_map words ls)) (sym are) ∙ ap (count ends) (sym (words-by_lines SpaceOrTab text))
    ∙ script-ends v text s spelled

-- ---- the lines up to the first `end`

to_end-at : (before : List (List ℕ)) (last : List ℕ) (others : List (List ℕ)) → count is_end (before ++ last ∷ []) ≡ 1 → is_end last ≡ true
    → to_end (before ++ last ∷ others) ≡ before ++ last ∷ []
to_end-at [] last others one is = rw is refl
to_end-at (line ∷ before) last others one is = go (is_end line) refl (λ k. to_end-at before last others k is)
  where
    later : 1 ≤ count is_end (before ++ last ∷ [])
    later = let parts = count-append is_end before (last ∷ []) in
        let here : count is_end (last ∷ []) ≡ 1 = rw is refl in omega (arith, parts, here)

    go : (b : Bool) → is_end line ≡ b → (count is_end (before ++ last ∷ []) ≡ 1 → to_end (before ++ last ∷ others) ≡ before ++ last ∷ [])
        → to_end (line ∷ (before ++ last ∷ others)) ≡ line ∷ (before ++ last ∷ [])
    go true e onward = let two : 1 + count is_end (before ++ last ∷ []) ≡ 1 = rw e at one in absurd (omega (arith, two, later))
    go false e onward =
        let rest : 0 + count is_end (before ++ last ∷ []) ≡ 1 = rw e at one in
        rw e (ap (λ ls. line ∷ ls) (onward (omega (arith, rest))))

record Split (lines : List (List ℕ)) : Type 0 where
  before : List (List ℕ)
  last : List ℕ
  others : List (List ℕ)
  lines_are : lines ≡ before ++ last ∷ others
  ended : is_end last ≡ true
  front : to_end lines ≡ before ++ last ∷ []

split-after : (line : List ℕ) (lines : List (List ℕ)) → is_end line ≡ false → Split lines → Split (line ∷ lines)
split-after line lines goes s = record {
  before = line ∷ s.before;
  last = s.last;
  others = s.others;
  lines_are = ap (λ ls. line ∷ ls) s.lines_are;
  ended = s.ended;
  front = rw goes (ap (λ ls. line ∷ ls) s.front);
}

-- the lines are split at the first `end`, where there is one
split : (lines : List (List ℕ)) → count is_end (to_end lines) ≡ 1 → Split lines
split [] one = absurd (omega (arith, one))
split (line ∷ lines) one = go (is_end line) refl (λ k. split lines k)
  where
    go : (b : Bool) → is_end line ≡ b → (count is_end (to_end lines) ≡ 1 → Split lines) → Split (line ∷ lines)
    go true e onward = record { before = []; last = line; others = lines; lines_are = refl; ended = e; front = rw e refl }
    go false e onward =
        let rest : count is_end (line ∷ to_end lines) ≡ 1 = rw e at one in
        let later : 0 + count is_end (to_end lines) ≡ 1 = rw e at rest in
        split-after line lines e (onward (omega (arith, later)))

to_end-begins : (lines : List (List ℕ)) → (others : List (List ℕ)) × (lines ≡ to_end lines ++ others)
to_end-begins [] = ([], refl)
to_end-begins (line ∷ lines) = go (is_end line) (to_end-begins lines)
  where
    go : (b : Bool) → (others : List (List ℕ)) × (lines ≡ to_end lines ++ others)
        → (others : List (List ℕ)) × (line ∷ lines ≡ (if b then line ∷ [] else line ∷ to_end lines) ++ others)
    go true h = (lines, refl)
    go false (others, e) = (others, ap (λ ls. line ∷ ls) e)

-- ---- fronts

-- the bytes of a front
front-bytes : (text : List ℕ) (before : List (List ℕ)) (last : List ℕ) (others : List (List ℕ)) (n : ℕ)
    → lines_of text ≡ before ++ last ∷ others → n ≡ length (concat (before ++ last ∷ [])) → take n text ≡ concat (before ++ last ∷ [])
front-bytes text before last others n e size =
    let front = before ++ last ∷ [] in
    let whole : text ≡ concat front ++ concat others =
    sym (concat-lines_of text) ∙ ap concat (e ∙ sym (append_assoc before (last ∷ []) others)) ∙ concat-append front others in
    ap (take n) whole ∙ take_at (concat front) (concat others) n (sym size)

-- a front that spells a script is that up to the first `end`
front-is : (text : List ℕ) (s : Script) (n : ℕ) → (h : SpellsFront text s n)
    → concat (to_end (lines_of text)) ≡ concat (h.before ++ h.last ∷ [])
front-is text s n h =
    let front = h.before ++ h.last ∷ [] in
    let lines = lines-of_front text front h.others (h.lines ∙ sym (append_assoc h.before (h.last ∷ []) h.others)) in
    let bytes = front-bytes text h.before h.last h.others n h.lines h.size in
    let one = one-end (take n text) s front h.spelled (ap lines_of bytes ∙ lines.0) lines.1 in
    ap (λ ls. concat (to_end ls)) h.lines ∙ ap concat (to_end-at h.before h.last h.others one (end-to_test h.last h.ended))

-- what a front spells, the lines up to the first `end` spell
pub front-spells : (text front : List ℕ) (s : Script) (n : ℕ) → front ≡ concat (to_end (lines_of text)) → SpellsFront text s n
    → SpellsScript front s
front-spells text front s n e h =
    let P : List ℕ → Type 0 = λ bytes. SpellsScript bytes s in
    subst P (front-bytes text h.before h.last h.others n h.lines h.size ∙ sym (front-is text s n h) ∙ sym e) h.spelled

-- where the lines up to the first `end` spell a script, so does the front
pub front-spelled : (text front : List ℕ) (s : Script) → front ≡ concat (to_end (lines_of text)) → SpellsScript front s
    → SpellsFront text s (length front)
front-spelled text front s e spelled =
    let P : List ℕ → Type 0 = λ bytes. SpellsScript bytes s in
    let begins = to_end-begins (lines_of text) in
    let lines = lines-of_front text (to_end (lines_of text)) begins.0 begins.1 in
    let at = split (lines_of text) (one-end front s (to_end (lines_of text)) spelled (ap lines_of e ∙ lines.0) lines.1) in
    let bytes : front ≡ concat (at.before ++ at.last ∷ []) = e ∙ ap concat at.front in
    let taken = front-bytes text at.before at.last at.others (length front) at.lines_are (ap length bytes) in
    record {
      before = at.before;
      last = at.last;
      others = at.others;
      lines = at.lines_are;
      ended = end-from_test at.last (all-at IsLine at.before at.last [] (subst (AllByRecursion IsLine) at.front lines.1)) at.ended;
      size = ap length bytes;
      spelled = subst P (bytes ∙ sym taken) spelled;
    }

-- one front of a text spells one script
pub one_front : FrontsSpellOneScript
one_front text s t n m f g =
    let front = concat (to_end (lines_of text)) in (
      one_script front s t (front-spells text front s n refl f) (front-spells text front t m refl g),
      f.size ∙ ap length (sym (front-is text s n f) ∙ front-is text t m g) ∙ sym g.size,
    )
