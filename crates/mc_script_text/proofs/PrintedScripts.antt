-- The whole text as it is printed: its lines spell the script.
use Rattle.std.proofs.Common.{◌≡◌, ℕ, ◌+◌, true, List, [], ◌∷◌, ◌++◌, length, decimal, refl, arith}
use Rattle.std.proofs.{Common.codes, lemmas.Bool.and_from, lemmas.List.Folds.list_all-append}
use Rattle.std.specs.List.{list_all}
use Rattle.mc_protocol.specs.{Words.actor_word, Names.is_name}
use Rattle.mc_script_text.specs.Values.{KEY_BYTES_LIMIT, Word, Words, NAME_BYTES_LIMIT, Actor}
use Rattle.mc_script_text.specs.Values.{Sections, REQUESTS_LIMIT, REQUEST_BYTES_LIMIT, FLAGS_LIMIT, Version}
use Rattle.mc_script_text.specs.PrintedScript.{section_lines, bodies_of, budget_line, script_lines, script_text, PrintedScriptsAreSpelled}
use Rattle.mc_script_text.specs.ScriptText.{SpellsBudget, header, names_line, names_lines, section_line, end_line, body_lines}
use Rattle.mc_script_text.specs.{SectionText.SpellsSection, PrintedScript.PrintedScriptsAreReadAgain}
use Rattle.mc_protocol.proofs.Decimals.{decimal-spells}
use Rattle.mc_script.specs.Script.{Names, Section, Script, section_of, longest, version_of}
use Rattle.mc_script.specs.WellFormed.{IsSection, IsScript}
use Rattle.mc_script_text.proofs.PrintedLines.{is_whole, are_whole, is_line, are_lines, all-weaker, lines_fall_apart}
use Rattle.mc_script_text.proofs.PrintedSections.{line-from, section-lines, section-spells}
use Rattle.mc_script_text.proofs.{PrintedNames.decimal-whole, PrintedNames.named-whole, PrintedFlags.all-append, PrintedMarks.known, Declared.declared-few}
use Rattle.mc_script_text.proofs.{Declared.least-has-room, WholeScript.one_script, WholeScript.each}
use Rattle.mc_script_text.specs.Values.actor
use Rattle.mc_script_text.specs.Values.version
use Rattle.mc_protocol.specs.Sections as sections

-- ---- the whole text

budget-spells : (a : Actor) (names : Names) (s : Section) → IsSection names s → SpellsBudget a (budget_line a s.budget) s.budget
budget-spells a names s h = (
  decimal s.budget.requests,
  decimal s.budget.bytes,
  refl,
  decimal-spells REQUESTS_LIMIT s.budget.requests (omega arith) h.requests,
  decimal-spells REQUEST_BYTES_LIMIT s.budget.bytes (omega arith) h.bytes,
)

version-whole : (v : Version) → is_line (header v) ≡ true
version-whole version.One = refl
version-whole version.Two = refl

actor-whole : (a : Actor) → is_whole (actor_word a) ≡ true
actor-whole actor.P = refl
actor-whole actor.A = refl
actor-whole actor.B = refl

budget-is-line : (a : Actor) (names : Names) (s : Section) → IsSection names s → is_line (budget_line a s.budget) ≡ true
budget-is-line a names s h =
    let few = h.requests in
    let small = h.bytes in
    rw (actor-whole a, decimal-whole s.budget.requests (omega (arith, few)), decimal-whole s.budget.bytes (omega (arith, small))) refl

names-whole : (limit : ℕ) (names : List Word) → list_all (is_name limit) names ≡ true → are_whole names ≡ true
names-whole limit names h = all-weaker (is_name limit) is_whole (named-whole limit) names h

names-are-lines : (word : Word) (limit : ℕ) (names : List Word) → is_whole word ≡ true → list_all (is_name limit) names ≡ true
    → are_lines (names_line word names) ≡ true
names-are-lines word limit [] w h = refl
names-are-lines word limit (name ∷ names) w h =
    let whole = names-whole limit (name ∷ names) h in
    rw (line-from word (name ∷ names) (and_from (is_whole word) (are_whole (name ∷ names)) w whole)) refl

script-are-lines : (s : Script) → IsScript s → are_lines (script_lines s) ≡ true
script-are-lines s h =
    let k = known s.names h.declared in
    let p = section_lines s.names s.sections.p in
    let a = section_lines s.names s.sections.a in
    let b = section_lines s.names s.sections.b in
    let keys = names_line (codes "keys") s.names.keys in
    let flags = names_line (codes "flags") s.names.flags in
    let after_a = b ++ end_line ∷ [] in
    let after_p = a ++ section_line actor.B ∷ after_a in
    let joins = list_all-append is_line in
    let body : are_lines (body_lines (bodies_of s)) ≡ true =
    rw (
      joins p (section_line actor.A ∷ after_p),
      joins a (section_line actor.B ∷ after_a),
      joins b (end_line ∷ []),
      (section-lines s.names s.sections.p k h.p).1,
      (section-lines s.names s.sections.a k h.a).1,
      (section-lines s.names s.sections.b k h.b).1,
    ) refl in
    let names = all-append is_line (keys ++ flags) (names_line (codes "vars") s.names.vars)
    (all-append is_line keys flags (names-are-lines (codes "keys") KEY_BYTES_LIMIT s.names.keys refl k.key_names)
    (names-are-lines (codes "flags") NAME_BYTES_LIMIT s.names.flags refl k.flag_names))
    (names-are-lines (codes "vars") NAME_BYTES_LIMIT s.names.vars refl k.var_names) in
    let bp = budget_line actor.P s.sections.p.budget in
    let ba = budget_line actor.A s.sections.a.budget in
    let bb = budget_line actor.B s.sections.b.budget in
    let budgets : are_lines (bp ∷ ba ∷ bb ∷ body_lines (bodies_of s)) ≡ true =
    rw (
      budget-is-line actor.P s.names s.sections.p h.p,
      budget-is-line actor.A s.names s.sections.a h.a,
      budget-is-line actor.B s.names s.sections.b h.b,
    ) body in
    rw (version-whole (version_of s)) (all-append is_line (names_lines s.names) (bp ∷ ba ∷ bb ∷ body_lines (bodies_of s)) names budgets)

pub printed_scripts : PrintedScriptsAreSpelled
printed_scripts s h =
    let k = known s.names h.declared in
    let v = version_of s in
    let p = h.p.few in
    let a = h.a.few in
    let b = h.b.few in
    let within = least-has-room (length s.names.flags) (longest s) (declared-few FLAGS_LIMIT NAME_BYTES_LIMIT s.names.flags h.declared.flags)
    (omega (arith, p, a, b)) in
    let long = within.1 in
    let lines : Sections Words = record {
      p = budget_line actor.P s.sections.p.budget;
      a = budget_line actor.A s.sections.a.budget;
      b = budget_line actor.B s.sections.b.budget;
    } in
    record {
      budgets = lines;
      bodies = bodies_of s;
      lines = lines_fall_apart (script_lines s) (script-are-lines s h);
      declared = h.declared;
      few_flags = within.0;
      allowed = each (λ k. SpellsBudget k (sections.section_of lines k) (section_of s k).budget)
          (budget-spells actor.P s.names s.sections.p h.p) (budget-spells actor.A s.names s.sections.a h.a) (budget-spells actor.B s.names s.sections.b h.b);
      spelled = each (λ k. SpellsSection v s.names (sections.section_of (bodies_of s) k) (section_of s k))
          (section-spells v s.names s.sections.p k h.p (omega (arith, long))) (section-spells v s.names s.sections.a k h.a (omega (arith, long)))
          (section-spells v s.names s.sections.b k h.b (omega (arith, long)));
    }

pub read_again : PrintedScriptsAreReadAgain
read_again s t h spelled = one_script (script_text s) t s spelled (version_of s, printed_scripts s h)
