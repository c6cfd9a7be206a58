-- The texts of lines and of marks, in parts.
use Rattle.std.proofs.Common.{◌≡◌, ℕ, List, [], ◌∷◌, ◌++◌, codes, ap, ◌∙◌, append_assoc}
use Rattle.std.proofs.lemmas.Grind.{flat_map-append}
use Rattle.mc_protocol.specs.declared.actor.Actor.TheVariants as actor
use Rattle.mc_protocol.specs.Lines.{Words}
use Rattle.mc_script.specs.{declared.section.Budget.Budget, declared.version.Version.Version, Script.Names, Script.Section, Script.Script, Script.version_of}
use Rattle.mc_script_text.specs.ScriptText.{header, names_lines, section_line, end_line}
use Rattle.mc_script_text.specs.PrintedScript.{line_text, lines_text, section_lines, budget_line, script_text}

-- ---- the whole text

-- lines in groups, one after the other
groups-joined : (names p a b : List Words) (first x y z sp sa sb last : Words)
    → ((((((lines_text (first ∷ names) ++ line_text x) ++ line_text y) ++ line_text z) ++ lines_text (sp ∷ p)) ++ lines_text (sa ∷ a))
    ++ lines_text (sb ∷ b)) ++ lines_text (last ∷ [])
    ≡ lines_text (first ∷ (names ++ x ∷ y ∷ z ∷ sp ∷ (p ++ sa ∷ (a ++ sb ∷ (b ++ last ∷ [])))))
groups-joined names p a b first x y z sp sa sb last =
    rw (
      flat_map-append line_text names (x ∷ y ∷ z ∷ sp ∷ (p ++ sa ∷ (a ++ sb ∷ (b ++ last ∷ [])))),
      flat_map-append line_text p (sa ∷ (a ++ sb ∷ (b ++ last ∷ []))),
      flat_map-append line_text a (sb ∷ (b ++ last ∷ [])),
      flat_map-append line_text b (last ∷ []),
    )
    (simp append_assoc)

-- the header and the names, the budgets, the sections, and `end`, one after the other
script_text-parts : (s : Script)
    → ((((((lines_text (header (version_of s) ∷ names_lines s.names) ++ line_text (budget_line actor.P s.sections.p.budget))
    ++ line_text (budget_line actor.A s.sections.a.budget))
    ++ line_text (budget_line actor.B s.sections.b.budget)) ++ lines_text (section_line actor.P ∷ section_lines s.names s.sections.p))
    ++ lines_text (section_line actor.A ∷ section_lines s.names s.sections.a)) ++ lines_text (section_line actor.B ∷ section_lines s.names s.sections.b))
    ++ codes "end\n"
    ≡ script_text s
script_text-parts s =
    groups-joined (names_lines s.names) (section_lines s.names s.sections.p) (section_lines s.names s.sections.a) (section_lines s.names s.sections.b)
    (header (version_of s))
    (budget_line actor.P s.sections.p.budget) (budget_line actor.A s.sections.a.budget) (budget_line actor.B s.sections.b.budget)
    (section_line actor.P) (section_line actor.A) (section_line actor.B) end_line

-- the same, text by text
script_text-from : (s : Script) (t0 t1 t2 t3 t4 t5 t6 t7 t8 : List ℕ) → t0 ≡ [] → t1 ≡ t0 ++ lines_text (header (version_of s) ∷ names_lines s.names)
    → t2 ≡ t1 ++ line_text (budget_line actor.P s.sections.p.budget) → t3 ≡ t2 ++ line_text (budget_line actor.A s.sections.a.budget)
    → t4 ≡ t3 ++ line_text (budget_line actor.B s.sections.b.budget) → t5 ≡ t4 ++ lines_text (section_line actor.P ∷ section_lines s.names s.sections.p)
    → t6 ≡ t5 ++ lines_text (section_line actor.A ∷ section_lines s.names s.sections.a)
    → t7 ≡ t6 ++ lines_text (section_line actor.B ∷ section_lines s.names s.sections.b) → t8 ≡ t7 ++ codes "end\n" → t8 ≡ script_text s
script_text-from s t0 t1 t2 t3 t4 t5 t6 t7 t8 e0 e1 e2 e3 e4 e5 e6 e7 e8 =
    e8 ∙ ap (λ t. t ++ codes "end\n") (e7 ∙ ap (λ t. t ++ lines_text (section_line actor.B ∷ section_lines s.names s.sections.b))
    (e6 ∙ ap (λ t. t ++ lines_text (section_line actor.A ∷ section_lines s.names s.sections.a))
    (e5 ∙ ap (λ t. t ++ lines_text (section_line actor.P ∷ section_lines s.names s.sections.p))
    (e4 ∙ ap (λ t. t ++ line_text (budget_line actor.B s.sections.b.budget)) (e3 ∙ ap (λ t. t ++ line_text (budget_line actor.A s.sections.a.budget))
    (e2 ∙ ap (λ t. t ++ line_text (budget_line actor.P s.sections.p.budget))
    (e1 ∙ ap (λ t. t ++ lines_text (header (version_of s) ∷ names_lines s.names)) e0)))))))
    ∙ script_text-parts s

-- the same, of the script's parts
pub script_text-made : (s : Script) (v : Version) (names : Names) (x y z : Budget) (p a b : Section) (t0 t1 t2 t3 t4 t5 t6 t7 t8 : List ℕ)
    → v ≡ version_of s → names ≡ s.names → x ≡ s.sections.p.budget → y ≡ s.sections.a.budget → z ≡ s.sections.b.budget → p ≡ s.sections.p
    → a ≡ s.sections.a → b ≡ s.sections.b
    → t0 ≡ [] → t1 ≡ t0 ++ lines_text (header v ∷ names_lines names) → t2 ≡ t1 ++ line_text (budget_line actor.P x)
    → t3 ≡ t2 ++ line_text (budget_line actor.A y) → t4 ≡ t3 ++ line_text (budget_line actor.B z)
    → t5 ≡ t4 ++ lines_text (section_line actor.P ∷ section_lines names p) → t6 ≡ t5 ++ lines_text (section_line actor.A ∷ section_lines names a)
    → t7 ≡ t6 ++ lines_text (section_line actor.B ∷ section_lines names b) → t8 ≡ t7 ++ codes "end\n" → t8 ≡ script_text s
script_text-made s v names x y z p a b t0 t1 t2 t3 t4 t5 t6 t7 t8 ev n ex ey ez ep ea eb e0 e1 e2 e3 e4 e5 e6 e7 e8 =
    script_text-from s t0 t1 t2 t3 t4 t5 t6 t7 t8 e0 (e1 ∙ ap (λ w. t0 ++ lines_text (header w ∷ names_lines names)) ev
    ∙ ap (λ ns. t0 ++ lines_text (header (version_of s) ∷ names_lines ns)) n)
    (e2 ∙ ap (λ v. t1 ++ line_text (budget_line actor.P v)) ex) (e3 ∙ ap (λ v. t2 ++ line_text (budget_line actor.A v)) ey)
    (e4 ∙ ap (λ v. t3 ++ line_text (budget_line actor.B v)) ez)
    (e5 ∙ ap (λ ns. t4 ++ lines_text (section_line actor.P ∷ section_lines ns p)) n
    ∙ ap (λ v. t4 ++ lines_text (section_line actor.P ∷ section_lines s.names v)) ep)
    (e6 ∙ ap (λ ns. t5 ++ lines_text (section_line actor.A ∷ section_lines ns a)) n
    ∙ ap (λ v. t5 ++ lines_text (section_line actor.A ∷ section_lines s.names v)) ea)
    (e7 ∙ ap (λ ns. t6 ++ lines_text (section_line actor.B ∷ section_lines ns b)) n
    ∙ ap (λ v. t6 ++ lines_text (section_line actor.B ∷ section_lines s.names v)) eb)
    e8
