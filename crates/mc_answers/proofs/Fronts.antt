-- The front of a text lies in the text.
use Rattle.std.proofs.Common.{arith, ap, sym, append_assoc, length-append, ◌≡◌, ◌∙◌, ℕ, ◌≤◌, List, [], ◌∷◌, ◌++◌, length}
use Rattle.std.proofs.lemmas.List.Folds.{concat-append}
use Rattle.std.specs.List.{concat}
use Rattle.bstr.proofs.lemmas.RestLemmas.{concat-lines_of}
use Rattle.mc_code.specs.Code.{Code}
use Rattle.mc_script_text.specs.FrontText.{SpellsFront}
use Rattle.mc_script.specs.Script.{Script}
use Rattle.mc_answers.specs.DriveAnswers.{BeginsWith}

front_fits : (text : List ℕ) (s : Script) (n : ℕ) → SpellsFront text s n → n ≤ length text
front_fits text s n spells =
    let front = spells.before ++ spells.last ∷ [] in
    let all : concat front ++ concat spells.others ≡ text =
    sym (concat-append front spells.others) ∙ (ap concat (append_assoc spells.before (spells.last ∷ []) spells.others)
    ∙ (sym (ap concat spells.lines) ∙ concat-lines_of text)) in
    let lengths : length (concat front ++ concat spells.others) ≡ length text = ap length all in
    omega (arith, spells.size, lengths, length-append (concat front) (concat spells.others))

pub begins_inside : (text : List ℕ) (code : Code) (size : ℕ) → BeginsWith text code size → size ≤ length text
begins_inside text code size begins =
    let front = begins.code_of_front in
    front_fits text front.0 size front.1
