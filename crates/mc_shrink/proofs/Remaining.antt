-- What is left of notes, note by note.
use Rattle.std.proofs.Common.{◌≡◌, ◌+◌, ◌<◌, ℕ, suc, Bool, true, false, None, cond, not, eqb, get_or, length, drop}
use Rattle.std.proofs.Common.{List, [], ◌∷◌, ◌++◌, append-nil, append_assoc, refl, ap, subst, sym, ◌∙◌}
use Rattle.std.proofs.{lemmas.Bool.and_parts, lemmas.List.drop_more}
use Rattle.mc_linearize.specs.Verdicts.{IsUnexplained}
use Rattle.mc_model.specs.declared.note.Note.TheVariants as note
use Rattle.mc_timeline.specs.Rules as rule
use Rattle.mc_timeline.specs.Timelines.{ClientNote, Waiting, with_waiting, are_in_order}
use Rattle.mc_timeline.proofs.TimelineOrder.{are_ordered}
use Rattle.mc_shrink.specs.{Parts.IsPartOf, Parts.note_stays, Parts.part_after, Parts.staying_after, Parts.stays_by, Going.IsLeft}
use Rattle.mc_shrink.proofs.Telling.{may_all_go, first_stays}

-- ---- where all requests stay

all_stay : (asks waits : Waiting) (stays : ℕ → Bool) → ((place : ℕ) → stays place ≡ true) → (place : ℕ) (notes : List ClientNote)
    → ((client : ℕ) → asks client ≡ true → waits client ≡ true) → are_in_order asks notes ≡ true → part_after waits stays place notes ≡ notes
all_stay asks waits stays all place [] wait ordered = refl
all_stay asks waits stays all place ((who, note.Begin request) ∷ notes) wait ordered =
    let parts = and_parts (not (asks who)) (are_in_order (with_waiting asks who true) notes) ordered in
    let rest = all_stay (with_waiting asks who true) (with_waiting waits who (stays place)) stays all (suc place) notes (wait_still) parts.1 in
    ap (λ b. cond b ((who, note.Begin request) ∷ part_after (with_waiting waits who (stays place)) stays (suc place) notes)
    (part_after (with_waiting waits who (stays place)) stays (suc place) notes)) (all place)
    ∙ ap (λ l. (who, note.Begin request) ∷ l) rest
  where
    wait_still : (client : ℕ) → with_waiting asks who true client ≡ true → with_waiting waits who (stays place) client ≡ true
    wait_still client = by (eqb client who)
      where
        by : (b : Bool) → cond b true (asks client) ≡ true → cond b (stays place) (waits client) ≡ true
        by true e = all place
        by false e = wait client e
all_stay asks waits stays all place ((who, note.Reply reply) ∷ notes) wait ordered =
    let parts = and_parts (asks who) (are_in_order (with_waiting asks who false) notes) ordered in
    let rest = all_stay (with_waiting asks who false) waits stays all (suc place) notes (wait_still) parts.1 in
    ap (λ b. cond b ((who, note.Reply reply) ∷ part_after waits stays (suc place) notes) (part_after waits stays (suc place) notes))
    (wait who parts.0)
    ∙ ap (λ l. (who, note.Reply reply) ∷ l) rest
  where
    wait_still : (client : ℕ) → with_waiting asks who false client ≡ true → waits client ≡ true
    wait_still client = by (eqb client who)
      where
        by : (b : Bool) → cond b false (asks client) ≡ true → waits client ≡ true
        by true e = absurd (cc)
        by false e = wait client e

-- ---- what is left

pub nothing_left_out : (notes part : List ClientNote) → rule.IsTimeline notes → part ≡ notes → IsLeft notes [] part
nothing_left_out notes part timeline same = record {
  tells = λ place e. absurd (cc);
  is = same ∙ sym (all_stay (λ client. false) (λ client. false) (stays_by []) (λ place. refl) 0 notes (λ client e. absurd (cc)) (are_ordered notes timeline));
  unexplained = λ never. subst IsUnexplained (sym same) never;
}

pub is_part : (notes : List ClientNote) (goes : List Bool) (part : List ClientNote) → IsLeft notes goes part → IsPartOf notes part
is_part notes goes part left = record {
  stays = stays_by goes;
  first = first_stays notes goes left.tells;
  may_go = may_all_go notes goes left.tells;
  is = left.is;
}

-- ---- a note that breaks a rule

pub keeps_there : (earlier front : List ClientNote) (next : ClientNote) (back : List ClientNote) → rule.KeepRules earlier (front ++ next ∷ back)
    → rule.fault_of (earlier ++ front) next ≡ None
keeps_there earlier [] next back k = subst (λ l. rule.fault_of l next ≡ None) (sym (append-nil earlier)) k.0
keeps_there earlier (n ∷ front) next back k =
    subst (λ l. rule.fault_of l next ≡ None) (append_assoc earlier (n ∷ []) front) (keeps_there (earlier ++ n ∷ []) front next back k.1)

-- a note of a timeline that stays breaks no rule
pub faultless_there : (built : List ClientNote) (waits : Waiting) (stays : ℕ → Bool) (place : ℕ) (notes all : List ClientNote) (noted : ClientNote)
    (b : Bool) → place < length notes → noted ≡ get_or notes place noted → b ≡ stays place → (c : Bool) → c ≡ note_stays waits b noted → c ≡ true
    → built ++ part_after waits stays place (drop place notes) ≡ all → rule.IsTimeline all → rule.fault_of built noted ≡ None
faultless_there built waits stays place notes all noted b within is stays_is c kept holds whole timeline =
    keeps_there [] built noted others (subst rule.IsTimeline (sym whole ∙ ap (λ l. built ++ l) here) timeline)
  where
    others : List ClientNote
    others = part_after (staying_after waits (stays place) noted) stays (suc place) (drop (place + 1) notes)

    rest : drop place notes ≡ noted ∷ drop (place + 1) notes
    rest = drop_more notes place noted within ∙ ap (λ n. n ∷ drop (place + 1) notes) (sym is)

    stays_here : note_stays waits (stays place) noted ≡ true
    stays_here = ap (λ d. note_stays waits d noted) (sym stays_is) ∙ sym kept ∙ holds

    here : part_after waits stays place (drop place notes) ≡ noted ∷ others
    here = ap (part_after waits stays place) rest ∙ ap (λ d. cond d (noted ∷ others) others) stays_here
