-- The text of a report, one job after the other.
use Rattle.std.proofs.Common.{◌≡◌, ◌∙◌, ◌+◌, ◌-◌, ◌<◌, ◌≤◌, ◌^◌, ◌++◌, ◌∷◌, [], ℕ, Bool, List, Result, Ok, Err, OnOk}
use Rattle.std.proofs.Common.{ap, arith, cond, false, get_or, if◌then◌else◌}
use Rattle.std.proofs.Common.{is_ok, length, min, refl, subst, sym, take, true}
use Rattle.std.proofs.lemmas.List.{append-nil, length-append, take_more}
use Rattle.std.proofs.{lemmas.List.Concat.flat_map-append, lemmas.List.Sums.count_by-le-length, lemmas.List.Sums.sum_by_push}
use Rattle.std.specs.List.{flat_map}
use Rattle.mc_campaign.specs.ReportLines.{IsEmpty, IsReportOf, printed}
use Rattle.mc_campaign.specs.ReportText.{brief_report_text, count_of, is_same_standing, line_by, report_text, standing_of, text_by}
use Rattle.mc_campaign.specs.{Reports.Reported, declared.outcome.JobResult.JobResult, declared.report_lines.ReportLines.ReportLines}
use Rattle.mc_campaign.specs.declared.standing.Standing.{Standing}
use Rattle.mc_campaign.specs.declared.standing.Standing.TheVariants as standing

-- what was written of these results is the text of the report that has them
pub text_whole : {S : Type 0} {a b : Reported S} (text : List ℕ) (results : List (JobResult S)) → text ≡ text_by false results
    → results ≡ a.results → a ≡ b → text ≡ report_text b.results
text_whole {S} text results is those same =
    subst (λ (r : Reported S). text ≡ report_text r.results) same (subst (λ (rs : List (JobResult S)). text ≡ report_text rs) those is)

pub brief_text_whole : {S : Type 0} {a b : Reported S} (text : List ℕ) (results : List (JobResult S)) → text ≡ text_by true results
    → results ≡ a.results → a ≡ b → text ≡ brief_report_text b.results
brief_text_whole {S} text results is those same =
    subst (λ (r : Reported S). text ≡ brief_report_text r.results) same
    (subst (λ (rs : List (JobResult S)). text ≡ brief_report_text rs) those is)

-- a part that is appended where there is memory
pub ok_appended : {T E : Type 0} (r : Result T E) (old new part whole : List ℕ) → new ≡ (if is_ok r then old ++ part else old)
    → part ≡ whole → OnOk r (new ≡ old ++ whole)
ok_appended (Ok x) old new part whole is same = is ∙ ap (λ p. old ++ p) same
ok_appended (Err e) old new part whole is same = tt

one_at_most : (b : Bool) → cond b 1 0 ≤ 1
one_at_most true = omega arith
one_at_most false = omega arith

-- a count with one job more
count_more : {S : Type 0} (wanted : Standing) (results : List (JobResult S)) (r : JobResult S) (old new : ℕ) → old ≡ count_of wanted results
    → length results + 1 < 2 ^ 64 → new ≡ min (old + cond (is_same_standing wanted (standing_of r.outcome)) 1 0) (2 ^ 64 - 1)
    → new ≡ count_of wanted (results ++ r ∷ [])
count_more wanted results r old new is small after =
    let push = sum_by_push (λ (x : JobResult _). cond (is_same_standing wanted (standing_of x.outcome)) 1 0) results r in
    let few = count_by-le-length (λ (x : JobResult _). is_same_standing wanted (standing_of x.outcome)) results in
    let one = one_at_most (is_same_standing wanted (standing_of r.outcome)) in
    omega (arith, is, small, after, push, few, one)

-- one job more
pub report_more : {S : Type 0} (results : List (JobResult S)) (r : JobResult S) (old new : ReportLines) → IsReportOf results old
    → length results + 1 < 2 ^ 64 → new.brief ≡ old.brief → new.text.items ≡ old.text.items ++ line_by old.brief r
    → new.jobs ≡ min (old.jobs + 1) (2 ^ 64 - 1)
    → new.explained ≡ min (old.explained + cond (is_same_standing standing.Explained (standing_of r.outcome)) 1 0) (2 ^ 64 - 1)
    → new.unexplained ≡ min (old.unexplained + cond (is_same_standing standing.Unexplained (standing_of r.outcome)) 1 0) (2 ^ 64 - 1)
    → new.other ≡ min (old.other + cond (is_same_standing standing.Other (standing_of r.outcome)) 1 0) (2 ^ 64 - 1)
    → IsReportOf (results ++ r ∷ []) new
report_more results r old new is small brief text jobs explained unexplained other = record {
  text = text ∙ (ap (λ t. t ++ line_by old.brief r) is.text
      ∙ (ap (λ t. flat_map (line_by old.brief) results ++ t) (sym (append-nil (line_by old.brief r)))
      ∙ (sym (flat_map-append (line_by old.brief) results (r ∷ []))
      ∙ ap (λ b. flat_map (line_by b) (results ++ r ∷ [])) (sym brief))));
  jobs = let all = length-append results (r ∷ []) in omega (arith, jobs, is.jobs, small, all);
  explained = count_more standing.Explained results r old.explained new.explained is.explained small explained;
  unexplained = count_more standing.Unexplained results r old.unexplained new.unexplained is.unexplained small unexplained;
  other = count_more standing.Other results r old.other new.other is.other small other;
}

pub report_of_none : {S : Type 0} (lines : ReportLines) → IsEmpty lines → IsReportOf {S = S} [] lines
report_of_none lines none = record {
  text = none.text;
  jobs = none.jobs;
  explained = none.explained;
  unexplained = none.unexplained;
  other = none.other;
}

-- what is printed is the text of the report
pub printed_is : {S : Type 0} (results : List (JobResult S)) (lines : ReportLines) → IsReportOf results lines
    → printed lines ≡ text_by lines.brief results
printed_is results lines is = rw (is.text, is.jobs, is.explained, is.unexplained, is.other) refl

-- one more of the results is in the report
pub report_next : {S : Type 0} (results : List (JobResult S)) (i : ℕ) (r : JobResult S) (lines : ReportLines) → i < length results
    → r ≡ get_or results i r → IsReportOf (take i results ++ r ∷ []) lines → IsReportOf (take (i + 1) results) lines
report_next results i r lines below here is =
    subst (λ l. IsReportOf l lines) (ap (λ x. take i results ++ x ∷ []) here ∙ sym (take_more results i r below)) is
