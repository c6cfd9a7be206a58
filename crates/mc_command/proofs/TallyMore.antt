-- What jobs came to, with some more.
use Rattle.std.proofs.Common.{◌≡◌, ◌∙◌, ◌+◌, ◌-◌, ◌<◌, ◌≤◌, ◌++◌, ◌∷◌, ◌&&◌, ◌||◌, ◌^◌, [], min, ℕ, zero, suc, ap, ap₂, arith, inl, inr, length}
use Rattle.std.proofs.Common.{Bool, List, Option, Some, None, append_assoc, cond, false, refl, subst, sym, true}
use Rattle.std.proofs.lemmas.List.Sums.{count_by-le-length, sum_by-append, sum_by-cons}
use Rattle.std.proofs.{lemmas.List.length-append, lemmas.List.Folds.find-append, lemmas.List.Folds.list_all-append, lemmas.List.Folds.list_any-append}
use Rattle.mc_campaign.specs.Runs.{IsOver}
use Rattle.std.specs.Prelude.{is_some, option_map, if◌then◌else◌}
use Rattle.std.specs.Option.{option_or}
use Rattle.mc_campaign.specs.ReportStatus.{accuses, are_clean, is_clean, one_accuses}
use Rattle.mc_campaign.specs.declared.outcome.JobResult.{JobResult}
use Rattle.mc_campaign.specs.ReportStatus as report
use Rattle.mc_command.proofs.Shown.{none_shown, shown_later, shown_no_more, shown_one}
use Rattle.mc_command.specs.CampaignAnswers.{AreShown, MOST_SHOWN, ShowsAtMost, ShowsJobs, first_unexplained, is_unexplained, shown_jobs, text_of_report}
use Rattle.mc_campaign.proofs.ShownReport.{printed_is, report_of_none}
use Rattle.mc_campaign.specs.{ReportLines.IsReportOf, ReportLines.printed, ReportText.text_by, declared.report_lines.ReportLines.ReportLines}
use Rattle.mc_command.specs.declared.gathered.Gathered.{Gathered}
use Rattle.mc_command.specs.{CampaignReports.EndsRightly, CampaignReports.unexplained_of, declared.tally.Tally.Tally}
use Rattle.mc_command.specs.Tallies.{Becomes, Gathers, IsNone, IsTally}
use Rattle.mc_answers.specs.{Statuses.joined, Statuses.status_number, declared.status.Status.Status}
use Rattle.mc_answers.specs.declared.status.Status.TheVariants as status
use Rattle.mc_cli.specs.declared.args.Until.{Until}

-- ---- the status

-- the status where a job accuses or none does, and where all are clean or not
abbrev status_by : Bool → Bool → Status
status_by true clean = status.Unexplained
status_by false true = status.Success
status_by false false = status.NoAnswer

of_number : (one : Status) (accuses clean : Bool) → status_number one ≡ report.status_by accuses clean → one ≡ status_by accuses clean
of_number status.Success true clean is = absurd (omega (arith, is))
of_number status.Success false true is = refl
of_number status.Success false false is = absurd (omega (arith, is))
of_number status.Unexplained true clean is = refl
of_number status.Unexplained false true is = absurd (omega (arith, is))
of_number status.Unexplained false false is = absurd (omega (arith, is))
of_number status.WrongLine true clean is = absurd (omega (arith, is))
of_number status.WrongLine false true is = absurd (omega (arith, is))
of_number status.WrongLine false false is = absurd (omega (arith, is))
of_number status.Refused true clean is = absurd (omega (arith, is))
of_number status.Refused false true is = absurd (omega (arith, is))
of_number status.Refused false false is = absurd (omega (arith, is))
of_number status.NoAnswer true clean is = absurd (omega (arith, is))
of_number status.NoAnswer false true is = absurd (omega (arith, is))
of_number status.NoAnswer false false is = refl

joined_by : (a c b d : Bool) → status_number (joined (status_by a c) (status_by b d)) ≡ report.status_by (a || b) (c && d)
joined_by true c b d = refl
joined_by false true true d = refl
joined_by false true false true = refl
joined_by false true false false = refl
joined_by false false true d = refl
joined_by false false false true = refl
joined_by false false false false = refl

one_status : (accuses clean : Bool) → report.status_by (accuses || false) (clean && true) ≡ report.status_by accuses clean
one_status true true = refl
one_status true false = refl
one_status false true = refl
one_status false false = refl

one_at_most : (b : Bool) → cond b 1 0 ≤ 1
one_at_most true = omega arith
one_at_most false = omega arith

pub status_joined : {S : Type 0} (one other : Status) (results block : List (JobResult S))
    → status_number one ≡ report.status_of results → status_number other ≡ report.status_of block
    → status_number (joined one other) ≡ report.status_of (results ++ block)
status_joined one other results block is also =
    ap₂ (λ a b. status_number (joined a b)) (of_number one (one_accuses results) (are_clean results) is)
    (of_number other (one_accuses block) (are_clean block) also)
    ∙ (joined_by (one_accuses results) (are_clean results) (one_accuses block) (are_clean block)
    ∙ ap₂ report.status_by (sym (list_any-append (λ r. accuses r.outcome) results block))
    (sym (list_all-append (λ r. is_clean r.outcome) results block)))

-- ---- the first one, and how many

map_or : {A B : Type 0} (f : A → B) (one other : Option A) → option_map f (option_or one other) ≡ option_or (option_map f one) (option_map f other)
map_or f None other = refl
map_or f (Some x) other = refl

pub first_joined : {S : Type 0} (results block : List (JobResult S))
    → first_unexplained (results ++ block) ≡ option_or (first_unexplained results) (first_unexplained block)
first_joined results block = ap (option_map (λ r. r.job)) (find-append is_unexplained results block) ∙ map_or (λ r. r.job) _ _

pub unexplained_joined : {S : Type 0} (results block : List (JobResult S))
    → unexplained_of (results ++ block) ≡ unexplained_of results + unexplained_of block
unexplained_joined results block = sum_by-append (λ r. cond (is_unexplained r) 1 0) results block

unexplained_first : {S : Type 0} (r : JobResult S) (rest : List (JobResult S)) (found : Bool) → is_unexplained r ≡ found
    → unexplained_of (r ∷ rest) ≡ cond found 1 0 + unexplained_of rest
unexplained_first r rest found is = sum_by-cons (λ r. cond (is_unexplained r) 1 0) r rest ∙ ap (λ b. cond b 1 0 + unexplained_of rest) is

few_unexplained : {S : Type 0} (results : List (JobResult S)) → unexplained_of results ≤ length results
few_unexplained results = count_by-le-length is_unexplained results

one_first : {S : Type 0} (r : JobResult S) (found : Bool) → is_unexplained r ≡ found
    → first_unexplained (r ∷ []) ≡ (if found then Some r.job else None)
one_first r true is = ap (λ b. option_map (λ x. x.job) (if b then Some r else None)) is
one_first r false is = ap (λ b. option_map (λ x. x.job) (if b then Some r else None)) is

-- one job more
pub tally_more : {S : Type 0} (results : List (JobResult S)) (r : JobResult S) (one after : Tally) (other : Status) → IsTally results one
    → length results + 1 < 2 ^ 64 → after.jobs ≡ min (one.jobs + 1) (2 ^ 64 - 1)
    → after.unexplained ≡ min (one.unexplained + cond (is_unexplained r) 1 0) (2 ^ 64 - 1)
    → after.first ≡ option_or one.first (if is_unexplained r then Some r.job else None) → after.status ≡ joined one.status other
    → status_number other ≡ report.status_by (accuses r.outcome) (is_clean r.outcome) → IsTally (results ++ r ∷ []) after
tally_more results r one after other is few jobs unexplained first status number = record {
  jobs = let all = length-append results (r ∷ []) in omega (arith, jobs, is.jobs, few, all);
  unexplained =
      let those = few_unexplained results in
      let this = unexplained_first r [] (is_unexplained r) refl in
      let all = unexplained_joined results (r ∷ []) in
      let most = one_at_most (is_unexplained r) in
      omega (arith, unexplained, is.unexplained, few, those, this, all, most);
  first = first ∙ (ap₂ option_or is.first (sym (one_first r (is_unexplained r) refl)) ∙ sym (first_joined results (r ∷ [])));
  status = ap status_number status
      ∙ status_joined one.status other results (r ∷ []) is.status (number ∙ sym (one_status (accuses r.outcome) (is_clean r.outcome)));
}

-- ---- what is shown

shown_with : {S : Type 0} (left : ℕ) (r : JobResult S) (rest block : List (JobResult S)) (found : Bool) → is_unexplained r ≡ found
    → ((fewer : ℕ) → shown_jobs fewer (rest ++ block) ≡ shown_jobs fewer rest ++ shown_jobs (fewer - unexplained_of rest) block)
    → shown_jobs left (r ∷ (rest ++ block)) ≡ shown_jobs left (r ∷ rest) ++ shown_jobs (left - unexplained_of (r ∷ rest)) block
shown_with left r rest block false is those =
    let same : left - unexplained_of rest ≡ left - unexplained_of (r ∷ rest) = omega (arith, unexplained_first r rest false is) in
    shown_later left r (rest ++ block) is
    ∙ (those left ∙ ap₂ (λ a n. a ++ shown_jobs n block) (sym (shown_later left r rest is)) same)
shown_with zero r rest block true is those =
    let same : zero - unexplained_of rest ≡ zero - unexplained_of (r ∷ rest) = omega (arith, unexplained_first r rest true is) in
    let none : zero ≤ 0 = omega arith in
    shown_no_more zero r (rest ++ block) none
    ∙ (those zero ∙ ap₂ (λ a n. a ++ shown_jobs n block) (sym (shown_no_more zero r rest none)) same)
shown_with (suc left) r rest block true is those =
    let same : (suc left - 1) - unexplained_of rest ≡ suc left - unexplained_of (r ∷ rest) = omega (arith, unexplained_first r rest true is) in
    let some : 0 < suc left = omega arith in
    shown_one (suc left) r (rest ++ block) some is
    ∙ (ap (λ l. r ∷ l) (those (suc left - 1))
    ∙ ap₂ (λ a n. a ++ shown_jobs n block) (sym (shown_one (suc left) r rest some is)) same)

-- of two lists of jobs one after the other, fewer of the second are shown
shown_joined : {S : Type 0} (results block : List (JobResult S)) (left : ℕ)
    → shown_jobs left (results ++ block) ≡ shown_jobs left results ++ shown_jobs (left - unexplained_of results) block
shown_joined {S} [] block left =
    let all : left ≡ left - 0 = omega arith in
    ap (λ n. shown_jobs n block) all ∙ ap (λ l. l ++ shown_jobs (left - 0) block) (sym (none_shown {S = S} left))
shown_joined (r ∷ rest) block left = shown_with left r rest block (is_unexplained r) refl (λ fewer. shown_joined rest block fewer)

texts_joined : {S : Type 0} (why : Bool) (one other : List (JobResult S)) (text more : List ℕ) → AreShown why one text
    → AreShown why other more → AreShown why (one ++ other) (text ++ more)
texts_joined why [] other text more none shown = rw none shown
texts_joined why (r ∷ rest) other text more (first, others, is, those, whole) shown = (
  first,
  others ++ more,
  is,
  texts_joined why rest other others more those shown,
  ap (λ t. t ++ more) whole ∙ append_assoc first others more,
)

pub shown_more : {S : Type 0} (show why : Bool) (results block : List (JobResult S)) (shown more : List ℕ)
    → ShowsJobs show why results shown → ShowsAtMost (MOST_SHOWN - unexplained_of results) show why block more
    → ShowsJobs show why (results ++ block) (shown ++ more)
shown_more true why results block shown more is also =
    subst (λ l. AreShown why l (shown ++ more)) (sym (shown_joined results block MOST_SHOWN)) (texts_joined why _ _ shown more is also)
shown_more false why results block shown more is also = rw (is, also) refl

pub none_gathered : {S : Type 0} (show why : Bool) (gathered : Gathered) → IsNone gathered → Gathers {S = S} show why [] [] gathered
none_gathered {S} show why gathered none = record {
  tally = record {
    jobs = none.jobs;
    unexplained = none.unexplained;
    first = none.first;
    status = ap status_number none.status;
  };
  shown = none_is_shown show;
  report = report_of_none gathered.report none.report;
}
  where
    none_is_shown : (show : Bool) → ShowsJobs {S = S} show why [] gathered.shown.items
    none_is_shown true = none.shown
    none_is_shown false = none.shown

pub gathers_more : {S : Type 0} (show why : Bool) (all last : List (JobResult S)) (r : JobResult S) (one after : Gathered) (more : List ℕ)
    → Gathers show why all last one → IsTally (all ++ r ∷ []) after.tally → IsReportOf (last ++ r ∷ []) after.report
    → after.shown.items ≡ one.shown.items ++ more → ShowsAtMost (MOST_SHOWN - one.tally.unexplained) show why (r ∷ []) more
    → Gathers show why (all ++ r ∷ []) (last ++ r ∷ []) after
gathers_more show why all last r one after more is tally report shown text = record {
  tally = tally;
  shown = subst (ShowsJobs show why (all ++ r ∷ [])) (sym shown) (shown_more show why all (r ∷ []) one.shown.items more is.shown
      (subst (λ n. ShowsAtMost (MOST_SHOWN - n) show why (r ∷ []) more) is.tally.unexplained text));
  report = report;
}

-- ---- keepers

-- what is gathered as one line asks for it is gathered as another one does that asks for the same
pub gathers_as : {S : Type 0} (show shows why whys : Bool) (all last : List (JobResult S)) (gathered : Gathered) → show ≡ shows → why ≡ whys
    → Gathers show why all last gathered → Gathers shows whys all last gathered
gathers_as show shows why whys all last gathered same also is =
    subst (λ b. Gathers b whys all last gathered) same (subst (λ b. Gathers show b all last gathered) also is)

pub becomes_more : {S : Type 0} (first old new : Gathered) (before : List (JobResult S)) (r : JobResult S) → Becomes first before old
    → new.report.brief ≡ old.report.brief → new.show ≡ old.show → new.how ≡ old.how
    → ((all last : List (JobResult S)) → Gathers old.show old.how.why all last old → length all + 1 < 2 ^ 64 → length last + 1 < 2 ^ 64
    → Gathers old.show old.how.why (all ++ r ∷ []) (last ++ r ∷ []) new)
    → Becomes first (before ++ r ∷ []) new
becomes_more first old new before r is brief show how more = record {
  brief = brief ∙ is.brief;
  show = show ∙ is.show;
  how = how ∙ is.how;
  gathers = λ all last gathers fewer few.
      let count = length-append before (r ∷ []) in
      let whole = length-append all before in
      let part = length-append last before in
      let earlier : length all + length before < 2 ^ 64 = omega (arith, few, count) in
      let all_fit : length (all ++ before) + 1 < 2 ^ 64 = omega (arith, few, count, whole) in
      let last_fit : length (last ++ before) + 1 < 2 ^ 64 = omega (arith, few, count, part, fewer) in
      let whys = ap (λ h. h.why) is.how in
      let one = gathers_as first.show old.show first.how.why old.how.why _ _ old (sym is.show) (sym whys)
      (is.gathers all last gathers fewer earlier) in
      let both = gathers_as old.show first.show old.how.why first.how.why _ _ new is.show whys
      (more (all ++ before) (last ++ before) one all_fit last_fit) in
      rw (← append_assoc all before (r ∷ []), ← append_assoc last before (r ∷ [])) both;
}

-- ---- the end

pub ends_by : {S : Type 0} (until : Until) (jobs : ℕ) (results : List (JobResult S)) (tally : Tally) → IsTally results tally
    → length results ≤ jobs
    → IsOver (record { unexplained = until.unexplained; has_time = is_some until.time }) jobs tally.jobs tally.unexplained
    → EndsRightly until jobs results
ends_by until jobs results tally is few (inl all) = inl (omega (arith, is.jobs, few, all))
ends_by until jobs results tally is few (inr (inl (most, bound, reached))) = inr (inl (most, bound, (rw is.unexplained at reached)))
ends_by until jobs results tally is few (inr (inr (some, timed))) = inr (inr ((rw is.jobs at some), timed))

-- what is printed of the last ones is the text of their report
pub report_is : {S : Type 0} (brief : Bool) (results : List (JobResult S)) (lines : ReportLines) → lines.brief ≡ brief
    → IsReportOf results lines → printed lines ≡ text_of_report brief results
report_is brief results lines same is =
    printed_is results lines is ∙ (ap (λ b. text_by b results) same ∙ by_brief brief)
  where
    by_brief : (b : Bool) → text_by b results ≡ text_of_report b results
    by_brief true = refl
    by_brief false = refl
