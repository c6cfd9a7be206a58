-- The reports of a campaign, one step after the other.
use Rattle.std.proofs.Common.{◌≡◌, ◌⊎◌, ◌∙◌, ◌+◌, ◌-◌, ◌<◌, ◌≤◌, ◌^◌, ◌++◌, ◌∷◌, [], ℕ, ap, arith, append_assoc, inl, inr, length}
use Rattle.std.proofs.Common.{Bool, List, Option, Some, None, false, min, nat_lt, refl, subst, sym, true}
use Rattle.std.proofs.lemmas.Bool.{ltb-false, ltb-true}
use Rattle.std.proofs.lemmas.List.{append-nil, length-append}
use Rattle.std.specs.Prelude.{is_some, option_map}
use Rattle.std.specs.Option.{option_copied}
use Rattle.std.proofs.lemmas.List.Sums.{count_by-le-length}
use Rattle.mc_protocol.specs.Lines.{Word}
use Rattle.mc_campaign.specs.Runs.{Allows, AreAhead, AreRun, IsOver}
use Rattle.mc_campaign.specs.{declared.bounds.Bounds.Bounds, declared.campaign.Campaign.Campaign, declared.outcome.JobResult.JobResult}
use Rattle.mc_command.proofs.ReportJobs.{jobs_more, jobs_written, no_reports, reports_more, reports_written}
use Rattle.mc_command.proofs.{ReportTexts.grows_by_none, ReportTexts.written_more}
use Rattle.mc_command.proofs.TallyMore.{ends_by, gathers_as, unexplained_joined}
use Rattle.mc_command.specs.CampaignReports.{BeginsRightly, EndsRightly, EndsWith, jobs_of, unexplained_of}
use Rattle.mc_command.specs.CampaignAnswers.{AreResults, IsEnd, ShowsJobs, is_unexplained, text_of_report}
use Rattle.mc_command.specs.Tallies.{Becomes, Gathers, HasGathered, HasReported, HasSettings, Waits}
use Rattle.mc_command.specs.declared.gathered.Gathered.{Gathered}
use Rattle.mc_cli.specs.{Args.GREATEST_JOBS, declared.args.Plan.Plan, declared.args.Until.Until}
use Rattle.mc_answers.specs.{Statuses.status_number, Streams.Grows}

-- no job has run
pub none_waits : (S : Type 0) (plan : Plan) (until : Until) (name : Option Word) (gathered : Gathered) (bytes : Option (List ℕ))
    → HasSettings plan gathered → Gathers {S = S} plan.show plan.why [] [] gathered → Waits S plan until name gathered bytes bytes
none_waits S plan until name gathered bytes settings gathers = record {
  whole = [];
  reports = no_reports plan name;
  gathers = gathers;
  settings = settings;
  more = λ some. absurd (omega (arith, some));
  allowed = λ some. absurd (omega (arith, some));
  written = grows_by_none bytes;
}

-- what has gathered no jobs more
pub becomes_none : {S : Type 0} (gathered : Gathered) → Becomes {S = S} gathered [] gathered
becomes_none gathered = record {
  brief = refl;
  show = refl;
  how = refl;
  gathers = λ all last is fewer few. rw (append-nil all, append-nil last) is;
}

-- ---- the jobs of one report more

-- the number that ends a run by itself is what is left of the campaign's
bound_left : (bound : Option ℕ) (before most : ℕ) → option_map (λ m. m - before) bound ≡ Some most
    → (whole : ℕ) × (bound ≡ Some whole) × (whole - before ≡ most)
bound_left None before most is = absurd (cc (is))
bound_left (Some whole) before most is = (whole, refl, cc (is))

begins_first : {S : Type 0} (until : Until) (bound : Option ℕ) (whole : List (List (JobResult S))) (results : List (JobResult S))
    → bound ≡ option_map (λ most. most - unexplained_of (jobs_of whole [])) until.unexplained
    → (0 < length whole → 0 < length results) → (results ≡ []) ⊎ AreAhead bound results
    → (jobs_of whole results ≡ []) ⊎ BeginsRightly until (jobs_of whole results)
begins_first until bound [] results same some (inl none) = inl none
begins_first until bound (w ∷ ws) results same some (inl none) =
    let empty : length results ≡ 0 = ap length none in
    absurd (omega (arith, some (omega arith), empty))
begins_first until bound whole results same some (inr ahead) = inr record {
  earlier = jobs_of whole [] ++ ahead.earlier;
  others = ahead.others;
  parts = jobs_more whole [] results ∙ (ap (λ l. jobs_of whole [] ++ l) ahead.parts
      ∙ sym (append_assoc (jobs_of whole []) ahead.earlier ahead.others));
  some = ahead.some;
  few = ahead.few;
  allowed = λ most is.
      let left = ahead.allowed (most - unexplained_of (jobs_of whole [])) (same ∙ ap (option_map (λ m. m - unexplained_of (jobs_of whole []))) is) in
      let all = unexplained_joined (jobs_of whole []) ahead.earlier in
      omega (arith, left, all);
}

-- it has as many jobs as a report may have, or no other begins
ends_first : {S : Type 0} (until : Until) (bounds : Bounds) (jobs done : ℕ) (whole : List (List (JobResult S))) (results : List (JobResult S))
    → bounds.unexplained ≡ option_map (λ most. most - unexplained_of (jobs_of whole [])) until.unexplained
    → bounds.has_time ≡ is_some until.time → length (jobs_of whole []) ≡ done → done ≤ jobs
    → length results ≤ min GREATEST_JOBS (jobs - done)
    → IsOver bounds (min GREATEST_JOBS (jobs - done)) (length results) (unexplained_of results)
    → (length results ≡ GREATEST_JOBS) ⊎ EndsRightly until jobs (jobs_of whole results)
ends_first until bounds jobs done whole results same timed here few fits (inl all) =
    all_or (nat_lt (jobs - done) GREATEST_JOBS) refl
  where
    long : length (jobs_of whole results) ≡ done + length results
    long = ap length (jobs_more whole [] results) ∙ (length-append (jobs_of whole []) results ∙ ap (λ n. n + length results) here)

    all_or : (b : Bool) → nat_lt (jobs - done) GREATEST_JOBS ≡ b
        → (length results ≡ GREATEST_JOBS) ⊎ EndsRightly until jobs (jobs_of whole results)
    all_or true is =
        let less = ltb-true (jobs - done) GREATEST_JOBS is in
        inr (inl (omega (arith, less, long, few, fits, all)))
    all_or false is =
        let more = ltb-false (jobs - done) GREATEST_JOBS is in
        inl (omega (arith, more, fits, all))
ends_first until bounds jobs done whole results same timed here few fits (inr (inl (most, bound, reached))) =
    let left = bound_left until.unexplained (unexplained_of (jobs_of whole [])) most (sym same ∙ bound) in
    let all = ap unexplained_of (jobs_more whole [] results) ∙ unexplained_joined (jobs_of whole []) results in
    inr (inr (inl (left.0, left.1, omega (arith, left.2, reached, all))))
ends_first until bounds jobs done whole results same timed here few fits (inr (inr (some, time))) =
    let long = ap length (jobs_more whole [] results) ∙ length-append (jobs_of whole []) results in
    inr (inr (inr (omega (arith, some, long), sym timed ∙ time)))

-- if other reports were written, it has some
some_first : {S : Type 0} (until : Until) (bounds : Bounds) (jobs done : ℕ) (whole : List (List (JobResult S))) (results : List (JobResult S))
    → bounds.unexplained ≡ option_map (λ most. most - unexplained_of (jobs_of whole [])) until.unexplained
    → IsOver bounds (min GREATEST_JOBS (jobs - done)) (length results) (unexplained_of results)
    → done < jobs → Allows until.unexplained (unexplained_of (jobs_of whole [])) → 0 < length results
some_first until bounds jobs done whole results same (inl all) more allowed = omega (arith, all, more)
some_first until bounds jobs done whole results same (inr (inl (most, bound, reached))) more allowed =
    let left = bound_left until.unexplained (unexplained_of (jobs_of whole [])) most (sym same ∙ bound) in
    let few = count_by-le-length is_unexplained results in
    let less = allowed left.0 left.1 in
    omega (arith, left.2, reached, few, less)
some_first until bounds jobs done whole results same (inr (inr (some, time))) more allowed = some

pub run_gathered : {S : Type 0} (plan : Plan) (until : Until) (name : Option Word) (one now : Gathered) (old new : Option (List ℕ))
    (results : List (JobResult S)) (campaign : Campaign) (bounds : Bounds) → Waits S plan until name one old new → Becomes one results now
    → AreRun campaign bounds results → campaign.seed ≡ plan.seed → campaign.first ≡ plan.first + one.tally.jobs
    → campaign.jobs ≡ min GREATEST_JOBS (plan.jobs - one.tally.jobs) → option_copied campaign.name ≡ name
    → bounds.unexplained ≡ option_map (λ most. most - one.tally.unexplained) until.unexplained → bounds.has_time ≡ is_some until.time
    → one.tally.jobs ≤ plan.jobs → plan.jobs < 2 ^ 64 → HasGathered S plan until name now old new
run_gathered {S} plan until name one now old new results campaign bounds waits becomes run seed first jobs named bound timed left small =
    let whole = waits.whole in
    let done = waits.gathers.tally.jobs in
    let same = bound ∙ ap (λ n. option_map (λ most. most - n) until.unexplained) waits.gathers.tally.unexplained in
    let over = rw jobs at run.ends in
    let few : length results ≤ min GREATEST_JOBS (plan.jobs - one.tally.jobs) = rw jobs at run.jobs in
    let some : 0 < length whole → 0 < length results = λ is.
    some_first until bounds plan.jobs one.tally.jobs whole results same over (waits.more is)
    (λ most here. rw waits.gathers.tally.unexplained at (waits.allowed is most here)) in
    let these : AreResults plan.seed name (plan.first + length (jobs_of whole [])) (length results) results = record {
      jobs_in_order = rw (first, done) at run.numbers;
      outcomes = rw (seed, named) at run.outcomes;
      short = rw (named, first, done) at run.short;
    } in
    let all_fit : length (jobs_of whole []) + length results ≤ plan.jobs = omega (arith, few, left, done) in
    let fits : 0 + length results ≤ GREATEST_JOBS = omega (arith, few) in
    let small_enough : length (jobs_of whole []) + length results < 2 ^ 64 = omega (arith, all_fit, small) in
    let show = waits.settings.show in
    let why = waits.settings.why in
    let earlier = gathers_as plan.show one.show plan.why one.how.why (jobs_of whole []) [] one (sym show) (sym why) waits.gathers in
    let none : length {A = JobResult S} [] ≤ length (jobs_of whole []) = omega arith in
    let gathers = becomes.gathers (jobs_of whole []) [] earlier none small_enough in
    record {
      whole = whole;
      last = results;
      reports = reports_more plan name whole [] results (length results) waits.reports these all_fit fits;
      gathers = rw (jobs_more whole [] results)
          (gathers_as one.show plan.show one.how.why plan.why (jobs_of whole [] ++ results) results now show why gathers);
      settings = record {
        brief = becomes.brief ∙ waits.settings.brief;
        show = becomes.show ∙ show;
        why = ap (λ how. how.why) becomes.how ∙ why;
      };
      begins = begins_first until bounds.unexplained whole results same some run.begins;
      ends = ends_first until bounds plan.jobs one.tally.jobs whole results same timed (sym done) left few over;
      some = some;
      more = λ is. rw done at (waits.more is);
      written = waits.written;
    }

-- ---- a report that is written

pub report_written : {S : Type 0} (plan : Plan) (until : Until) (name : Option Word) (one now : Gathered) (old between new : Option (List ℕ))
    (has : HasGathered S plan until name one old between) → GREATEST_JOBS ≤ one.report.jobs → one.tally.jobs < plan.jobs
    → Allows until.unexplained one.tally.unexplained → HasSettings plan now
    → Gathers plan.show plan.why (jobs_of has.whole has.last) [] now
    → Grows between new (text_of_report plan.brief has.last) → Waits S plan until name now old new
report_written plan until name one now old between new has many left allowed settings gathers grows =
    let long : length has.last ≡ GREATEST_JOBS = omega (arith, many, has.gathers.report.jobs, has.reports.fits) in
    let same = jobs_written has.whole has.last in
    let jobs = gathers.tally.jobs ∙ sym has.gathers.tally.jobs in
    let unexplained = gathers.tally.unexplained ∙ sym has.gathers.tally.unexplained in
    record {
      whole = has.whole ++ has.last ∷ [];
      reports = reports_written plan name has.whole has.last has.reports long;
      gathers = rw same gathers;
      settings = settings;
      more = λ some. rw jobs left;
      allowed = λ some most here. rw unexplained (allowed most here);
      written = written_more plan.brief has.whole has.last old between new has.written grows;
    }

-- ---- the end

-- no other report follows
pub over_rightly : {S : Type 0} (plan : Plan) (until : Until) (name : Option Word) (gathered : Gathered) (old new : Option (List ℕ))
    (has : HasGathered S plan until name gathered old new)
    → (gathered.report.jobs < GREATEST_JOBS)
    ⊎ IsOver (record { unexplained = until.unexplained; has_time = is_some until.time }) plan.jobs gathered.tally.jobs gathered.tally.unexplained
    → EndsRightly until plan.jobs (jobs_of has.whole has.last)
over_rightly plan until name gathered old new has (inl part) = not_whole has.ends
  where
    not_whole : (length has.last ≡ GREATEST_JOBS) ⊎ EndsRightly until plan.jobs (jobs_of has.whole has.last)
        → EndsRightly until plan.jobs (jobs_of has.whole has.last)
    not_whole (inl long) = absurd (omega (arith, long, part, has.gathers.report.jobs))
    not_whole (inr ends) = ends
over_rightly plan until name gathered old new has (inr over) =
    ends_by until plan.jobs (jobs_of has.whole has.last) gathered.tally has.gathers.tally has.reports.jobs over

-- the last one is taken, and what is kept of all jobs stays
pub ends_with : {S : Type 0} (plan : Plan) (until : Until) (name : Option Word) (gathered after : Gathered) (old new : Option (List ℕ))
    (end rest : List ℕ) (has : HasGathered S plan until name gathered old new) → EndsRightly until plan.jobs (jobs_of has.whole has.last)
    → after.tally ≡ gathered.tally → after.shown.items ≡ gathered.shown.items → IsEnd plan.seed after.tally.first end
    → rest ≡ text_of_report plan.brief has.last ++ (end ++ after.shown.items)
    → EndsWith plan until has.whole has.last rest after.tally.status
ends_with plan until name gathered after old new end rest has over same shown is_end text = record {
  begins = has.begins;
  ends = over;
  some = has.some;
  end = end;
  is_end = subst (λ n. IsEnd plan.seed n end) (ap (λ t. t.first) same ∙ has.gathers.tally.first) is_end;
  shown = after.shown.items;
  is_shown = subst (ShowsJobs plan.show plan.why (jobs_of has.whole has.last)) (sym shown) has.gathers.shown;
  text = text;
  status = ap (λ t. status_number t.status) same ∙ has.gathers.tally.status;
}

-- nothing more is known than which reports there are
pub reported_by : {S : Type 0} (plan : Plan) (until : Until) (name : Option Word) (gathered : Gathered) (old new : Option (List ℕ))
    → HasGathered S plan until name gathered old new → HasReported S plan name old new
reported_by plan until name gathered old new has = record {
  whole = has.whole;
  last = has.last;
  reports = has.reports;
  more = has.more;
  written = has.written;
}

pub waits_reported : {S : Type 0} (plan : Plan) (until : Until) (name : Option Word) (gathered : Gathered) (old new : Option (List ℕ))
    → Waits S plan until name gathered old new → HasReported S plan name old new
waits_reported plan until name gathered old new waits = record {
  whole = waits.whole;
  last = [];
  reports = waits.reports;
  more = λ is. rw waits.gathers.tally.jobs at (waits.more is);
  written = waits.written;
}
