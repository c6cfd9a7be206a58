-- What is written of a campaign, one report after the other.
use Rattle.std.proofs.Common.{◌≡◌, ◌⊎◌, ◌∙◌, ◌<◌, ◌≤◌, ◌++◌, ◌∷◌, [], ℕ, Bool, List, Option, Some, None}
use Rattle.std.proofs.Common.{ap, append_assoc, arith, inl, inr, length, refl, subst, sym}
use Rattle.std.proofs.{lemmas.List.append-nil, lemmas.List.length-append, lemmas.List.Concat.flat_map-append, lemmas.List.Elements.All-head}
use Rattle.std.specs.Prelude.{All, flat_map}
use Rattle.mc_protocol.specs.Lines.{Word}
use Rattle.mc_campaign.specs.declared.outcome.JobResult.{JobResult}
use Rattle.mc_command.proofs.ReportJobs.{no_reports}
use Rattle.mc_command.specs.CampaignReports.{AreReports, BreaksOff, Campaigns, CampaignsUntil, EndsRightly, EndsWith, InReports, jobs_of}
use Rattle.mc_command.specs.{CampaignAnswers.CampaignsOver, CampaignAnswers.not_run_text, CampaignAnswers.text_of_report, Command.WritesReport}
use Rattle.mc_command.specs.{Tallies.HasGathered, Tallies.HasReported, Tallies.HasWritten, declared.gathered.Gathered.Gathered}
use Rattle.mc_answers.specs.{Streams.Grows, Writing.out_of_memory_text, declared.input.InputFault.InputFault, declared.status.Status.Status}
use Rattle.mc_answers.specs.declared.input.InputFault.TheVariants as fault
use Rattle.mc_cli.specs.{Args.GREATEST_JOBS, declared.args.Plan.Plan, declared.args.Until.Until}
use Rattle.mc_answers.specs.declared.status.Status.TheVariants as status

-- known bytes that grow twice
pub grows_more : (old between new : Option (List ℕ)) (one other : List ℕ) → Grows old between one → Grows between new other
    → Grows old new (one ++ other)
grows_more None between new one other first second = tt
grows_more (Some bytes) None new one other first second = absurd first
grows_more (Some bytes) (Some more) None one other first second = absurd second
grows_more (Some bytes) (Some more) (Some all) one other first second = second ∙ (ap (λ t. t ++ other) first ∙ append_assoc bytes one other)

pub grows_by_none : (bytes : Option (List ℕ)) → Grows bytes bytes []
grows_by_none None = tt
grows_by_none (Some bytes) = sym (append-nil bytes)

pub written_more : {S : Type 0} (brief : Bool) (whole : List (List (JobResult S))) (last : List (JobResult S)) (old between new : Option (List ℕ))
    → HasWritten brief whole old between → Grows between new (text_of_report brief last) → HasWritten brief (whole ++ last ∷ []) old new
written_more brief whole last old between new first second =
    let text : flat_map (text_of_report brief) (whole ++ last ∷ []) ≡ flat_map (text_of_report brief) whole ++ text_of_report brief last =
    flat_map-append (text_of_report brief) whole (last ∷ [])
    ∙ ap (λ t. flat_map (text_of_report brief) whole ++ t) (append-nil (text_of_report brief last)) in
    rw text (grows_more old between new _ _ first second)

-- where nothing ran, why is what is written
pub none_in_reports : (S : Type 0) (until : Until) (plan : Plan) (name : Option Word) (rest : List ℕ) (ended : Status)
    → BreaksOff rest ended → InReports S until plan name rest ended
none_in_reports S until plan name rest ended breaks = record {
  whole = [];
  last = [];
  are = no_reports plan name;
  rest = rest;
  text = refl;
  ends = inr breaks;
}

-- where memory ran out, after what was written before it
campaign_lacks : (plan : Plan) (name : Option Word) (before : List ℕ) (ended : Status) → ended ≡ status.NoAnswer
    → (before ≡ []) ⊎ Campaigns plan name (before ++ out_of_memory_text) status.NoAnswer
    → Campaigns plan name (before ++ out_of_memory_text) ended ⊎ ((before ++ out_of_memory_text ≡ out_of_memory_text) × (ended ≡ status.NoAnswer))
campaign_lacks plan name before ended is (inl none) = inr (ap (λ t. t ++ out_of_memory_text) none, is)
campaign_lacks plan name before ended is (inr found) = inl (rw is found)

pub fault_is_written : (plan : Plan) (name : Option Word) (found : InputFault) (old between new : Option (List ℕ)) (ended : Status)
    → (found ≡ fault.OutOfMemory → (before : List ℕ) × Grows old between before
    × ((before ≡ []) ⊎ Campaigns plan name (before ++ out_of_memory_text) status.NoAnswer))
    → (found ≡ fault.OutOfMemory → Grows between new out_of_memory_text) → (found ≡ fault.Broken → ⊥) → ended ≡ status.NoAnswer
    → WritesReport plan name old new ended
fault_is_written plan name fault.Broken old between new ended memory after never is = absurd (never refl)
fault_is_written plan name fault.OutOfMemory old between new ended memory after never is =
    let told = memory refl in
    record {
      output = told.0 ++ out_of_memory_text;
      right = campaign_lacks plan name told.0 ended is told.2;
      written = grows_more old between new told.0 out_of_memory_text told.1 (after refl);
    }

-- a campaign that breaks off after some reports
pub broken_off : {S : Type 0} (until : Until) (plan : Plan) (name : Option Word) (old new : Option (List ℕ)) (rest : List ℕ) (ended : Status)
    → HasReported S plan name old new → BreaksOff rest ended
    → (before : List ℕ) × Grows old new before × InReports S until plan name (before ++ rest) ended
broken_off until plan name old new rest ended reported breaks = (
  flat_map (text_of_report plan.brief) reported.whole,
  reported.written,
  record {
    whole = reported.whole;
    last = reported.last;
    are = reported.reports;
    rest = rest;
    text = refl;
    ends = inr breaks;
  },
)

-- ---- a campaign with reports, or with one

none_whole : {S : Type 0} (jobs : ℕ) (whole : List (List (JobResult S))) → jobs ≤ GREATEST_JOBS
    → All (λ report. length report ≡ GREATEST_JOBS) whole → (0 < length whole → length (jobs_of whole []) < jobs) → whole ≡ []
none_whole jobs [] few full more = refl
none_whole jobs (w ∷ ws) few full more =
    let first = All-head (λ report. length report ≡ GREATEST_JOBS) w ws full in
    let all = length-append w (flat_map (λ report. report) ws) in
    let same = ap length (append-nil (flat_map (λ report. report) (w ∷ ws))) in
    absurd (omega (arith, few, first, all, same, more (omega arith)))

pub not_run_answers : (S : Type 0) (asked : Option Until) (plan : Plan) (name : Option Word) (rest : List ℕ) (ended : Status)
    → rest ≡ not_run_text → ended ≡ status.NoAnswer → CampaignsUntil S asked plan name rest ended
not_run_answers S None plan name rest ended text is = inr (text, is)
not_run_answers S (Some until) plan name rest ended text is = none_in_reports S until plan name rest ended (inl text, is)

pub stopped_answers : {S : Type 0} (asked : Option Until) (plan : Plan) (name : Option Word) (old new : Option (List ℕ)) (rest : List ℕ)
    (ended : Status) → (asked ≡ None → plan.jobs ≤ GREATEST_JOBS) → HasReported S plan name old new → rest ≡ not_run_text
    → ended ≡ status.NoAnswer → (before : List ℕ) × Grows old new before × CampaignsUntil S asked plan name (before ++ rest) ended
stopped_answers None plan name old new rest ended few reported text is =
    let none = none_whole plan.jobs reported.whole (few refl) reported.reports.full reported.more in
    ([], rw none at reported.written, inr (text, is))
stopped_answers (Some until) plan name old new rest ended few reported text is =
    broken_off until plan name old new rest ended reported (inl text, is)

pub memory_answers : {S : Type 0} (asked : Option Until) (plan : Plan) (name : Option Word) (old new : Option (List ℕ))
    → (asked ≡ None → plan.jobs ≤ GREATEST_JOBS) → HasReported S plan name old new
    → (before : List ℕ) × Grows old new before
    × ((before ≡ []) ⊎ CampaignsUntil S asked plan name (before ++ out_of_memory_text) status.NoAnswer)
memory_answers None plan name old new few reported =
    let none = none_whole plan.jobs reported.whole (few refl) reported.reports.full reported.more in
    ([], rw none at reported.written, inl refl)
memory_answers (Some until) plan name old new few reported =
    let told = broken_off until plan name old new out_of_memory_text status.NoAnswer reported (inr refl, refl) in
    (told.0, told.1, inr told.2)

-- without bounds all jobs have run
all_jobs : {S : Type 0} (until : Until) (jobs : ℕ) (results : List (JobResult S)) → until.time ≡ None → until.unexplained ≡ None
    → EndsRightly until jobs results → length results ≡ jobs
all_jobs until jobs results untimed unbound (inl all) = all
all_jobs until jobs results untimed unbound (inr (inl (most, is, reached))) = absurd (cc (unbound, is))
all_jobs until jobs results untimed unbound (inr (inr (some, timed))) = absurd (cc (rw untimed at timed))

over_once : {S : Type 0} (plan : Plan) (until : Until) (name : Option Word) (whole : List (List (JobResult S))) (last : List (JobResult S))
    (rest : List ℕ) (ended : Status) → whole ≡ [] → until.time ≡ None → until.unexplained ≡ None → AreReports plan name whole last
    → EndsWith plan until whole last rest ended → CampaignsOver S plan name rest ended
over_once plan until name [] last rest ended none untimed unbound are ends =
    let all = all_jobs until plan.jobs last untimed unbound ends.ends in
    inl (
      last,
      rw all at are.results,
      record {
        end = ends.end;
        is_end = ends.is_end;
        shown = ends.shown;
        is_shown = ends.is_shown;
        text = ends.text;
        status = ends.status;
      },
    )
over_once plan until name (w ∷ ws) last rest ended none untimed unbound are ends = absurd (cc (none))

pub ended_answers : {S : Type 0} (asked : Option Until) (plan : Plan) (until : Until) (name : Option Word) (gathered : Gathered)
    (old new : Option (List ℕ)) (rest : List ℕ) (ended : Status) → (asked ≡ None → plan.jobs ≤ GREATEST_JOBS)
    → (asked ≡ None → (until.time ≡ None) × (until.unexplained ≡ None)) → ((found : Until) → asked ≡ Some found → until ≡ found)
    → (has : HasGathered S plan until name gathered old new) → EndsWith plan until has.whole has.last rest ended
    → (before : List ℕ) × Grows old new before × CampaignsUntil S asked plan name (before ++ rest) ended
ended_answers None plan until name gathered old new rest ended few unbound same has ends =
    let none = none_whole plan.jobs has.whole (few refl) has.reports.full has.more in
    let free = unbound refl in
    ([], rw none at has.written, over_once plan until name has.whole has.last rest ended none free.0 free.1 has.reports ends)
ended_answers {S} (Some found) plan until name gathered old new rest ended few unbound same has ends = (
  flat_map (text_of_report plan.brief) has.whole,
  has.written,
  subst (λ u. InReports S u plan name (flat_map (text_of_report plan.brief) has.whole ++ rest) ended) (same found refl) record {
    whole = has.whole;
    last = has.last;
    are = has.reports;
    rest = rest;
    text = refl;
    ends = inl ends;
  },
)
