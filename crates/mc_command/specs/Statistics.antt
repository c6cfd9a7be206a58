-- Statistics of runs that came to a history.
use Rattle.std.specs.Prelude.{◌≡◌, ℕ, nat_lt, Bool, true, false, ◌&&◌, Option, Some, is_some, List, [], ◌∷◌, ◌++◌, length}
use Rattle.std.specs.List.{count_by, flat_map, position}
use Rattle.mc_protocol.specs.{declared.actor.Actor.Actor, declared.event.Event.Event, declared.reply.Class.Class}
use Rattle.mc_protocol.specs.declared.request.Verb.{Verb}
use Rattle.mc_protocol.specs.declared.actor.Actor.TheVariants as actor
use Rattle.mc_protocol.specs.declared.event.Event.TheVariants as event
use Rattle.mc_core.specs.Worlds.{Noted}
use Rattle.mc_model.specs.{Notes.History, Notes.is_same_section, declared.sent.Sent.Sent}
use Rattle.mc_command.specs.Replies.{CountsRequests, answers_in, answers_of, capped}
use Rattle.mc_command.specs.{Overlaps.overlaps, declared.run.Played.Played, declared.statistics.Statistics.Statistics}
use Rattle.mc_command.specs.declared.run.Played.TheVariants as played

-- what was noted in a run, in order, and its history
pub record Recorded : Type 0 where
  pub notes : List Noted
  pub history : History

-- ---- first replies

abbrev pub is_reply : Event → Bool
is_reply event.Begin = false
is_reply (event.Reply reply) = true
is_reply (event.Fail fault) = false

abbrev pub is_reply_to : Actor → Noted → Bool
is_reply_to section (who, e) = is_same_section section who && is_reply e

-- where the first reply to the section stands among the notes, if there is one
abbrev pub first_reply : Actor → List Noted → Option ℕ
first_reply section notes = position (is_reply_to section) notes

-- both places are there, and the one is before the other
abbrev pub is_before : Option ℕ → Option ℕ → Bool
is_before (Some one) (Some other) = nat_lt one other
is_before _ _ = false

-- both branches have a reply
abbrev pub has_both : Recorded → Bool
has_both run = is_some (first_reply actor.A run.notes) && is_some (first_reply actor.B run.notes)

-- and A's first one was noted before B's
abbrev pub has_a_first : Recorded → Bool
has_a_first run = is_before (first_reply actor.A run.notes) (first_reply actor.B run.notes)

-- ---- all of it

abbrev pub has_overlap : Recorded → Bool
has_overlap run = overlaps run.notes

-- the requests of the run's sections
abbrev pub requests_of : Recorded → List Sent
requests_of run = (run.history.sections.p ++ run.history.sections.a) ++ run.history.sections.b

-- the statistics are those of these runs
pub record AreStatistics (runs : List Recorded) (statistics : Statistics) : Type 0 where
  pub runs_counted : statistics.runs ≡ capped (length runs)
  pub overlapped : statistics.overlapped ≡ capped (count_by has_overlap runs)
  pub answered : statistics.answered ≡ capped (count_by has_both runs)
  pub a_first : statistics.a_first ≡ capped (count_by has_a_first runs)
  pub replies : CountsRequests (flat_map requests_of runs) statistics.replies

-- the count of the requests with this verb that had a reply of this class, or had none
abbrev pub count_of : Statistics → Verb → Option Class → ℕ
count_of statistics verb class = answers_in (answers_of statistics.replies verb) class

-- what is recorded of a run, if it came to a history
abbrev pub recorded_of : Played → List Recorded
recorded_of (played.Ended held h found told) = record { notes = held.world.notes; history = h } ∷ []
recorded_of (played.NoConnection section) = []
recorded_of played.NotRun = []
