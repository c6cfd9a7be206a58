-- What is known of a timeline.
use Rattle.std.specs.Prelude.{List}
use Rattle.mc_timeline.specs.Timelines.{ClientNote}
use Rattle.mc_linearize.specs.{Claims.ExplainsTimeline, Keys.keys_in, Verdicts.IsFirstUndecidedOf, Verdicts.IsUnexplainedAt}
use Rattle.mc_timeline_why.specs.TimelineCauses.{IsFoundOn}
use Rattle.mc_timeline_draw.specs.declared.known.TimelineKnown.{TimelineKnown}
use Rattle.mc_timeline_draw.specs.declared.known.TimelineKnown.TheVariants as known

-- what is known of the timeline is so: an explanation explains it; or nothing explains the requests on the key, and what is found of
-- them is so; or the key is the first undecided one, and no key was found to be unexplained
abbrev pub IsKnownOf : List ClientNote → TimelineKnown → Type 0
IsKnownOf notes (known.Confirmed claim) = ExplainsTimeline notes claim
IsKnownOf notes (known.Explained claim) = ExplainsTimeline notes claim
IsKnownOf notes (known.Unexplained key found) = IsUnexplainedAt notes key × IsFoundOn notes key found
IsKnownOf notes (known.Undecided key) = IsFirstUndecidedOf notes (keys_in notes) key
