use Rattle.std.proofs.Common.{arith, ap, inr, length, subst, sym, take, ◌≡◌, ◌∙◌, ◌<◌, ◌≤◌}
use Rattle.std.proofs.lemmas.List.{take-append-le}
use Rattle.mc_answers.specs.{Answers.INPUT_LIMIT, Answers.TIMELINE_LIMIT, TimelineAnswers.BeginsTimeline}
use Rattle.mc_answers.proofs.Lengths.{longer_by, loses_added, takes_added, whole_at_end}
use Rattle.mc_answers.proofs.input.read_history.Goals as goal

pub returns-then-not-branch-clause-too_long : goal.returns-then-not-branch-clause-too_long
returns-then-not-branch-clause-too_long g c =
    let text = c.in_ok-text.text.items in
    let long : INPUT_LIMIT < length text = omega (arith, c.if-len-le-INPUT_LIMIT.false, c.len.ensures) in
    let whole = longer_by _ _ text INPUT_LIMIT c.in_ok-text.ensures.read.1 long in
    let front : c.first_bytes.result.now ≡ take INPUT_LIMIT text =
    c.first_bytes.ensures ∙ ap (λ bytes. take INPUT_LIMIT bytes) c.as_slice.ensures.value in
    let begins : BeginsTimeline (take INPUT_LIMIT whole.0) → TIMELINE_LIMIT < length whole.0 =
    λ is. let same : take INPUT_LIMIT whole.0 ≡ c.first_bytes.result.now = whole.3 ∙ sym front in
    absurd (cc (c.in_ok-begins_timeline.ensures.1 (subst BeginsTimeline same is), c.if-not-branch.true)) in
    (whole.0, whole.1, (whole.2, begins), c.in_ok-too_long.ensures.0, c.in_ok-too_long.ensures.1)

pub returns-in_err-too_long-2-clause-taken : goal.returns-in_err-too_long-2-clause-taken
returns-in_err-too_long-2-clause-taken g c =
    takes_added _ _ _ _ c.read_on.new.text.items 67108865 c.in_ok-text.ensures.read.1 c.read_on.ensures.adds c.read_on.ensures.short

pub returns-then-len-gt-TIMELINE_LIMIT-clause-too_long : goal.returns-then-len-gt-TIMELINE_LIMIT-clause-too_long
returns-then-len-gt-TIMELINE_LIMIT-clause-too_long g c =
    let text = c.read_on.new.text.items in
    let long : TIMELINE_LIMIT < length text = omega (arith, c.if-len-gt-TIMELINE_LIMIT.true, c.len-2.ensures) in
    let lost = loses_added _ _ _ _ text c.in_ok-text.ensures.read.1 c.read_on.ensures.adds in
    let whole = longer_by _ _ text TIMELINE_LIMIT lost long in
    let longer : INPUT_LIMIT < length whole.0 = omega (arith, whole.2) in
    (whole.0, whole.1, (longer, λ _. whole.2), c.in_ok-too_long-2.ensures.0, c.in_ok-too_long-2.ensures.1)

pub returns-then-len-gt-TIMELINE_LIMIT-clause-taken : goal.returns-then-len-gt-TIMELINE_LIMIT-clause-taken
returns-then-len-gt-TIMELINE_LIMIT-clause-taken g c =
    takes_added _ _ _ _ c.read_on.new.text.items 67108865 c.in_ok-text.ensures.read.1 c.read_on.ensures.adds c.read_on.ensures.short

pub returns-clause-text : goal.returns-clause-text
returns-clause-text g c =
    let first = c.in_ok-text.text.items in
    let text = c.read_on.new.text.items in
    let adds = c.read_on.ensures.adds in
    let within : INPUT_LIMIT ≤ length first = omega (arith, c.if-len-le-INPUT_LIMIT.false, c.len.ensures) in
    let short : length text ≤ TIMELINE_LIMIT = omega (arith, c.if-len-gt-TIMELINE_LIMIT.false, c.len-2.ensures) in
    let same : take INPUT_LIMIT first ≡ take INPUT_LIMIT text =
    sym (ap (λ bytes. take INPUT_LIMIT bytes) adds.1 ∙ take-append-le INPUT_LIMIT first adds.0 within) in
    let front : c.first_bytes.result.now ≡ take INPUT_LIMIT first =
    c.first_bytes.ensures ∙ ap (λ bytes. take INPUT_LIMIT bytes) c.as_slice.ensures.value in
    let begun : BeginsTimeline c.first_bytes.result.now = c.in_ok-begins_timeline.ensures.0 (cc (c.if-not-branch.false)) in
    let begins = subst BeginsTimeline (front ∙ same) begun in (
      inr (begins, short),
      whole_at_end _ _ text (loses_added _ _ _ _ text c.in_ok-text.ensures.read.1 adds)
          (c.in_ok-read_on.ensures.end short),
    )

pub returns-in_err-read_on-clause-taken : goal.returns-in_err-read_on-clause-taken
returns-in_err-read_on-clause-taken g c =
    takes_added _ _ _ _ c.read_on.new.text.items 67108865 c.in_ok-text.ensures.read.1 c.read_on.ensures.adds c.read_on.ensures.short

pub returns-clause-taken : goal.returns-clause-taken
returns-clause-taken g c =
    takes_added _ _ _ _ c.read_on.new.text.items 67108865 c.in_ok-text.ensures.read.1 c.read_on.ensures.adds c.read_on.ensures.short
