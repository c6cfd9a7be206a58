use Rattle.std.proofs.Common.{◌≡◌, ◌∙◌, ℕ, [], List, get_or, take, ap, ap₂}
use Rattle.std.proofs.lemmas.Option.{get_or_from_slice_get}
use Rattle.mc_model.specs.{declared.sent.Sent.Sent, Act.act, Contents.Contents}
use Rattle.mc_history.specs.Claim.{Claim}
use Rattle.mc_claims.specs.Explains.{start_contents}
use Rattle.mc_why.specs.Answers.{moved_along}
use Rattle.mc_why.proofs.Answers.{acts_unanswered}
use Rattle.mc_why.proofs.why.answer_to_unanswered.Goals as goal

pub returns : goal.returns
returns c =
    let s = c.args.history.now.sections in
    let moves = c.as_slice-moves.result.now in
    let first = c.in-Some.ensures in
    let by = c.in-Some-nth_move.by in
    let request : get_or c.sent-section.result.now c.in-Some.place c.index-section-place.result ≡ first.sent =
    get_or_from_slice_get c.sent-section.result.now c.in-Some.place first.sent c.index-section-place.result first.there in
    let cache : c.in_ok-cache.cache ≡ moved_along s [] (take c.in-Some-nth_move.index moves) (start_contents c.args.explanation.now.start) =
    c.in_ok-cache.ensures
    ∙ ap (λ (start : List (List ℕ × ℕ)). moved_along s [] (take c.in-Some-nth_move.index moves) (start_contents start))
    (c.as_slice.ensures.value ∙ ap (λ (claim : Claim). claim.start) c.explanation.view_is) in
    acts_unanswered s c.args.explanation.now c.args.actor c.sent-section.result.now moves c.in-Some.place c.in-Some-nth_move.index by
    c.in_ok-reply.reply c.sent-section.ensures.sent
    (c.as_slice-moves.ensures.value ∙ ap (λ (claim : Claim). claim.order) c.explanation.view_is)
    first c.in-Some-nth_move.ensures
    (λ number. c.in_ok-reply.ensures number ∙ ap₂ (λ (contents : Contents) (sent : Sent). (act contents sent.request by.choice number).reply) cache request)
