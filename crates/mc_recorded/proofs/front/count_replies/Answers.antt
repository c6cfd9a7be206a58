use Rattle.std.proofs.Common.{List, ◌+◌, suc, ◌≡◌, ◌∷◌, ◌++◌, [], ap, sym, subst, ◌∙◌, take, drop}
use Rattle.std.proofs.{Math.Seq.drop-cons, lemmas.List.take_more, lemmas.List.take-append-drop}
use Rattle.std.specs.Prelude.{Some, None}
use Rattle.mc_model.specs.declared.sent.Sent.{Sent}
use Rattle.mc_recorded.specs.Fronts.{CountsReply, CountsReplies}
use Rattle.mc_recorded.proofs.InOrder.{counted_more, missing}
use Rattle.mc_recorded.proofs.front.count_replies.Goals as goal

pub replies-preserved : goal.replies-preserved
replies-preserved c =
    let requests = c.args.requests.now in
    let at = c.replies.sent-index in
    let s = c.sent-item.result in
    let more : take (at + 1) requests ≡ take at requests ++ s ∷ [] =
    take_more requests at s c.replies-test.true ∙ ap (λ (x : Sent). take at requests ++ x ∷ []) (sym c.sent-item.is) in
    let counts = subst (λ (xs : List Sent). CountsReplies xs c.args.got.now (Some (c.replies.taken + c.in-Some.count))) (sym more)
    (counted_more (take at requests) s c.args.got.now c.bytes_after.result.now c.replies.taken c.in-Some.count c.bytes_after.ensures
    c.replies.invariant.within c.replies.invariant.stand
    (subst (CountsReply s.request s.reply c.bytes_after.result.now) c.in-Some.is c.in_ok-count.ensures)) in
    record { within = counts.0; stand = counts.1 }

pub returns-in-None : goal.returns-in-None
returns-in-None c =
    let requests = c.args.requests.now in
    let at = c.replies.sent-index in
    let s = c.sent-item.result in
    let next : drop at requests ≡ s ∷ drop (suc at) requests =
    drop-cons requests at s c.replies-test.true ∙ ap (λ (x : Sent). x ∷ drop (suc at) requests) (sym c.sent-item.is) in
    let whole : take at requests ++ s ∷ drop (suc at) requests ≡ requests =
    ap (λ (xs : List Sent). take at requests ++ xs) (sym next) ∙ take-append-drop at requests in
    subst (λ (xs : List Sent). CountsReplies xs c.args.got.now None) whole
    (missing (take at requests) (drop (suc at) requests) s c.args.got.now c.bytes_after.result.now c.replies.taken c.bytes_after.ensures
    c.replies.invariant.stand (subst (CountsReply s.request s.reply c.bytes_after.result.now) c.in-None.is c.in_ok-count.ensures))
