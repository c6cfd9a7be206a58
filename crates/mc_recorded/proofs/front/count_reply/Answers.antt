use Rattle.std.proofs.Common.{◌∙◌, subst, sym}
use Rattle.mc_recorded.specs.Fronts.{BeginsWith}
use Rattle.mc_recorded.proofs.InOrder.{IsOther, none_found, reply_found, reply_missing}
use Rattle.mc_recorded.proofs.front.count_reply.Goals as goal

pub returns-then-is_same_reply : goal.returns-then-is_same_reply
returns-then-is_same_reply c =
    let sent = c.args.sent.now in
    reply_found sent.request sent.reply c.args.got.now c.in-Whole.found c.in-Some.reply c.in-Whole.used c.in-Some.is
    (c.is_same_reply.ensures.0 c.if-is_same_reply.true)
    (subst (BeginsWith sent.request.verb sent.request.key c.args.got.now) c.in-Whole.is c.in_ok-found.ensures)

pub returns-in-Whole : goal.returns-in-Whole
returns-in-Whole c =
    let sent = c.args.sent.now in
    reply_missing sent.request sent.reply c.args.got.now c.in_ok-found.field-0 c.in-Some.reply c.in-Some.is
    (subst (IsOther c.in-Some.reply) (sym c.in-Whole.is)
    (λ same. let clash = sym c.if-is_same_reply.false ∙ c.is_same_reply.ensures.1 same in cc)) c.in_ok-found.ensures

pub returns : goal.returns
returns c =
    let sent = c.args.sent.now in
    reply_missing sent.request sent.reply c.args.got.now c.in_ok-found.field-0 c.in-Some.reply c.in-Some.is
    (none_found c.in-Some.reply c.in_ok-found.field-0 c.in-Malformed.is) c.in_ok-found.ensures
