use Rattle.std.proofs.Common.{◌++◌, ◌∷◌, ◌<◌, [], append_assoc, arith, inr, subst, sym}
use Rattle.std.proofs.lemmas.List.{append-nil}
use Rattle.mc_campaign.proofs.Runs.{kept_all, kept_handed, kept_more, none_kept}
use Rattle.mc_campaign.proofs.running.keep_all.Goals as goal

pub jobs-init : goal.jobs-init
jobs-init g c = record {
  fits = omega arith;
  kept = λ first before is. (
    [],
    subst (λ l. g.K.Keeper.becomes first l c.args.keeper.now) (sym (append-nil before)) is,
    none_kept c.args.campaign c.args.bounds,
  );
}

pub returns-then-end-kept : goal.returns-then-end-kept
returns-then-end-kept g c first before is =
    let k = c.jobs.invariant.kept first before is in (
      k.0,
      k.1,
      kept_all c.args.campaign c.args.bounds c.jobs.kept c.jobs.unexplained c.jobs.end k.0 k.2
          (c.hand_out-end.ensures.over c.if-end-kept.true),
    )

pub returns-in_default : goal.returns-in_default
returns-in_default g c first before is =
    let k = c.jobs.invariant.kept first before is in
    let over = rw c.in_default.is at c.in_ok-next.ensures.over in (
      k.0,
      subst (λ now. g.K.Keeper.becomes first (before ++ k.0) now) (sym over.0) k.1,
      kept_all c.args.campaign c.args.bounds c.jobs.kept c.jobs.unexplained c.jobs.end k.0 k.2 (inr (inr (over.1, over.2))),
    )

pub jobs-preserved : goal.jobs-preserved
jobs-preserved g c = record {
  fits = c.hand_out-end.ensures.left;
  kept = λ first before is.
      let k = c.jobs.invariant.kept first before is in
      let more = (rw c.in-Some-next.is at c.in_ok-next.ensures.kept) first (before ++ k.0) k.1 in
      let r = more.0 in
      let handed = kept_handed c.args.campaign c.args.bounds c.jobs.kept c.jobs.unexplained c.jobs.end c.hand_out-end.result k.0 k.2
      c.hand_out-end.ensures.allowed in
      let below : c.jobs.kept < c.hand_out-end.result = omega (arith, c.if-end-kept.false) in (
        k.0 ++ r ∷ [],
        subst (λ l. g.K.Keeper.becomes first l c.keep_next.new.keeper) (append_assoc before k.0 (r ∷ [])) more.1,
        kept_more c.args.campaign c.args.bounds c.jobs.kept c.jobs.unexplained c.hand_out-end.result c.counted-unexplained.result
            c.in-Some-next.standing k.0 r handed below c.hand_out-end.ensures.left (omega (arith, c.hand_out-end.type_inv)) more.2
            c.counted-unexplained.ensures,
      );
}
