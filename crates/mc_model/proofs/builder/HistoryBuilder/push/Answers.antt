use Rattle.std.proofs.Common.{◌≡◌, ℕ, true, None, refl, sym, ◌∙◌}
use Rattle.mc_model.specs.History.{is_history, fault_at, key_count}
use Rattle.mc_model.specs.{Types.Actor, Types.Sent, Sections.Sections, Sections.with_sent, Next.keys_with}
use Rattle.mc_model.proofs.Faults.{no_fault, keys_counted}
use Rattle.mc_model.proofs.builder.HistoryBuilder.push.Goals.{in-P+in_ok-push-in-P, in-A+in_ok-push-in-A, in-B+in_ok-push-in-B}
use Rattle.mc_model.proofs.builder.HistoryBuilder.push.Goals as goal

-- a history with one more request that has no fault, and its keys
kept : (before after : Sections) (keys : ℕ) (who : Actor) (sent : Sent) → is_history before ≡ true → fault_at before who sent ≡ None
    → after ≡ with_sent before who sent → keys ≡ keys_with before sent → (is_history after ≡ true) × (keys ≡ key_count after)
kept before after keys who sent h none more counted =
    (rw more (no_fault before who sent none).1, rw more (counted ∙ sym (keys_counted before who sent h)))

-- after the `match` one section has the request
pushed : (c : goal.After-self-1)
    → ◌≡◌ {A = Sections} (record { p = c.match-actor.self-inside.p.items; a = c.match-actor.self-inside.a.items; b = c.match-actor.self-inside.b.items })
    (with_sent c.args.self.now c.args.actor c.args.sent)
pushed c =
    elim c.match-actor.branch [
      | in-P+in_ok-push-in-P w ↦ rw (w.self-inside-is, w.in_ok-push-in-P.ensures.items, w.in-P.is, ← c.self.view_is) refl
      | in-A+in_ok-push-in-A w ↦ rw (w.self-inside-is, w.in_ok-push-in-A.ensures.items, w.in-A.is, ← c.self.view_is) refl
      | in-B+in_ok-push-in-B w ↦ rw (w.self-inside-is, w.in_ok-push-in-B.ensures.items, w.in-B.is, ← c.self.view_is) refl
    ]

pub invariant_of-self-2 : goal.invariant_of-self-2
invariant_of-self-2 c =
    let h : is_history c.args.self.now ≡ true = rw (← c.self.view_is) c.self.invariant.0 in
    kept c.args.self.now _ c.keys_with-keys.result c.args.actor c.args.sent h c.in_ok-check.ensures.ok (pushed c) c.keys_with-keys.ensures

pub returns-clause-keeps : goal.returns-clause-keeps
returns-clause-keeps c =
    let h : is_history c.args.self.now ≡ true = rw (← c.self.view_is) c.self.invariant.0 in
    (kept c.args.self.now _ c.keys_with-keys.result c.args.actor c.args.sent h c.in_ok-check.ensures.ok (pushed c) c.keys_with-keys.ensures).0
