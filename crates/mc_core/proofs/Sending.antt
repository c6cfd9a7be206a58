-- What the sections of a right world have sent: calls of paths, within the budgets, which find the flags as they need them in every merge.
use Rattle.std.proofs.Common.{◌≡◌, ◌⊎◌, inl, inr, ℕ, ◌<◌, ◌≤◌, Option, Some, None, List, [], ◌∷◌, ◌++◌, map, refl, ap, sym, subst, ◌∙◌, arith}
use Rattle.std.proofs.{lemmas.Bool.cases_lt, lemmas.List.append-nil, lemmas.List.append_assoc, lemmas.List.map-append, lemmas.Option.get_or_from_slice_get}
use Rattle.std.specs.Option.{option_to_list}
use Rattle.mc_protocol.specs.{Merge.IsMerge, declared.actor.Actor.Actor, declared.reply.Reply.Reply}
use Rattle.mc_protocol.specs.declared.actor.Actor.TheVariants as actor
use Rattle.mc_protocol.proofs.Merges.{MergeBegins, merge_first}
use Rattle.mc_script.specs.declared.step.Template.{Template}
use Rattle.mc_code.specs.{Calls.IsCalling, Calls.MakesAll, Calls.exchange_of, Calls.template_of, Calls.no_template, Calls.calls_of, Calls.Opens, Code.Code}
use Rattle.mc_code.specs.{Code.section_of, Code.instructions_in, Paths.IsComplete, RunLaws.edges_of, Runs.Exchange, States.Tagged, declared.instr.Call.Call}
use Rattle.mc_code.specs.Paths as path
use Rattle.mc_code.proofs.{RunLemmas.ends_complete, StandingLemmas.calls_open}
use Rattle.mc_sound.specs.{Costs.cost_along, Costs.bound_of, Flags.IsAdmitted, Flags.all_clear, declared.measure.Measure.Measure, Faults.IsSound}
use Rattle.mc_sound.specs.{Faults.MayExceed, Laws.MaySend}
use Rattle.mc_sound.specs.declared.measure.Measure.TheVariants as measure
use Rattle.mc_sound.specs.declared.refusal_kind.RefusalKind.TheVariants as kind
use Rattle.mc_sound.proofs.Sent.{sent_admitted}
use Rattle.mc_core.specs.Logs.{Log, call_of, calls_in, answered_in, exchanges_in, IsNextCall, IsRightLog, new_log}
use Rattle.mc_core.specs.{Safety.AreSentBy, Safety.AreAdmitted, Worlds.World, Worlds.log_of, Worlds.exchanges_of, Worlds.IsDone}
use Rattle.mc_core.proofs.StepLemmas.{MayBeRight, IsRight}

-- ---- templates of calls

-- the templates of the calls that have replies are those of the exchanges
pub templates_exchanged : (c : Code) (pairs : List (Call × Reply))
    → map (template_of c) (map call_of pairs) ≡ calls_of (edges_of (map (exchange_of c) pairs))
templates_exchanged c [] = refl
templates_exchanged c ((made, reply) ∷ pairs) = ap (λ l. template_of c made ∷ l) (templates_exchanged c pairs)

abbrev pub sent_in : Code → Log → List Template
sent_in c log = map (template_of c) (calls_in log)

-- ---- paths

-- nothing was sent, or the calls of a path to a send, and its own
abbrev pub Sends : Code → Actor → List Template → Type 0
Sends c who calls = (calls ≡ []) ⊎ ((place : ℕ) × Opens c who place calls)

pub may_send : (c : Code) (who : Actor) (calls : List Template) → Sends c who calls → MaySend c who calls
may_send c who calls (inl none) = (0, inl ([], path.stays, none))
may_send c who calls (inr (place, opens)) = (place, inr opens)

-- with the call that the section is about to make
calling_sends : (c : Code) (who : Actor) (variables : List Tagged) (exchanges : List Exchange) (made : Call)
    → IsCalling c who variables exchanges made → Sends c who (calls_of (edges_of exchanges) ++ template_of c made ∷ [])
calling_sends c who variables exchanges made calling =
    let opens = calls_open c who variables exchanges made calling in
    let same : template_of c made ≡ opens.1 = get_or_from_slice_get c.templates made.template opens.1 no_template opens.2 in
    inr (opens.0, subst (λ t. Opens c who opens.0 (calls_of (edges_of exchanges) ++ t ∷ [])) (sym same) opens.3)

pairs_send : (c : Code) (who : Actor) (variables : List Tagged) (before : List Exchange) (pairs : List (Call × Reply))
    → MakesAll c who variables before pairs → Sends c who (calls_of (edges_of before))
    → Sends c who (calls_of (edges_of (before ++ map (exchange_of c) pairs)))
pairs_send c who variables before [] makes sends = subst (λ l. Sends c who (calls_of (edges_of l))) (sym (append-nil before)) sends
pairs_send c who variables before ((made, reply) ∷ pairs) makes sends =
    let x = exchange_of c (made, reply) in
    let here = subst (Sends c who) (sym (more_calls before)) (calling_sends c who variables before made makes.0) in
    subst (λ l. Sends c who (calls_of (edges_of l))) (append_assoc before (x ∷ []) (map (exchange_of c) pairs))
    (pairs_send c who variables (before ++ x ∷ []) pairs makes.2 here)
  where
    more_calls : (xs : List Exchange)
        → calls_of (edges_of (xs ++ exchange_of c (made, reply) ∷ [])) ≡ calls_of (edges_of xs) ++ template_of c made ∷ []
    more_calls [] = refl
    more_calls ((t, given) ∷ xs) = ap (λ l. t ∷ l) (more_calls xs)

pub answered_send : (c : Code) (who : Actor) (variables : List Tagged) (log : Log) → IsRightLog c who variables log
    → Sends c who (map (template_of c) (answered_in log))
answered_send c who variables log right =
    subst (Sends c who) (sym (templates_exchanged c log.answered)) (pairs_send c who variables [] log.answered right.makes (inl refl))

pub log_sends : (c : Code) (who : Actor) (variables : List Tagged) (log : Log) → IsRightLog c who variables log
    → Sends c who (sent_in c log)
log_sends c who variables log right = by_waiting log.waiting right.next
  where
    by_waiting : (o : Option Call) → IsNextCall c who variables (exchanges_in c log) o
        → Sends c who (map (template_of c) (map call_of log.answered ++ option_to_list o))
    by_waiting None idle =
        subst (λ l. Sends c who (map (template_of c) l)) (sym (append-nil (map call_of log.answered))) (answered_send c who variables log right)
    by_waiting (Some made) calling =
        let same = map-append (template_of c) (map call_of log.answered) (made ∷ [])
        ∙ ap (λ l. l ++ template_of c made ∷ []) (templates_exchanged c log.answered) in
        subst (Sends c who) (sym same) (calling_sends c who variables (exchanges_in c log) made calling)

-- ---- budgets

none_exceeds : (c : Code) (m : Measure) (who : Actor) (place : ℕ) → IsSound c → MayExceed c m who place → ⊥
none_exceeds c measure.Requests who place sound exceeds = sound kind.TooManyRequests who place exceeds
none_exceeds c measure.Bytes who place sound exceeds = sound kind.TooManyBytes who place exceeds

pub log_within : (c : Code) (m : Measure) (who : Actor) (variables : List Tagged) (log : Log) → IsSound c → IsRightLog c who variables log
    → cost_along c m (sent_in c log) ≤ bound_of m (section_of c who).budget
log_within c m who variables log sound right = by_sends (log_sends c who variables log right)
  where
    cost : ℕ
    cost = cost_along c m (sent_in c log)

    bound : ℕ
    bound = bound_of m (section_of c who).budget

    by_order : (place : ℕ) → Opens c who place (sent_in c log) → (bound < cost) ⊎ (cost ≤ bound) → cost ≤ bound
    by_order place opens (inr within) = within
    by_order place (edges, t, leads, sends, are) (inl exceeds) =
        let more = subst (λ l. bound < cost_along c m l) are exceeds in
        absurd (none_exceeds c m who place sound (record { edges = edges; t = t; leads = leads; sends = sends; exceeds = more }))

    by_sends : Sends c who (sent_in c log) → cost ≤ bound
    by_sends (inl none) = let nothing = ap (cost_along c m) none in omega (arith, nothing)
    by_sends (inr (place, opens)) = by_order place opens (cases_lt bound cost)

-- a merge of nothing
empty_merge : {xs ys zs : List Template} → IsMerge xs ys zs → xs ≡ [] → ys ≡ [] → zs ≡ []
empty_merge {xs} {ys} {zs} m e f = by_first zs (merge_first m)
  where
    by_first : (zs : List Template) → MergeBegins xs ys zs → zs ≡ []
    by_first [] begins = refl
    by_first (z ∷ zs) (inl (others, is, more)) = let none = sym e ∙ is in absurd (cc)
    by_first (z ∷ zs) (inr (others, is, more)) = let none = sym f ∙ is in absurd (cc)

none_sent : (c : Code) (w : World) (who : Actor) (calls : List Template) → log_of w who ≡ new_log → AreSentBy c w who calls → calls ≡ []
none_sent c w who calls new (inl are) = are ∙ ap (sent_in c) new
none_sent c w who calls new (inr are) = are ∙ ap (λ log. map (template_of c) (answered_in log)) new

-- what a section has sent, begun or not
sent : (c : Code) (w : World) (who : Actor) (calls : List Template) → MayBeRight c w who → AreSentBy c w who calls → MaySend c who calls
sent c w who calls right are = may_send c who calls (by_log right are)
  where
    by_log : MayBeRight c w who → AreSentBy c w who calls → Sends c who calls
    by_log (inl new) are = inl (none_sent c w who calls new are)
    by_log (inr right) (inl are) = subst (Sends c who) (sym are) (log_sends c who right.variables (log_of w who) right.right)
    by_log (inr right) (inr are) = subst (Sends c who) (sym are) (answered_send c who right.variables (log_of w who) right.right)

-- what P has sent when it is done is a complete path
done_sent : (c : Code) (w : World) (calls : List Template) → IsDone c w actor.P → AreSentBy c w actor.P calls
    → calls ≡ calls_of (edges_of (exchanges_of c w actor.P))
done_sent c w calls done (inl are) =
    are
    ∙ ap (λ o. map (template_of c) (map call_of (log_of w actor.P).answered ++ option_to_list o)) done.1
    ∙ ap (map (template_of c)) (append-nil (map call_of (log_of w actor.P).answered))
    ∙ templates_exchanged c (log_of w actor.P).answered
done_sent c w calls done (inr are) = are ∙ templates_exchanged c (log_of w actor.P).answered

done_complete : (c : Code) (w : World) → IsDone c w actor.P
    → IsComplete c.templates (instructions_in c actor.P) (edges_of (exchanges_of c w actor.P))
done_complete c w done = let over = done.2 in ends_complete c actor.P over.0 (exchanges_of c w actor.P) over.1 over.3

-- P is done, or nothing has happened in the branches
abbrev Branches : Code → World → Type 0
Branches c w = IsDone c w actor.P ⊎ ((log_of w actor.A ≡ new_log) × (log_of w actor.B ≡ new_log))

branches : (c : Code) (w : World) → MayBeRight c w actor.A → MayBeRight c w actor.B → Branches c w
branches c w (inl new) (inl same) = inr (new, same)
branches c w (inl new) (inr right) = inl right.begun
branches c w (inr right) (inl new) = inl right.begun
branches c w (inr right) (inr also) = inl right.begun

pub admitted : (c : Code) (w : World) → IsSound c → IsRight c w → AreAdmitted c w
admitted c w sound right of_p of_a of_b merged sent_p sent_a sent_b merge = by_branches (branches c w (right actor.A) (right actor.B))
  where
    by_branches : Branches c w → IsAdmitted all_clear (of_p ++ merged)
    by_branches (inl done) =
        let all = sent_admitted.after_p c (edges_of (exchanges_of c w actor.P)) of_a of_b merged sound (done_complete c w done)
        (sent c w actor.A of_a (right actor.A) sent_a) (sent c w actor.B of_b (right actor.B) sent_b) merge in
        subst (λ l. IsAdmitted all_clear (l ++ merged)) (sym (done_sent c w of_p done sent_p)) all
    by_branches (inr (new_a, new_b)) =
        let none = empty_merge merge (none_sent c w actor.A of_a new_a sent_a) (none_sent c w actor.B of_b new_b sent_b) in
        let all = sent_admitted.in_p c of_p sound (sent c w actor.P of_p (right actor.P) sent_p) in
        subst (IsAdmitted all_clear) (sym (ap (λ l. of_p ++ l) none ∙ append-nil of_p)) all
