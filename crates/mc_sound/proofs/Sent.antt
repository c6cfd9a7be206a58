-- What the sections of sound code may have sent finds the flags as it needs them.
use Rattle.std.proofs.Common.{◌≡◌, inl, inr, ℕ, true, List, [], ◌∷◌, ◌++◌, refl, ap, sym, subst, ◌∙◌}
use Rattle.std.proofs.lemmas.List.{map-append}
use Rattle.mc_protocol.specs.{Legal.is_legal, Merge.IsMerge, declared.actor.Actor.Actor, declared.reply.Class.Class, declared.request.Verb.Verb}
use Rattle.mc_protocol.specs.declared.actor.Actor.TheVariants as actor
use Rattle.mc_protocol.specs.declared.reply.Class.TheVariants as class
use Rattle.mc_protocol.specs.declared.request.Verb.TheVariants as verb
use Rattle.mc_protocol.proofs.Merges.{merge_unmap}
use Rattle.mc_script.specs.declared.step.Template.{Template}
use Rattle.mc_code.specs.{Calls.LeadsIn, Calls.calls_of, Code.Code, Code.instructions_in, Paths.Edge, Paths.IsComplete, Paths.entry_of}
use Rattle.mc_code.specs.declared.instr.Instr.TheVariants as instr
use Rattle.mc_code.proofs.PathLemmas.{path_sends}
use Rattle.mc_sound.specs.{Faults.IsSound, Laws.MaySend, Laws.SentIsAdmitted, Flags.IsAdmitted, Flags.all_clear, Interleavings.Stage, Interleavings.staged}
use Rattle.mc_sound.specs.{Interleavings.LeadsToBoth}
use Rattle.mc_sound.proofs.{Admitted.sound_admitted, FlagLemmas.staged_calls, FlagLemmas.calls_in_turn}

-- ---- a path with the same calls

-- each verb may be answered
answer_to : (v : Verb) → (c : Class) × (is_legal v c ≡ true)
answer_to verb.Set = (class.Stored, refl)
answer_to verb.Add = (class.Stored, refl)
answer_to verb.Replace = (class.Stored, refl)
answer_to verb.Append = (class.Stored, refl)
answer_to verb.Prepend = (class.Stored, refl)
answer_to verb.Cas = (class.Stored, refl)
answer_to verb.Get = (class.Hit, refl)
answer_to verb.Gets = (class.Hit, refl)
answer_to verb.Incr = (class.Number, refl)
answer_to verb.Decr = (class.Number, refl)
answer_to verb.Delete = (class.Deleted, refl)
answer_to verb.Touch = (class.Touched, refl)

-- where a send isn't answered, some answer leads on
path_of : (c : Code) (actor : Actor) (calls : List Template) → MaySend c actor calls
    → (place : ℕ) × (edges : List Edge) × LeadsIn c actor edges place × (calls ≡ calls_of edges)
path_of c actor calls (place, inl (edges, leads, are)) = (place, edges, leads, are)
path_of c actor calls (place, inr (edges, t, leads, (n, next, at, named), are)) =
    let answer = answer_to t.verb in (
      entry_of next answer.0,
      edges ++ (t, answer.0) ∷ [],
      path_sends leads (instr.Send n next) t answer.0 at (named, answer.1, refl),
      are ∙ sym (map-append (λ (edge : Edge). edge.0) edges ((t, answer.0) ∷ [])),
    )

-- ---- P, and both branches

in_p : (c : Code) (calls : List Template) → IsSound c → MaySend c actor.P calls → IsAdmitted all_clear calls
in_p c calls sound sent =
    let path = path_of c actor.P calls sent in
    let all = sound_admitted.along c actor.P path.0 (staged actor.P path.1) sound (path.1, path.2, refl) in
    subst (IsAdmitted all_clear) (staged_calls actor.P path.1 ∙ sym path.3) all

after_p : (c : Code) (before : List Edge) (calls_a calls_b merged : List Template) → IsSound c
    → IsComplete c.templates (instructions_in c actor.P) before
    → MaySend c actor.A calls_a → MaySend c actor.B calls_b → IsMerge calls_a calls_b merged
    → IsAdmitted all_clear (calls_of before ++ merged)
after_p c before calls_a calls_b merged sound complete sent_a sent_b merge =
    let a = path_of c actor.A calls_a sent_a in
    let b = path_of c actor.B calls_b sent_b in
    let stages = merge_unmap (λ (stage : Stage). stage.1.0) (staged actor.A a.1) (staged actor.B b.1) merge
    (staged_calls actor.A a.1 ∙ sym a.3) (staged_calls actor.B b.1 ∙ sym b.3) in
    let interleaving = staged actor.P before ++ stages.0 in
    let both : LeadsToBoth c a.0 b.0 interleaving = record {
      before = before;
      a = a.1;
      b = b.1;
      merged = stages.0;
      complete = complete;
      path_a = a.2;
      path_b = b.2;
      merge = stages.1;
      interleaving_is = refl;
    } in
    let calls = calls_in_turn c a.0 b.0 interleaving both ∙ ap (λ l. calls_of before ++ l) stages.2 in
    subst (IsAdmitted all_clear) calls (sound_admitted.along c actor.A a.0 interleaving sound (b.0, both))

pub sent_admitted : SentIsAdmitted
sent_admitted = record { in_p = in_p; after_p = after_p }
