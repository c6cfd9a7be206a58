-- The calls of never code find the flags as they need them.
use Rattle.std.proofs.Common.{◌≡◌, ℕ, Bool, true, false, not, Some, List, [], ◌∷◌, ◌++◌, slice_get, refl, ap, sym, subst, ◌∙◌}
use Rattle.std.proofs.lemmas.List.{append-nil, append_assoc, map-append}
use Rattle.mc_protocol.specs.{Merge.IsMerge, Merge.none, Merge.left, Merge.right, declared.actor.Actor.Actor, declared.reply.Class.Class}
use Rattle.mc_protocol.specs.declared.actor.Actor.TheVariants as actor
use Rattle.mc_protocol.proofs.{FirstItems.head_is, FirstItems.rest_is, Merges.merge_left_end, Merges.merge_right_end}
use Rattle.mc_script.specs.declared.step.Template.{Template}
use Rattle.mc_code.specs.{declared.instr.Instr.Instr, Calls.LeadsIn, Calls.SendsAt, Code.Code, Code.instructions_in, Paths.Edge, Paths.IsPath, Paths.Sends}
use Rattle.mc_code.specs.declared.instr.Instr.TheVariants as instr
use Rattle.mc_code.specs.Paths as path
use Rattle.mc_code.proofs.PathLemmas.{path_append, path_slides, path_sends, path_first}
use Rattle.mc_sound.specs.{Faults.IsSound, Faults.MayLackFlag, Laws.SoundIsAdmitted, Laws.LacksNoFlag, Laws.IsAlwaysAdmitted, Laws.LackIsNotAdmitted}
use Rattle.mc_sound.specs.{Flags.IsAdmitted, Flags.all_clear, Flags.flag_along, Flags.flag_after, Flags.needs, Interleavings.Stage, Interleavings.staged}
use Rattle.mc_sound.specs.{Interleavings.calls_along, Interleavings.LeadsTo, Interleavings.LeadsToBoth}
use Rattle.mc_sound.specs.declared.refusal_kind.RefusalKind.TheVariants as kind

-- ---- one more call

value_is : (b value : Bool) → (b ≡ not value → ⊥) → b ≡ value
value_is true true never = refl
value_is true false never = absurd (never refl)
value_is false true never = absurd (never refl)
value_is false false never = refl

admitted_end : (calls : List Template) (t : Template) (flags : ℕ → Bool) → IsAdmitted flags calls
    → ((flag : ℕ) (value : Bool) → needs flag t value ≡ true → flag_along flag calls (flags flag) ≡ value)
    → IsAdmitted flags (calls ++ t ∷ [])
admitted_end [] t flags all finds = (finds, tt)
admitted_end (u ∷ calls) t flags all finds = (all.0, admitted_end calls t (λ flag. flag_after flag u (flags flag)) all.1 finds)

-- the send at the end of an interleaving finds its flags
finds_flags : (c : Code) (actor : Actor) (place : ℕ) (interleaving : List Stage) (t : Template) → LacksNoFlag c → LeadsTo c actor place interleaving
    → SendsAt c actor place t
    → (flag : ℕ) (value : Bool) → needs flag t value ≡ true → flag_along flag (calls_along interleaving) false ≡ value
finds_flags c actor place interleaving t never leads sends flag true needed =
    value_is (flag_along flag (calls_along interleaving) false) true (λ lacking. never true actor place
    (record { flag = flag; t = t; interleaving = interleaving; sends = sends; leads = leads; needed = needed; lacking = lacking }))
finds_flags c actor place interleaving t never leads sends flag false needed =
    value_is (flag_along flag (calls_along interleaving) false) false (λ lacking. never false actor place
    (record { flag = flag; t = t; interleaving = interleaving; sends = sends; leads = leads; needed = needed; lacking = lacking }))

next_admitted : (c : Code) (actor : Actor) (place : ℕ) (interleaving : List Stage) (t : Template) → LacksNoFlag c → LeadsTo c actor place interleaving
    → SendsAt c actor place t
    → IsAdmitted all_clear (calls_along interleaving) → IsAdmitted all_clear (calls_along interleaving ++ t ∷ [])
next_admitted c actor place interleaving t never leads sends all =
    admitted_end (calls_along interleaving) t all_clear all (finds_flags c actor place interleaving t never leads sends)

-- the same with the class of its reply
stage_admitted : (c : Code) (actor : Actor) (place : ℕ) (interleaving : List Stage) (edge : Edge) → LacksNoFlag c → LeadsTo c actor place interleaving
    → SendsAt c actor place edge.0 → IsAdmitted all_clear (calls_along interleaving) → IsAdmitted all_clear (calls_along (interleaving ++ (actor, edge) ∷ []))
stage_admitted c actor place interleaving edge never leads sends all =
    subst (IsAdmitted all_clear) (sym (map-append (λ (stage : Stage). stage.1.0) interleaving ((actor, edge) ∷ [])))
    (next_admitted c actor place interleaving edge.0 never leads sends all)

pub sends_there : (c : Code) (actor : Actor) (place q : ℕ) (i : Instr) (t : Template) (class : Class)
    → slice_get (instructions_in c actor) place ≡ Some i
    → Sends c.templates i t class q → SendsAt c actor place t
sends_there c actor place q (instr.Send n next) t class at leads = (n, next, at, leads.0)
sends_there c actor place q (instr.Bind v) t class at leads = absurd leads
sends_there c actor place q (instr.Goto target) t class at leads = absurd leads
sends_there c actor place q instr.Halt t class at leads = absurd leads

-- ---- P

p_admitted : (c : Code) → LacksNoFlag c → {p q : ℕ} {edges : List Edge} → IsPath c.templates (instructions_in c actor.P) p edges q
    → (done : List Edge) → LeadsIn c actor.P done p → IsAdmitted all_clear (calls_along (staged actor.P done))
    → IsAdmitted all_clear (calls_along (staged actor.P (done ++ edges)))
p_admitted c never path.stays done here all = subst (λ l. IsAdmitted all_clear (calls_along (staged actor.P l))) (sym (append-nil done)) all
p_admitted c never (path.slides i at leads more) done here all = p_admitted c never more done (path_slides here i at leads) all
p_admitted c never (path.sends {p = p} {q = q} {edges = edges} {template = t} {class = class} i at leads more) done here all =
    let interleaving_is = map-append (λ (edge : Edge). let stage : Stage = (actor.P, edge) in stage) done ((t, class) ∷ []) in
    let sends = sends_there c actor.P p q i t class at leads in
    let grown = stage_admitted c actor.P p (staged actor.P done) (t, class) never (done, here, refl) sends all in
    subst (λ l. IsAdmitted all_clear (calls_along (staged actor.P l))) (append_assoc done ((t, class) ∷ []) edges)
    (p_admitted c never more (done ++ (t, class) ∷ []) (path_sends here i t class at leads)
    (subst (λ l. IsAdmitted all_clear (calls_along l)) (sym interleaving_is) grown))

-- ---- both branches

pub along_a : (c : Code) (p q r : ℕ) (interleaving : List Stage) → LeadsToBoth c p q interleaving → IsPath c.templates (instructions_in c actor.A) p [] r
    → LeadsToBoth c r q interleaving
along_a c p q r interleaving both there = record {
  before = both.before;
  a = both.a;
  b = both.b;
  merged = both.merged;
  complete = both.complete;
  path_a = subst (λ l. LeadsIn c actor.A l r) (append-nil both.a) (path_append both.path_a there);
  path_b = both.path_b;
  merge = both.merge;
  interleaving_is = both.interleaving_is;
}

pub along_b : (c : Code) (p q r : ℕ) (interleaving : List Stage) → LeadsToBoth c p q interleaving → IsPath c.templates (instructions_in c actor.B) q [] r
    → LeadsToBoth c p r interleaving
along_b c p q r interleaving both there = record {
  before = both.before;
  a = both.a;
  b = both.b;
  merged = both.merged;
  complete = both.complete;
  path_a = both.path_a;
  path_b = subst (λ l. LeadsIn c actor.B l r) (append-nil both.b) (path_append both.path_b there);
  merge = both.merge;
  interleaving_is = both.interleaving_is;
}

pub sent_a : (c : Code) (p q r : ℕ) (interleaving : List Stage) (edge : Edge) (i : Instr) → LeadsToBoth c p q interleaving
    → slice_get (instructions_in c actor.A) p ≡ Some i
    → Sends c.templates i edge.0 edge.1 r → LeadsToBoth c r q (interleaving ++ (actor.A, edge) ∷ [])
sent_a c p q r interleaving edge i both at leads = record {
  before = both.before;
  a = both.a ++ edge ∷ [];
  b = both.b;
  merged = both.merged ++ (actor.A, edge) ∷ [];
  complete = both.complete;
  path_a = path_sends both.path_a i edge.0 edge.1 at leads;
  path_b = both.path_b;
  merge =
      subst (λ l. IsMerge l (staged actor.B both.b) (both.merged ++ (actor.A, edge) ∷ []))
      (sym (map-append (λ (edge : Edge). let stage : Stage = (actor.A, edge) in stage) both.a (edge ∷ [])))
      (merge_left_end (actor.A, edge) both.merge);
  interleaving_is = ap (λ l. l ++ (actor.A, edge) ∷ []) both.interleaving_is ∙ append_assoc (staged actor.P both.before) both.merged ((actor.A, edge) ∷ []);
}

pub sent_b : (c : Code) (p q r : ℕ) (interleaving : List Stage) (edge : Edge) (i : Instr) → LeadsToBoth c p q interleaving
    → slice_get (instructions_in c actor.B) q ≡ Some i
    → Sends c.templates i edge.0 edge.1 r → LeadsToBoth c p r (interleaving ++ (actor.B, edge) ∷ [])
sent_b c p q r interleaving edge i both at leads = record {
  before = both.before;
  a = both.a;
  b = both.b ++ edge ∷ [];
  merged = both.merged ++ (actor.B, edge) ∷ [];
  complete = both.complete;
  path_a = both.path_a;
  path_b = path_sends both.path_b i edge.0 edge.1 at leads;
  merge =
      subst (λ l. IsMerge (staged actor.A both.a) l (both.merged ++ (actor.B, edge) ∷ []))
      (sym (map-append (λ (edge : Edge). let stage : Stage = (actor.B, edge) in stage) both.b (edge ∷ [])))
      (merge_right_end (actor.B, edge) both.merge);
  interleaving_is = ap (λ l. l ++ (actor.B, edge) ∷ []) both.interleaving_is ∙ append_assoc (staged actor.P both.before) both.merged ((actor.B, edge) ∷ []);
}

both_admitted : (c : Code) → LacksNoFlag c → (xs ys : List Edge) → {us vs zs : List Stage} → IsMerge us vs zs → staged actor.A xs ≡ us
    → staged actor.B ys ≡ vs
    → (p q p' q' : ℕ) → IsPath c.templates (instructions_in c actor.A) p xs p' → IsPath c.templates (instructions_in c actor.B) q ys q'
    → (interleaving : List Stage) → LeadsToBoth c p q interleaving → IsAdmitted all_clear (calls_along interleaving)
    → IsAdmitted all_clear (calls_along (interleaving ++ zs))
both_admitted c never xs ys none e f p q p' q' path_a path_b interleaving both all =
    subst (λ l. IsAdmitted all_clear (calls_along l)) (sym (append-nil interleaving)) all
both_admitted c never [] ys (left m) e f p q p' q' path_a path_b interleaving both all = absurd (cc)
both_admitted c never (x ∷ xs) ys (left {x = u} {xs = us} {zs = zs} m) e f p q p' q' path_a path_b interleaving both all =
    let begins = path_first c.templates (instructions_in c actor.A) x xs path_a refl in
    let there = along_a c p q begins.sent_at interleaving both begins.slides_there in
    let sends = sends_there c actor.A begins.sent_at begins.led_to begins.i x.0 x.1 begins.at begins.leads in
    let grown = stage_admitted c actor.A begins.sent_at interleaving x never (q, there) sends all in
    let next = sent_a c begins.sent_at q begins.led_to interleaving x begins.i there begins.at begins.leads in
    let others = rest_is (actor.A, x) u (staged actor.A xs) us e in
    let rest = both_admitted c never xs ys m others f begins.led_to q p' q' begins.more path_b _ next grown in
    let order = append_assoc interleaving ((actor.A, x) ∷ []) zs ∙ ap (λ u. interleaving ++ u ∷ zs) (head_is (actor.A, x) u (staged actor.A xs) us e) in
    subst (λ l. IsAdmitted all_clear (calls_along l)) order rest
both_admitted c never xs [] (right m) e f p q p' q' path_a path_b interleaving both all = absurd (cc)
both_admitted c never xs (y ∷ ys) (right {y = v} {ys = vs} {zs = zs} m) e f p q p' q' path_a path_b interleaving both all =
    let begins = path_first c.templates (instructions_in c actor.B) y ys path_b refl in
    let there = along_b c p q begins.sent_at interleaving both begins.slides_there in
    let sends = sends_there c actor.B begins.sent_at begins.led_to begins.i y.0 y.1 begins.at begins.leads in
    let grown = stage_admitted c actor.B begins.sent_at interleaving y never (p, there) sends all in
    let next = sent_b c p begins.sent_at begins.led_to interleaving y begins.i there begins.at begins.leads in
    let others = rest_is (actor.B, y) v (staged actor.B ys) vs f in
    let rest = both_admitted c never xs ys m e others p begins.led_to p' q' path_a begins.more _ next grown in
    let order = append_assoc interleaving ((actor.B, y) ∷ []) zs ∙ ap (λ v. interleaving ++ v ∷ zs) (head_is (actor.B, y) v (staged actor.B ys) vs f) in
    subst (λ l. IsAdmitted all_clear (calls_along l)) order rest

-- ---- every interleaving

interleaving_of_both : (c : Code) → LacksNoFlag c → (p q : ℕ) (interleaving : List Stage) → LeadsToBoth c p q interleaving
    → IsAdmitted all_clear (calls_along interleaving)
interleaving_of_both c never p q interleaving both =
    let begin : LeadsToBoth c 0 0 (staged actor.P both.before) = record {
      before = both.before;
      a = [];
      b = [];
      merged = [];
      complete = both.complete;
      path_a = path.stays;
      path_b = path.stays;
      merge = none;
      interleaving_is = sym (append-nil (staged actor.P both.before));
    } in
    let first = p_admitted c never both.complete.1 [] path.stays tt in
    subst (λ l. IsAdmitted all_clear (calls_along l)) (sym both.interleaving_is)
    (both_admitted c never both.a both.b both.merge refl refl 0 0 p q both.path_a both.path_b (staged actor.P both.before) begin first)

interleaving_admitted : (c : Code) (actor : Actor) (place : ℕ) (interleaving : List Stage) → LacksNoFlag c → LeadsTo c actor place interleaving
    → IsAdmitted all_clear (calls_along interleaving)
interleaving_admitted c actor.P place interleaving never (edges, leads, is) =
    subst (λ l. IsAdmitted all_clear (calls_along l)) (sym is) (p_admitted c never leads [] path.stays tt)
interleaving_admitted c actor.A place interleaving never (other, both) = interleaving_of_both c never place other interleaving both
interleaving_admitted c actor.B place interleaving never (other, both) = interleaving_of_both c never other place interleaving both

-- each call along an interleaving is admitted, and so is the send that it leads to
all_admitted : (c : Code) → LacksNoFlag c → IsAlwaysAdmitted c
all_admitted c never actor place interleaving t leads sends =
    next_admitted c actor place interleaving t never leads sends (interleaving_admitted c actor place interleaving never leads)

sound_lacks_none : (c : Code) → IsSound c → LacksNoFlag c
sound_lacks_none c sound true actor place lack = sound kind.FlagMayBeClear actor place lack
sound_lacks_none c sound false actor place lack = sound kind.FlagMayBeSet actor place lack

pub sound_admitted : SoundIsAdmitted
sound_admitted = record {
  along = λ c actor place interleaving sound leads. interleaving_admitted c actor place interleaving (sound_lacks_none c sound) leads;
  next = λ c actor place interleaving t sound leads sends. all_admitted c (sound_lacks_none c sound) actor place interleaving t leads sends;
}

-- ---- a call that lacks a flag

not_both : (value : Bool) → not value ≡ value → ⊥
not_both true e = absurd (cc)
not_both false e = absurd (cc)

-- the last of the calls that are admitted finds its flags
last_finds : (calls : List Template) (t : Template) (flags : ℕ → Bool) → IsAdmitted flags (calls ++ t ∷ [])
    → (flag : ℕ) (value : Bool) → needs flag t value ≡ true → flag_along flag calls (flags flag) ≡ value
last_finds [] t flags all flag value needed = all.0 flag value needed
last_finds (u ∷ calls) t flags all flag value needed =
    last_finds calls t (λ flag. flag_after flag u (flags flag)) all.1 flag value needed

lack_against : (c : Code) (value : Bool) (actor : Actor) (place : ℕ) (lack : MayLackFlag c value actor place)
    → IsAdmitted all_clear (calls_along lack.interleaving ++ lack.t ∷ []) → ⊥
lack_against c value actor place lack all =
    not_both value (sym lack.lacking ∙ last_finds (calls_along lack.interleaving) lack.t all_clear all lack.flag value lack.needed)

pub lack_not_admitted : LackIsNotAdmitted
lack_not_admitted = record {
  ends = λ c value actor place lack. (lack.interleaving, lack.t, lack.leads, lack.sends, lack_against c value actor place lack);
  none = λ c. (
    all_admitted c,
    λ all value actor place lack. lack_against c value actor place lack (all actor place lack.interleaving lack.t lack.leads lack.sends),
  );
}
