-- The next call of a section of a right world is a request that its history may have: its words, its key, and a number that was shown.
use Rattle.std.proofs.Common.{◌≡◌, ◌⊎◌, inl, inr, ℕ, ◌+◌, ◌<◌, ◌≤◌, ◌==◌, nat_le, Bool, true, false, cond, ◌&&◌, ◌||◌, bytes_eq, Some, List, [], ◌∷◌, ◌++◌}
use Rattle.std.proofs.Common.{length, map, slice_get, slice_index_or, refl, ap, sym, subst, ◌∙◌, arith, zero, suc, not, replicate, if◌then◌else◌}
use Rattle.std.proofs.lemmas.Bool.{cases_lt, and_parts, or_left, or_right, eqb-true, leb-true, le-leb}
use Rattle.std.proofs.{lemmas.Cmp.nat_list_cmp_total, lemmas.List.Sums.AllPass-from_list_all, lemmas.Slice.Eq.bytes_eq-Decides}
use Rattle.std.specs.{Cmp.Lexicographic.slice_cmp, List.AllPass, List.list_all, List.list_any, Ordering.nat_cmp}
use Rattle.std.specs.FinSet as set
use Rattle.mc_protocol.specs.declared.limits.TheConstants.{KEYS_LIMIT, KEY_BYTES_LIMIT, REPLY_BODY_LIMIT, SCRIPT_BODY_LIMIT}
use Rattle.mc_protocol.specs.{Decimals.MAX_32, Fields.fields_of, Names.is_name, Names.is_key, declared.actor.Actor.Actor, declared.reply.Reply.Reply}
use Rattle.mc_protocol.specs.{declared.request.Fields.Fields, declared.request.Verb.Verb}
use Rattle.mc_protocol.specs.declared.actor.Actor.TheVariants as actor
use Rattle.mc_protocol.specs.declared.request.Fields.TheVariants as fields
use Rattle.mc_protocol.specs.declared.request.Verb.TheVariants as verb
use Rattle.mc_script.specs.Templates.{is_nothing, is_variable, is_amount, has_fields, IsTemplate}
use Rattle.mc_script.specs.{ScriptWords.is_body, ScriptWords.are_body_bytes, declared.step.Argument.Argument, declared.step.Template.Template}
use Rattle.mc_script.specs.declared.step.Argument.TheVariants as argument
use Rattle.mc_code.specs.Calls.{IsCalling, exchange_of, template_of, no_template}
use Rattle.mc_code.specs.States.{Tagged, call, with_argument, send_outcome, nothing, State, initial_state, wrong_kind, call_with, wanted_by, is_same}
use Rattle.mc_code.specs.{Code.Code, Code.IsCode, Code.instructions_in, NumberLaws.Shows, NumberLaws.IsShownIn, NumberLaws.Holds, Runs.Exchange}
use Rattle.mc_code.specs.{Standing.BeginsAfter, Standing.Leaves, Standing.StandsAt, Standing.no_variables, declared.instr.Call.Call}
use Rattle.mc_code.specs.declared.kind.Kind.TheVariants as kind
use Rattle.mc_code.proofs.{LookUps.some_is, Shown.numbers_were_shown}
use Rattle.mc_model.specs.History.{has_words, lacks_the_others, has_key, shows, shows_number, is_gets, is_cas, is_seen}
use Rattle.mc_model.specs.declared.sent.Sent.{Sent}
use Rattle.mc_model.proofs.Keys.{key_set}
use Rattle.mc_core.specs.{Histories.sent_of, Histories.unanswered, Histories.sent_in, Logs.request_of, Logs.Log, Logs.exchanges_in}
use Rattle.mc_core.proofs.{Clearing.FrontClears, LogLemmas.call_inside, LogLemmas.call_sent}

-- ---- words

fields_kept : (f : Fields) (v : Verb) (key : List ℕ) (vars flags number : ℕ) (a : Argument) (body : List ℕ)
    → has_fields vars f flags a body ≡ true → (is_nothing a ≡ true → number ≡ 0)
    → (nat_le (length body) REPLY_BODY_LIMIT ≡ true)
    × (lacks_the_others f (record { verb = v; key = key; flags = flags; body = body; number = number }) ≡ true)
fields_kept fields.Item v key vars flags number a body e zero_is =
    let all = and_parts (nat_le flags MAX_32 && is_nothing a) (is_body body) e in
    let two = and_parts (nat_le flags MAX_32) (is_nothing a) all.0 in
    let few = leb-true (length body) SCRIPT_BODY_LIMIT (and_parts (nat_le (length body) SCRIPT_BODY_LIMIT) (are_body_bytes body) all.1).0 in
    (le-leb (length body) REPLY_BODY_LIMIT (omega (arith, few)), rw (zero_is two.1) refl)
fields_kept fields.Swap v key vars flags number a body e zero_is =
    let all = and_parts (nat_le flags MAX_32 && is_variable vars a) (is_body body) e in
    let few = leb-true (length body) SCRIPT_BODY_LIMIT (and_parts (nat_le (length body) SCRIPT_BODY_LIMIT) (are_body_bytes body) all.1).0 in
    (le-leb (length body) REPLY_BODY_LIMIT (omega (arith, few)), refl)
fields_kept fields.Amount v key vars flags number a body e zero_is =
    let all = and_parts (flags == 0 && is_amount vars a) (length body == 0) e in
    let two = and_parts (flags == 0) (is_amount vars a) all.0 in
    let none = eqb-true (length body) 0 all.1 in
    (le-leb (length body) REPLY_BODY_LIMIT (omega (arith, none)), rw (two.0, all.1) refl)
fields_kept _ v key vars flags number a body e zero_is =
    let all = and_parts (flags == 0 && is_nothing a) (length body == 0) e in
    let two = and_parts (flags == 0) (is_nothing a) all.0 in
    let none = eqb-true (length body) 0 all.1 in
    (le-leb (length body) REPLY_BODY_LIMIT (omega (arith, none)), rw (two.0, all.1, zero_is two.1) refl)

-- the key at an index is one that a text may have
key_kept : (c : Code) (index : ℕ) → IsCode c → index < length c.keys → is_key (slice_index_or c.keys index []) ≡ true
key_kept c index kept inside =
    let all = and_parts (nat_le (length c.keys) KEYS_LIMIT && list_all (is_name KEY_BYTES_LIMIT) c.keys) _ kept.keys in
    let two = and_parts (nat_le (length c.keys) KEYS_LIMIT) (list_all (is_name KEY_BYTES_LIMIT) c.keys) all.0 in
    let each : AllPass (is_name KEY_BYTES_LIMIT) c.keys = AllPass-from_list_all (is_name KEY_BYTES_LIMIT) c.keys two.1 in
    each index [] inside

-- ---- what is known of a call

number_zero : (t u : Template) (a : Argument) (variables : List Tagged) (n : ℕ) → with_argument t a variables ≡ call u n
    → is_nothing a ≡ true → n ≡ 0
number_zero t u argument.Nothing variables n e none = cc
number_zero t u _ variables n e none = absurd (cc)

pub call_made : (c : Code) (who : Actor) (variables : List Tagged) (exchanges : List Exchange) (made : Call) → IsCode c
    → (calling : IsCalling c who variables exchanges made)
    → IsTemplate (length c.keys) c.flags c.vars (template_of c made) × (send_outcome (template_of c made) calling.st ≡ call (template_of c made) made.number)
call_made c who variables exchanges made kept calling = (
  kept.templates made.template no_template (call_inside c who variables exchanges made calling),
  call_sent c who variables exchanges made calling,
)

pub request_words : (c : Code) (who : Actor) (variables : List Tagged) (exchanges : List Exchange) (made : Call) → IsCode c
    → IsCalling c who variables exchanges made → has_words (request_of c made) ≡ true
request_words c who variables exchanges made kept calling =
    let t = template_of c made in
    let is = call_made c who variables exchanges made kept calling in
    let key = key_kept c t.key kept is.0.key in
    let fields = fields_kept (fields_of t.verb) t.verb (slice_index_or c.keys t.key []) c.vars t.flags made.number t.argument t.body is.0.fields
    (number_zero t t t.argument calling.st.variables made.number is.1) in
    rw (key, fields.0, fields.1) refl

-- ---- keys

same_bytes : (x y : List ℕ) → x ≡ y → bytes_eq x y ≡ true
same_bytes x y e = (bytes_eq-Decides x y).1 e

-- the keys that P's calls have deleted
pub key_there : (c : Code) (k j : ℕ) (pairs : List (Call × Reply)) (more : List Sent) → FrontClears c k pairs → k ≤ j → j < k + length pairs
    → j < length c.keys → has_key (slice_index_or c.keys j []) (map (sent_of c) pairs ++ more) ≡ true
key_there c k j [] more front least inside declared = absurd (omega (arith, least, inside))
key_there c k j ((made, reply) ∷ pairs) more front least inside declared =
    by_place (cases_lt k j) (λ later. key_there c (k + 1) j pairs more front.1 (omega (arith, later)) (omega (arith, inside)) declared)
  where
    key : List ℕ
    key = slice_index_or c.keys j []

    rest : Bool
    rest = has_key key (map (sent_of c) pairs ++ more)

    by_place : (k < j) ⊎ (j ≤ k) → (k < j → rest ≡ true) → (bytes_eq (slice_index_or c.keys (template_of c made).key []) key || rest) ≡ true
    by_place (inl later) in_rest = or_right (bytes_eq (slice_index_or c.keys (template_of c made).key []) key) rest (in_rest later)
    by_place (inr here) in_rest =
        let same : k ≡ j = omega (arith, least, here) in
        let clearing = front.0 (omega (arith, same, declared)) in
        let equal = same_bytes (slice_index_or c.keys (template_of c made).key []) key (ap (λ i. slice_index_or c.keys i []) (clearing.key_is ∙ same)) in
        or_left (bytes_eq (slice_index_or c.keys (template_of c made).key []) key) rest equal

pub few_keys : (xs : List Sent) → set.len (key_set xs) ≤ length xs
few_keys [] = let none = set.len-empty (slice_cmp nat_cmp) in omega (arith, none)
few_keys (x ∷ xs) =
    let rest = few_keys xs in
    let grown = set.len-insert nat_list_cmp_total (key_set xs) x.request.key in
    by_test (set.contains (key_set xs) x.request.key) rest grown
  where
    by_test : (b : Bool) → set.len (key_set xs) ≤ length xs
        → set.len (set.insert (key_set xs) x.request.key) ≡ cond b (set.len (key_set xs)) (set.len (key_set xs) + 1)
        → set.len (key_set (x ∷ xs)) ≤ length (x ∷ xs)
    by_test true rest grown = omega (arith, rest, grown)
    by_test false rest grown = omega (arith, rest, grown)

-- ---- numbers

gets_shown : (c : Code) (key number : ℕ) (made : Call) (reply : Reply) → Shows key number (exchange_of c (made, reply))
    → shows (slice_index_or c.keys key []) number (sent_of c (made, reply)) ≡ true
gets_shown c key number made given (flags, body, gets, same, is) =
    let equal = same_bytes (slice_index_or c.keys (template_of c made).key []) (slice_index_or c.keys key []) (ap (λ i. slice_index_or c.keys i []) same) in
    let shown : shows_number number (Some given) ≡ true = ap (λ r. shows_number number (Some r)) is ∙ eqb_refl number in
    ap (λ v. is_gets v && bytes_eq (slice_index_or c.keys (template_of c made).key []) (slice_index_or c.keys key []) && shows_number number (Some given)) gets
    ∙ ap (λ b. b && shows_number number (Some given)) equal
    ∙ shown
  where
    eqb_refl : (n : ℕ) → (n == n) ≡ true
    eqb_refl n = grind arith

pub shown_any : (c : Code) (key number : ℕ) (pairs : List (Call × Reply)) (more : List Sent)
    → IsShownIn key number (map (exchange_of c) pairs)
    → list_any (shows (slice_index_or c.keys key []) number) (map (sent_of c) pairs ++ more) ≡ true
shown_any c key number [] more shown = absurd shown
shown_any c key number ((made, given) ∷ pairs) more (inl here) =
    or_left (shows (slice_index_or c.keys key []) number (sent_of c (made, given))) _ (gets_shown c key number made given here)
shown_any c key number ((made, given) ∷ pairs) more (inr later) =
    or_right (shows (slice_index_or c.keys key []) number (sent_of c (made, given))) _ (shown_any c key number pairs more later)

-- ---- the variable of a cas

unbound_is_no_cas : (key n : ℕ) → nothing ≡ (kind.Cas key, n) → ⊥
unbound_is_no_cas key n e = let kinds : kind.Unbound ≡ kind.Cas key = ap (λ (x : Tagged). x.0) e in absurd (cc)

there_is : (xs : List Tagged) (v key n : ℕ) → slice_index_or xs v nothing ≡ (kind.Cas key, n) → slice_get xs v ≡ Some (kind.Cas key, n)
there_is [] v key n e = absurd (unbound_is_no_cas key n e)
there_is (x ∷ xs) zero key n e = ap Some e
there_is (x ∷ xs) (suc v) key n e = there_is xs v key n e

number_is : (t : Template) (m n : ℕ) → call t m ≡ call t n → m ≡ n
number_is t m n e = cc

held_by : (t : Template) (x : Tagged) (n : ℕ) → t.verb ≡ verb.Cas → call_with t x ≡ call t n → x ≡ (kind.Cas t.key, n)
held_by t (kind.Unbound, m) n cas e = absurd (cc)
held_by t (kind.Cas key, m) n cas e =
    by_kind (key == t.key) refl (ap (λ v. if is_same (kind.Cas key) (wanted_by v t.key) then call t m else wrong_kind t) (sym cas) ∙ e)
  where
    by_kind : (b : Bool) → (key == t.key) ≡ b → (if b then call t m else wrong_kind t) ≡ call t n
        → (let x : Tagged = (kind.Cas key, m) in x) ≡ (kind.Cas t.key, n)
    by_kind true same e =
        ap (λ k. let x : Tagged = (kind.Cas k, m) in x) (eqb-true key t.key same)
        ∙ ap (λ n. let x : Tagged = (kind.Cas t.key, n) in x) (number_is t m n e)
    by_kind false same e = absurd (cc)
held_by t (kind.Num, m) n cas e =
    let wrong : wrong_kind t ≡ call t n = ap (λ v. if is_same kind.Num (wanted_by v t.key) then call t m else wrong_kind t) (sym cas) ∙ e in
    absurd (cc)

cas_fields : (vars flags : ℕ) (a : Argument) (body : List ℕ) → has_fields vars (fields_of verb.Cas) flags a body ≡ true
    → is_variable vars a ≡ true
cas_fields vars flags a body e =
    (and_parts (nat_le flags MAX_32) (is_variable vars a) (and_parts (nat_le flags MAX_32 && is_variable vars a) (is_body body) e).0).1

-- the variable that a cas takes holds its cas unique
variable_holds : (vars : ℕ) (t : Template) (a : Argument) (st : State) (n : ℕ) → is_variable vars a ≡ true → t.verb ≡ verb.Cas
    → with_argument t a st.variables ≡ call t n → (v : ℕ) × Holds st v t.key n
variable_holds vars t (argument.Variable v) st n is cas e =
    (v, there_is st.variables v t.key n (held_by t (slice_index_or st.variables v nothing) n cas e))
variable_holds vars t _ st n is cas e = absurd (cc)

-- ---- where it was shown

none_held : (n v key number : ℕ) → slice_get (replicate n nothing) v ≡ Some (kind.Cas key, number) → ⊥
none_held zero v key number e = absurd (cc)
none_held (suc n) zero key number e = unbound_is_no_cas key number (some_is _ _ e)
none_held (suc n) (suc v) key number e = none_held n v key number e

-- shown along the section, or before it
shown_on : (c : Code) (who : Actor) (variables : List Tagged) (exchanges : List Exchange) (p v key n : ℕ) (st : State)
    → StandsAt c who variables exchanges p st → Holds st v key n
    → Holds (initial_state variables) v key n ⊎ IsShownIn key n exchanges
shown_on c who variables exchanges p v key n st stands holds =
    by_law (numbers_were_shown c.templates (instructions_in c who) 0 p (initial_state variables) st exchanges v key n stands holds)
  where
    by_law : Holds (initial_state variables) v key n ⊎ ((nothing ≡ (kind.Cas key, n)) ⊎ IsShownIn key n exchanges)
        → Holds (initial_state variables) v key n ⊎ IsShownIn key n exchanges
    by_law (inl first) = inl first
    by_law (inr (inl last)) = absurd (unbound_is_no_cas key n last)
    by_law (inr (inr shown)) = inr shown

-- what P leaves was shown in P
shown_in_p : (c : Code) (before : List Exchange) (variables : List Tagged) (v key n : ℕ) → Leaves c before variables
    → Holds (initial_state variables) v key n → IsShownIn key n before
shown_in_p c before variables v key n (st, (p, stands, met), is) holds =
    let at_end : Holds st v key n = subst (λ vs. slice_get vs v ≡ Some (kind.Cas key, n)) is holds in
    by_law (shown_on c actor.P (no_variables c) before p v key n st stands at_end)
  where
    by_law : Holds (initial_state (no_variables c)) v key n ⊎ IsShownIn key n before → IsShownIn key n before
    by_law (inl first) = absurd (none_held c.vars v key n first)
    by_law (inr shown) = shown

begins_shown : (c : Code) (before : List Exchange) (who : Actor) (variables : List Tagged) (v key n : ℕ)
    → BeginsAfter c before who variables
    → Holds (initial_state variables) v key n → IsShownIn key n before
begins_shown c before actor.P variables v key n begins holds =
    absurd (none_held c.vars v key n (subst (λ vs. slice_get vs v ≡ Some (kind.Cas key, n)) begins holds))
begins_shown c before _ variables v key n begins holds = shown_in_p c before variables v key n begins holds

is_cas_verb : (v : Verb) → is_cas v ≡ true → v ≡ verb.Cas
is_cas_verb verb.Cas e = refl
is_cas_verb _ e = absurd (cc)

-- the number of the next call was shown in P, or in the section
pub next_seen : (c : Code) (who : Actor) (of_p log : Log) (variables : List Tagged) (made : Call) → IsCode c
    → BeginsAfter c (exchanges_in c of_p) who variables → IsCalling c who variables (exchanges_in c log) made
    → (is_seen (sent_in c of_p) (unanswered c made) || is_seen (sent_in c log) (unanswered c made)) ≡ true
next_seen c who of_p log variables made kept begins calling = by_verb (is_cas t.verb) refl
  where
    t : Template
    t = template_of c made

    key : List ℕ
    key = slice_index_or c.keys t.key []

    shown_by : Log → Bool
    shown_by l = list_any (shows key made.number) (sent_in c l)

    by_verb : (b : Bool) → is_cas t.verb ≡ b → ((not b || shown_by of_p) || (not b || shown_by log)) ≡ true
    by_verb false other = refl
    by_verb true cas =
        let is = call_made c who variables (exchanges_in c log) made kept calling in
        let verb_is = is_cas_verb t.verb cas in
        let variable = cas_fields c.vars t.flags t.argument t.body
        (ap (λ v. has_fields c.vars (fields_of v) t.flags t.argument t.body) (sym verb_is) ∙ is.0.fields) in
        let holds = variable_holds c.vars t t.argument calling.st made.number variable verb_is is.1 in
        by_place holds.0 (shown_on c who variables (exchanges_in c log) calling.p holds.0 t.key made.number calling.st calling.stands holds.1)
      where
        by_place : (v : ℕ) → Holds (initial_state variables) v t.key made.number ⊎ IsShownIn t.key made.number (exchanges_in c log)
            → (shown_by of_p || shown_by log) ≡ true
        by_place v (inl first) =
            let shown = begins_shown c (exchanges_in c of_p) who variables v t.key made.number begins first in
            or_left (shown_by of_p) (shown_by log) (shown_any c t.key made.number of_p.answered _ shown)
        by_place v (inr shown) = or_right (shown_by of_p) (shown_by log) (shown_any c t.key made.number log.answered _ shown)
