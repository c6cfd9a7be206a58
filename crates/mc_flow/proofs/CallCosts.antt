-- What a call costs is little, and where it is looked up.
use Rattle.std.proofs.Common.{◌≡◌, ⊎_elim, ℕ, ◌<◌, ◌≤◌, ◌==◌, nat_le, true, Some, List, [], ◌++◌, length, codes, decimal}
use Rattle.std.proofs.Common.{slice_get, slice_index_or, lit≤, refl, ap, sym, subst, ◌∙◌, arith, length-append}
use Rattle.std.proofs.lemmas.Bool.{cases_lt, leb-true, eqb-true, and_parts}
use Rattle.std.proofs.lemmas.Option.{same_Some, slice_get-get_or, slice_get-map, slice_get_read, slice_get_within, get_or_from_slice_get}
use Rattle.std.proofs.{lemmas.List.get_or_past, lemmas.List.length-map, lemmas.Fmt.length-decimal-le, lemmas.List.Sums.AllPass-from_list_all}
use Rattle.std.specs.{List.All, List.concat, Option.option_map}
use Rattle.mc_protocol.specs.declared.limits.TheConstants.{KEY_BYTES_LIMIT}
use Rattle.mc_protocol.specs.declared.request.Verb.TheVariants.{Set, Add, Replace, Append, Prepend, Cas, Get, Gets, Incr, Decr, Delete, Touch}
use Rattle.mc_protocol.specs.{Decimals.MAX_32, Decimals.MAX_64, Fields.fields_of, Lines.Word, Names.is_name, Texts.after_key, Texts.request_text}
use Rattle.mc_protocol.specs.{Words.verb_word, declared.request.Fields.Fields, declared.request.Request.Request, declared.request.Verb.Verb}
use Rattle.mc_protocol.specs.declared.request.Fields.TheVariants as fields
use Rattle.mc_script.specs.Templates.{is_nothing, is_variable, is_amount, is_empty, has_fields, IsTemplate}
use Rattle.mc_script.specs.{ScriptWords.is_body, declared.step.Argument.Argument, declared.step.Template.Template}
use Rattle.mc_script.specs.declared.step.Argument.TheVariants as argument
use Rattle.mc_code.specs.{Calls.no_template, Code.Code, Code.IsCode, Requests.request_with}
use Rattle.mc_sound.specs.{Costs.cost_by, Costs.longest_number, Costs.cost_of, declared.cost.Cost.Cost, declared.measure.Measure.Measure}
use Rattle.mc_flow.specs.{CostTables.weights_of, CostTables.AreWeights, declared.weights.Weights.Weights}
use Rattle.mc_sound.specs.declared.measure.Measure.TheVariants as measure

-- ---- texts

digits_few : (n : ℕ) → n ≤ MAX_64 → length (decimal n) ≤ 20
digits_few n small = length-decimal-le 20 n (omega arith) (omega arith) (omega arith)

word_short : (v : Verb) → length (verb_word v) ≤ 7
word_short Set = lit≤ tt
word_short Add = lit≤ tt
word_short Replace = lit≤ tt
word_short Append = lit≤ tt
word_short Prepend = lit≤ tt
word_short Cas = lit≤ tt
word_short Get = lit≤ tt
word_short Gets = lit≤ tt
word_short Incr = lit≤ tt
word_short Decr = lit≤ tt
word_short Delete = lit≤ tt
word_short Touch = lit≤ tt

-- what a call has after its key is short
pub record IsShort (r : Request) : Type 0 where
  pub key : length r.key ≤ 40
  pub flags : r.flags ≤ MAX_64
  pub body : length r.body ≤ 64
  pub number : r.number ≤ MAX_64

fields_short : (f : Fields) (r : Request) → IsShort r → length (concat (after_key f r)) ≤ 200
fields_short fields.KeyAlone r short = lit≤ tt
fields_short fields.Expiry r short = lit≤ tt
fields_short fields.Item r short =
    let flags = digits_few r.flags short.flags in
    let size = digits_few (length r.body) (omega (arith, short.body)) in
    simp length-append (omega (arith, short.body))
fields_short fields.Swap r short =
    let flags = digits_few r.flags short.flags in
    let size = digits_few (length r.body) (omega (arith, short.body)) in
    let number = digits_few r.number short.number in
    simp length-append (omega (arith, short.body))
fields_short fields.Amount r short = let number = digits_few r.number short.number in simp length-append (omega arith)

text_short : (r : Request) → IsShort r → length (request_text r) ≤ 1000
text_short r short =
    let after = fields_short (fields_of r.verb) r short in
    let word = word_short r.verb in
    let word_then = length-append (verb_word r.verb) (codes " " ++ (r.key ++ concat (after_key (fields_of r.verb) r))) in
    let space_then = length-append (codes " ") (r.key ++ concat (after_key (fields_of r.verb) r)) in
    let key_then = length-append r.key (concat (after_key (fields_of r.verb) r)) in
    omega (arith, short.key, word_then, space_then, key_then)

-- ---- templates

body_few : (body : List ℕ) → is_body body ≡ true → length body ≤ 64
body_few body e = leb-true _ _ (and_parts _ _ e).0

empty_few : (body : List ℕ) → (length body == 0) ≡ true → length body ≤ 64
empty_few body e = let none = eqb-true _ _ e in omega arith

nothing_small : (a : Argument) → is_nothing a ≡ true → longest_number a ≤ MAX_64
nothing_small argument.Nothing e = lit≤ tt
nothing_small (argument.Number n) e = absurd (cc)
nothing_small (argument.Variable v) e = absurd (cc)

variable_small : (vars : ℕ) (a : Argument) → is_variable vars a ≡ true → longest_number a ≤ MAX_64
variable_small vars argument.Nothing e = absurd (cc)
variable_small vars (argument.Number n) e = absurd (cc)
variable_small vars (argument.Variable v) e = lit≤ tt

amount_small : (vars : ℕ) (a : Argument) → is_amount vars a ≡ true → longest_number a ≤ MAX_64
amount_small vars argument.Nothing e = absurd (cc)
amount_small vars (argument.Number n) e = leb-true n MAX_64 e
amount_small vars (argument.Variable v) e = lit≤ tt

-- the flags, the number and the body that the fields of a verb may have
abbrev AreShort : ℕ → Argument → List ℕ → Type 0
AreShort flags a body = (flags ≤ MAX_64) × (longest_number a ≤ MAX_64) × (length body ≤ 64)

no_flags : (flags : ℕ) → (flags == 0) ≡ true → flags ≤ MAX_64
no_flags flags e = let none = eqb-true _ _ e in omega arith

few_flags : (flags : ℕ) → nat_le flags MAX_32 ≡ true → flags ≤ MAX_64
few_flags flags e = let few = leb-true _ _ e in omega arith

template_short : (vars : ℕ) (f : Fields) (flags : ℕ) (a : Argument) (body : List ℕ) → has_fields vars f flags a body ≡ true
    → AreShort flags a body
template_short vars fields.KeyAlone flags a body e =
    let p = and_parts _ (is_empty body) e in let q = and_parts _ (is_nothing a) p.0 in
    (no_flags flags q.0, nothing_small a q.1, empty_few body p.1)
template_short vars fields.Expiry flags a body e =
    let p = and_parts _ (is_empty body) e in let q = and_parts _ (is_nothing a) p.0 in
    (no_flags flags q.0, nothing_small a q.1, empty_few body p.1)
template_short vars fields.Item flags a body e =
    let p = and_parts _ (is_body body) e in let q = and_parts _ (is_nothing a) p.0 in
    (few_flags flags q.0, nothing_small a q.1, body_few body p.1)
template_short vars fields.Swap flags a body e =
    let p = and_parts _ (is_body body) e in let q = and_parts _ (is_variable vars a) p.0 in
    (few_flags flags q.0, variable_small vars a q.1, body_few body p.1)
template_short vars fields.Amount flags a body e =
    let p = and_parts _ (is_empty body) e in let q = and_parts _ (is_amount vars a) p.0 in
    (no_flags flags q.0, amount_small vars a q.1, empty_few body p.1)

-- ---- costs

all_at : {A : Type 0} (P : A → Type 0) (xs : List A) (n : ℕ) (x : A) → All P xs → slice_get xs n ≡ Some x → P x
all_at P xs n x all at = subst P (get_or_from_slice_get xs n x x at) (all n x (slice_get_within xs n x at))

past_short : (keys : List Word) (index : ℕ) → length keys ≤ index → length (slice_index_or keys index []) ≤ 40
past_short keys index past = let none = ap length (get_or_past keys index [] past) in omega arith

-- the key of a code, and an empty one where there is none
key_short : (c : Code) (index : ℕ) → IsCode c → length (slice_index_or c.keys index []) ≤ 40
key_short c index is =
    let p = and_parts _ _ (and_parts _ _ is.keys).0 in
    let each = AllPass-from_list_all (is_name KEY_BYTES_LIMIT) c.keys p.1 in
    ⊎_elim
    (λ inside. leb-true _ _ (and_parts _ _ (and_parts _ _ (each index [] inside)).0).1)
    (past_short c.keys index)
    (cases_lt index (length c.keys))

call_short : (c : Code) (n : ℕ) (t : Template) → IsCode c → slice_get c.templates n ≡ Some t
    → IsShort (request_with t (slice_index_or c.keys t.key []) (longest_number t.argument))
call_short c n t is at =
    let template : IsTemplate (length c.keys) c.flags c.vars t =
    all_at (IsTemplate (length c.keys) c.flags c.vars) c.templates n t is.templates at in
    let short = template_short c.vars (fields_of t.verb) t.flags t.argument t.body template.fields in
    record { key = key_short c t.key is; flags = short.0; body = short.2; number = short.1 }

-- no call costs much
pub cost_small : (c : Code) (measure : Measure) (n : ℕ) (t : Template) → IsCode c → slice_get c.templates n ≡ Some t
    → cost_of c measure t ≤ 1000
cost_small c measure.Requests n t is at = lit≤ tt
cost_small c measure.Bytes n t is at = text_short _ (call_short c n t is at)

-- ---- look-ups

-- what the call of the template with this index costs
pub weight_at : (c : Code) (measure : Measure) (n : ℕ) (t : Template) → slice_get c.templates n ≡ Some t
    → slice_get (weights_of c measure) n ≡ Some (cost_of c measure t)
weight_at c measure n t at = slice_get-map (cost_of c measure) c.templates n ∙ ap (option_map (cost_of c measure)) at

pub weight_is : (c : Code) (weights : Weights) (n : ℕ) (weight : Cost) (t : Template) → AreWeights c weights → slice_get c.templates n ≡ Some t
    → weight.requests ≡ 1 → slice_get weights.bytes.items n ≡ Some weight.bytes → (measure : Measure) → cost_by measure weight ≡ cost_of c measure t
weight_is c weights n weight t are named one at measure.Requests = one
weight_is c weights n weight t are named one at measure.Bytes =
    same_Some _ _ (sym at ∙ ap (λ l. slice_get l n) are ∙ weight_at c measure.Bytes n t named)

-- there are as many weights as templates
weights_many : (c : Code) (weights : Weights) → AreWeights c weights → length weights.bytes.items ≡ length c.templates
weights_many c weights are = ap length are ∙ length-map c.templates (cost_of c measure.Bytes)

-- a weight is what the call of a template costs
pub weight_named : (c : Code) (weights : Weights) (n : ℕ) (weight : Cost) → AreWeights c weights → weight.requests ≡ 1
    → slice_get weights.bytes.items n ≡ Some weight.bytes
    → (t : Template) × (slice_get c.templates n ≡ Some t) × ((measure : Measure) → cost_by measure weight ≡ cost_of c measure t)
weight_named c weights n weight are one at =
    let many = weights_many c weights are in
    let inside = slice_get_within weights.bytes.items n weight.bytes at in
    let t = slice_index_or c.templates n no_template in
    let named : slice_get c.templates n ≡ Some t = slice_get-get_or c.templates n no_template (omega (arith, inside, many)) in
    (t, named, weight_is c weights n weight t are named one at)

-- each template has a weight
pub weight_inside : (c : Code) (weights : Weights) (n : ℕ) → AreWeights c weights → n < length c.templates → n < length weights.bytes.items
weight_inside c weights n are inside = let many = weights_many c weights are in omega (arith, inside, many)

-- ---- lengths

-- the key that is read at a call's index is its key
pub key_read : (c : Code) (n : ℕ) (t : Template) (keys : List Word) (index : ℕ) (key slice : Word) → IsCode c → slice_get c.templates n ≡ Some t
    → keys ≡ c.keys → index ≡ t.key → key ≡ slice_index_or keys index key → slice ≡ key → slice_get c.keys t.key ≡ Some slice
key_read c n t keys index key slice is at keys_are index_is key_is slice_is =
    let template : IsTemplate (length c.keys) c.flags c.vars t =
    all_at (IsTemplate (length c.keys) c.flags c.vars) c.templates n t is.templates at in
    let read = key_is ∙ ap (λ keys. slice_index_or keys index key) keys_are ∙ ap (λ index. slice_index_or c.keys index key) index_is in
    slice_get_read c.keys (length c.keys) t.key key refl template.key read ∙ ap (λ key. Some key) (sym slice_is)

-- what is known of the text of a call with its longest number
pub record IsSized (c : Code) (n : ℕ) (key : Word) (size : ℕ) : Type 0 where
  pub key_short : length key ≤ 250
  pub small : size ≤ 1000
  pub weight : slice_get (weights_of c measure.Bytes) n ≡ Some size

pub text_sized : (c : Code) (n : ℕ) (t : Template) (key : Word) (size : ℕ) → IsCode c → slice_get c.templates n ≡ Some t
    → slice_get c.keys t.key ≡ Some key → size ≡ length (request_text (request_with t key (longest_number t.argument))) → IsSized c n key size
text_sized c n t key size is at declared size_is =
    let key_is : slice_index_or c.keys t.key [] ≡ key = get_or_from_slice_get c.keys t.key key [] declared in
    let short = call_short c n t is at in
    let text = ap (λ key. length (request_text (request_with t key (longest_number t.argument)))) key_is in
    let few = text_short _ short in
    record {
      key_short = let keys = short.key in let same = ap length key_is in omega (arith, keys, same);
      small = omega (arith, few, text, size_is);
      weight = weight_at c measure.Bytes n t at ∙ ap (λ size. Some size) (text ∙ sym size_is);
    }
