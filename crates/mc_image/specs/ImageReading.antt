-- What the reader of images answers, field by field. No public contract cites these: `Image` says what an image is, and
-- the proofs join the two.
use Rattle.std.specs.Prelude.{◌≡◌, ◌≢◌, ℕ, zero, suc, ◌^◌, ◌==◌, nat_le, nat_lt, Bool, ◌&&◌, Option, Some, None, Result}
use Rattle.std.specs.Prelude.{Ok, Err, List, [], ◌∷◌, ◌++◌, length, take, drop, slice_get, if◌then◌else◌}
use Rattle.std.specs.{Int.Width, Int.w16, Int.w32, Int.w64, Int.byte_len, Int.from_be_bytes, Int.Bits.bit_and, Str.bytes_eq}
use Rattle.mc_protocol.specs.declared.sections.Sections.{Sections}
use Rattle.mc_protocol.specs.declared.limits.TheConstants.{KEYS_LIMIT, KEY_BYTES_LIMIT, REQUESTS_LIMIT}
use Rattle.mc_protocol.specs.declared.limits.TheConstants.{REQUEST_BYTES_LIMIT, SCRIPT_BODY_LIMIT}
use Rattle.mc_protocol.specs.{Fields.fields_of, declared.request.Verb.Verb, Names.is_new, Names.is_name, Lines.Word, Words.all_verbs}
use Rattle.mc_script.specs.declared.limits.TheConstants.{VARIABLES_LIMIT}
use Rattle.mc_script.specs.Chains.{◌>>=◌}
use Rattle.mc_script.specs.{declared.section.Budget.Budget, declared.step.Argument.Argument, declared.step.Template.Template}
use Rattle.mc_script.specs.{declared.version.Version.Version, Versions.flags_limit, Versions.steps_limit, Templates.has_fields}
use Rattle.mc_script.specs.declared.step.Argument.TheVariants as argument
use Rattle.mc_script.specs.declared.version.Version.TheVariants as version
use Rattle.mc_image.specs.{declared.fault.ImageFault.ImageFault, declared.read_template.Masks.Masks, Image.magic, Image.mask_width}
use Rattle.mc_image.specs.declared.fault.ImageKind.TheVariants as kind
use Rattle.mc_code.specs.declared.limits.TheConstants.{TEMPLATES_LIMIT, CLASS_COUNT}
use Rattle.mc_code.specs.{declared.instr.Instr.Instr, Code.Section, Code.Code}
use Rattle.mc_code.specs.declared.instr.Instr.TheVariants as instr

-- the result, seen through `view`, is what is read; the call takes no memory
abbrev pub Reads : {X Y : Type 0} → (X → Y) → Result X ImageFault → Option Y → Type 0
Reads view (Ok x) read = read ≡ Some (view x)
Reads view (Err fault) read = (read ≡ None) × (fault.kind ≢ kind.OutOfMemory)

-- the same, or memory ran out: that fault has the offset 0
abbrev pub Says : {X Y : Type 0} → (X → Y) → Result X ImageFault → Option Y → Type 0
Says view (Ok x) read = read ≡ Some (view x)
Says view (Err fault) read = (fault.kind ≢ kind.OutOfMemory → read ≡ None) × (fault.kind ≡ kind.OutOfMemory → fault.offset ≡ 0)

-- a value, and the bytes after it
abbrev pub Field : Type 0 → Type 0
Field A = Option (A × List ℕ)

-- ---- bytes and numbers

unfoldable pub bytes_in : ℕ → List ℕ → Field (List ℕ)
bytes_in n bytes = if nat_lt (length bytes) n then None else Some (take n bytes, drop n bytes)

unfoldable pub byte_in : List ℕ → Field ℕ
byte_in [] = None
byte_in (byte ∷ rest) = Some (byte, rest)

unfoldable pub number_in : Width → List ℕ → Field ℕ
number_in width bytes = bytes_in (byte_len width) bytes >>= λ b. Some (from_be_bytes width b.0, b.1)

-- a byte from the least to the greatest number
unfoldable pub small_in : ℕ → ℕ → List ℕ → Field ℕ
small_in least greatest bytes = byte_in bytes >>= λ n. if nat_le least n.0 && nat_le n.0 greatest then Some n else None

-- how many bytes there are, from the least to the greatest number, and the bytes
unfoldable pub sized_in : ℕ → ℕ → List ℕ → Field (List ℕ)
sized_in least greatest bytes = small_in least greatest bytes >>= λ n. bytes_in n.0 n.1

-- ---- lists

-- `n` more items, after `items`
unfoldable pub items_in : {A : Type 0} → (List A → List ℕ → Field A) → ℕ → List A → List ℕ → Field (List A)
items_in item_in zero items bytes = Some (items, bytes)
items_in item_in (suc n) items bytes = item_in items bytes >>= λ x. items_in item_in n (items ++ x.0 ∷ []) x.1

-- how many there are, from the least to the greatest number, and each of them
abbrev pub counted_in : {A : Type 0} → ℕ → ℕ → (List A → List ℕ → Field A) → List ℕ → Field (List A)
counted_in least greatest item_in bytes = small_in least greatest bytes >>= λ n. items_in item_in n.0 [] n.1

-- ---- keys

-- a key after these
unfoldable pub key_in : List Word → List ℕ → Field Word
key_in keys bytes =
    small_in 1 KEY_BYTES_LIMIT bytes >>= λ n. bytes_in n.0 n.1
    >>= λ k. if is_name KEY_BYTES_LIMIT k.0 && is_new keys k.0 then Some k else None

unfoldable pub keys_in : List ℕ → Field (List Word)
keys_in bytes = counted_in 1 KEYS_LIMIT key_in bytes

-- ---- budgets

unfoldable pub budget_in : List ℕ → Field Budget
budget_in bytes =
    small_in 0 REQUESTS_LIMIT bytes >>= λ r. number_in w16 r.1
    >>= λ b. if nat_le b.0 REQUEST_BYTES_LIMIT then Some (record { requests = r.0; bytes = b.0 }, b.1) else None

-- ---- templates

unfoldable pub verb_at : ℕ → Option Verb
verb_at index = slice_get all_verbs index

unfoldable pub verb_in : List ℕ → Field Verb
verb_in bytes = byte_in bytes >>= λ n. verb_at n.0 >>= λ v. Some (v, n.1)

-- the argument of this sort with this number, where `vars` variables are declared
unfoldable pub argument_of : ℕ → ℕ → ℕ → Option Argument
argument_of vars sort number =
    if sort == 0 then (if number == 0 then Some argument.Nothing else None)
    else (if sort == 1 then Some (argument.Number number)
    else (if nat_lt number vars then Some (argument.Variable number) else None))

unfoldable pub argument_in : ℕ → List ℕ → Field (Option Argument)
argument_in vars bytes = small_in 0 2 bytes >>= λ sort. number_in w64 sort.1 >>= λ n. Some (argument_of vars sort.0 n.0, n.1)

unfoldable pub mask_in : Version → List ℕ → Field ℕ
mask_in v bytes = number_in (mask_width v) bytes

unfoldable pub masks_in : Version → List ℕ → Field Masks
masks_in v bytes =
    mask_in v bytes >>= λ x. mask_in v x.1 >>= λ y. mask_in v y.1 >>= λ z. mask_in v z.1
    >>= λ w. Some (record { require_set = x.0; require_clear = y.0; sets = z.0; clears = w.0 }, w.1)

abbrev pub template_of : Verb → ℕ → ℕ → Argument → List ℕ → Masks → Template
template_of v key flags a body masks = record {
  verb = v;
  key = key;
  flags = flags;
  argument = a;
  body = body;
  require_set = masks.require_set;
  require_clear = masks.require_clear;
  sets = masks.sets;
  clears = masks.clears;
}

abbrev pub are_masks : ℕ → Template → Bool
are_masks flags t =
    nat_lt t.require_set (2 ^ flags) && nat_lt t.require_clear (2 ^ flags) && nat_lt t.sets (2 ^ flags) && nat_lt t.clears (2 ^ flags)
    && bit_and t.require_set t.require_clear == 0 && bit_and t.sets t.clears == 0

-- whether the template may stand where `keys` keys, `flags` flags and `vars` variables are declared
unfoldable pub is_template : ℕ → ℕ → ℕ → Template → Bool
is_template keys flags vars t =
    nat_lt t.key keys && has_fields vars (fields_of t.verb) t.flags t.argument t.body && are_masks flags t

-- the template of these fields, if it has an argument and may stand
unfoldable pub template_if_valid : ℕ → ℕ → ℕ → Verb → ℕ → ℕ → Option Argument → List ℕ → Masks → Option Template
template_if_valid keys flags vars v key item_flags None body masks = None
template_if_valid keys flags vars v key item_flags (Some a) body masks =
    if is_template keys flags vars (template_of v key item_flags a body masks) then Some
    (template_of v key item_flags a body masks) else None

unfoldable pub template_in : Version → ℕ → ℕ → ℕ → List ℕ → Field Template
template_in v keys flags vars bytes =
    verb_in bytes >>= λ verb. byte_in verb.1 >>= λ key. number_in w32 key.1 >>= λ item_flags. argument_in vars item_flags.1
    >>= λ a. sized_in 0 SCRIPT_BODY_LIMIT a.1 >>= λ body. masks_in v body.1
    >>= λ masks. template_if_valid keys flags vars verb.0 key.0 item_flags.0 a.0 body.0 masks.0 >>= λ t. Some (t, masks.1)

unfoldable pub templates_in : Version → ℕ → ℕ → ℕ → List ℕ → Field (List Template)
templates_in v keys flags vars bytes = counted_in 0 TEMPLATES_LIMIT (λ _. template_in v keys flags vars) bytes

-- ---- sections

unfoldable pub send_in : List ℕ → Field Instr
send_in bytes = byte_in bytes >>= λ t. bytes_in CLASS_COUNT t.1 >>= λ next. Some (instr.Send t.0 next.0, next.1)

unfoldable pub bind_in : List ℕ → Field Instr
bind_in bytes = byte_in bytes >>= λ v. Some (instr.Bind v.0, v.1)

unfoldable pub goto_in : List ℕ → Field Instr
goto_in bytes = byte_in bytes >>= λ p. Some (instr.Goto p.0, p.1)

unfoldable pub after_sort : ℕ → List ℕ → Field Instr
after_sort sort bytes =
    if sort == 0 then send_in bytes
    else (if sort == 1 then bind_in bytes else (if sort == 2 then goto_in bytes else Some (instr.Halt, bytes)))

unfoldable pub instr_in : List ℕ → Field Instr
instr_in bytes = small_in 0 3 bytes >>= λ sort. after_sort sort.0 sort.1

unfoldable pub instructions_in : Version → List ℕ → Field (List Instr)
instructions_in v bytes = counted_in 0 (steps_limit v) (λ _. instr_in) bytes

-- ---- the whole image

-- the version whose images begin with these bytes
unfoldable pub version_at : List ℕ → Option Version
version_at bytes =
    if bytes_eq bytes (magic version.One) then Some version.One
    else (if bytes_eq bytes (magic version.Two) then Some version.Two else None)

unfoldable pub version_in : List ℕ → Field Version
version_in bytes = bytes_in 4 bytes >>= λ m. version_at m.0 >>= λ v. Some (v, m.1)

-- the keys, and how many flags and variables there are
pub record Declared : Type 0 where
  pub keys : List Word
  pub flags : ℕ
  pub vars : ℕ

unfoldable pub declared_in : Version → List ℕ → Field Declared
declared_in v bytes =
    keys_in bytes >>= λ k. small_in 0 (flags_limit v) k.1 >>= λ f. small_in 0 VARIABLES_LIMIT f.1
    >>= λ vars. Some (record { keys = k.0; flags = f.0; vars = vars.0 }, vars.1)

-- one for each section
unfoldable pub each_in : {A : Type 0} → (List ℕ → Field A) → List ℕ → Field (Sections A)
each_in one_in bytes = one_in bytes >>= λ p. one_in p.1 >>= λ a. one_in a.1 >>= λ b. Some (record { p = p.0; a = a.0; b = b.0 }, b.1)

abbrev pub section_of : Budget → List Instr → Section
section_of budget instructions = record { budget = budget; instructions = instructions }

abbrev pub code_of : Declared → Sections Budget → List Template → Sections (List Instr) → Code
code_of d budgets templates instructions = record {
  keys = d.keys;
  flags = d.flags;
  vars = d.vars;
  templates = templates;
  sections = record {
    p = section_of budgets.p instructions.p;
    a = section_of budgets.a instructions.a;
    b = section_of budgets.b instructions.b;
  };
}

abbrev pub at_end : {A : Type 0} → A → List ℕ → Option A
at_end x [] = Some x
at_end x (_ ∷ _) = None

-- the code of the bytes, which nothing follows
unfoldable pub code_in : List ℕ → Option Code
code_in bytes =
    version_in bytes >>= λ v. declared_in v.0 v.1 >>= λ d. each_in budget_in d.1
    >>= λ budgets. templates_in v.0 (length d.0.keys) d.0.flags d.0.vars budgets.1 >>= λ t. each_in (instructions_in v.0) t.1
    >>= λ s. at_end (code_of d.0 budgets.0 t.0 s.0) s.1
