-- The marks after a request: which words they are, which may stand together, and what they say.
use Rattle.std.specs.Prelude.{◌≡◌, ℕ, ◌==◌, Bool, true, false, not, ◌&&◌, Option, Some, None, List, [], ◌∷◌, ◌++◌, if◌then◌else◌, ◌^◌}
use Rattle.std.specs.{Int.Bits.bit_or, List.list_all, List.list_any, List.fold}
use Rattle.mc_protocol.specs.{Legal.is_legal, Legal.same, Words.class_word, Words.class_index, Names.index_of}
use Rattle.mc_script_text.specs.Values.{Verb, Class, Word, Mark, Sign}
use Rattle.mc_script_text.specs.Values.class
use Rattle.mc_script_text.specs.Values.mark
use Rattle.mc_script_text.specs.Values.sign
use Rattle.mc_protocol.specs.declared.request.Verb.TheVariants as verb
use Rattle.mc_script.specs.{Script.Names, WellFormed.shows_numbers}

-- ---- words

-- the byte before the name of a flag: `?`, `!`, `+` or `-`
abbrev pub sign_byte : Sign → ℕ
sign_byte sign.RequireSet = 63
sign_byte sign.RequireClear = 33
sign_byte sign.Sets = 43
sign_byte sign.Clears = 45

-- `class:L`
abbrev pub jump_word : Class → Word → Word
jump_word class label = class_word class ++ 58 ∷ label

-- `>VAR`
abbrev pub bind_word : Word → Word
bind_word name = 62 ∷ name

-- `?f`, `!f`, `+f` or `-f`; `class:L`; or `>VAR`
abbrev pub SpellsMark : Names → Word → Mark → Type 0
SpellsMark names word (mark.Flag sign flag) =
    (name : Word) × (word ≡ sign_byte sign ∷ name) × (index_of names.flags name ≡ Some flag)
SpellsMark names word (mark.Jump class label) = word ≡ jump_word class label
SpellsMark names word (mark.Bind variable) =
    (name : Word) × (word ≡ bind_word name) × (index_of names.vars name ≡ Some variable)

-- ---- which may stand together

-- the mark may stand after a request of the verb
abbrev pub may_stand : Verb → Mark → Bool
may_stand verb (mark.Flag sign flag) = true
may_stand verb (mark.Jump class label) = is_legal verb class
may_stand verb (mark.Bind variable) = shows_numbers verb

-- the sign asks that the flag be set or clear; the others change it
abbrev pub is_need : Sign → Bool
is_need sign.RequireSet = true
is_need sign.RequireClear = true
is_need _ = false

-- both ask something of the same flag, or both change it; both are jumps on the same class; or both bind a variable
abbrev pub are_twins : Mark → Mark → Bool
are_twins (mark.Flag s f) (mark.Flag t g) = (f == g) && same (is_need s) (is_need t)
are_twins (mark.Jump c l) (mark.Jump d m) = class_index c == class_index d
are_twins (mark.Bind v) (mark.Bind w) = true
are_twins _ _ = false

-- no two of the marks are twins
abbrev pub have_no_twins : List Mark → Bool
have_no_twins [] = true
have_no_twins (m ∷ marks) = not (list_any (are_twins m) marks) && have_no_twins marks

abbrev pub is_bind : Mark → Bool
is_bind (mark.Bind variable) = true
is_bind _ = false

-- a jump on a hit or a number
abbrev pub is_number_jump : Mark → Bool
is_number_jump (mark.Jump class.Hit label) = true
is_number_jump (mark.Jump class.Number label) = true
is_number_jump _ = false

-- the marks may stand together after a request of the verb: where one binds a variable, a reply with a number goes on to
-- the next step
abbrev pub may_stand_together : Verb → List Mark → Bool
may_stand_together verb marks =
    list_all (may_stand verb) marks && have_no_twins marks && not (list_any is_bind marks && list_any is_number_jump marks)

-- ---- what they say

-- the mask of one flag
abbrev pub flag_mask : ℕ → ℕ
flag_mask flag = 2 ^ flag

-- the flag of the mark, if the mark has this sign
abbrev pub says : Sign → Mark → Option ℕ
says s (mark.Flag t flag) = if sign_byte s == sign_byte t then Some flag else None
says s _ = None

abbrev pub with_flag : ℕ → Option ℕ → ℕ
with_flag mask (Some flag) = bit_or mask (flag_mask flag)
with_flag mask None = mask

-- the flags of the marks with this sign
abbrev pub mask_of : Sign → List Mark → ℕ
mask_of s marks = fold (λ mask m. with_flag mask (says s m)) 0 marks

-- the label to which the marks go after a reply of the class
abbrev pub target_of : Class → List Mark → Option Word
target_of c [] = None
target_of c (mark.Jump d label ∷ marks) = if class_index c == class_index d then Some label else target_of c marks
target_of c (_ ∷ marks) = target_of c marks

-- the variable that the marks bind
abbrev pub bound_by : List Mark → Option ℕ
bound_by [] = None
bound_by (mark.Bind variable ∷ marks) = Some variable
bound_by (_ ∷ marks) = bound_by marks
