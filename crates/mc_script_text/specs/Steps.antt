-- The steps of a section: what its lines say, once each label has its place.
use Rattle.std.specs.Prelude.{ℕ, ◌+◌, nat_lt, ◌&&◌, Option, Some, None, List, [], ◌∷◌}
use Rattle.std.specs.{List.position, Str.bytes_eq}
use Rattle.mc_script_text.specs.Values.{Class, Word, Entry, Mark, Label, Step, Template}
use Rattle.mc_script_text.specs.Marks.{mask_of, target_of, bound_by}
use Rattle.mc_script_text.specs.Values.entry
use Rattle.mc_script_text.specs.Values.sign
use Rattle.mc_script_text.specs.Values.step
use Rattle.mc_protocol.specs.Words.{all_classes}
use Rattle.mc_script.specs.Chains.{◌>>=◌}

-- the labels of these lines, where `count` steps stand before them: each label's place is that of the next step, or the
-- section's end
abbrev pub labels_from : ℕ → List Entry → List Label
labels_from count [] = []
labels_from count (entry.Label name ∷ entries) = record { name = name; place = count } ∷ labels_from count entries
labels_from count (_ ∷ entries) = labels_from (count + 1) entries

-- the index of the label with this name, which stands after the step at this place
abbrev pub label_after : List Label → ℕ → Word → Option ℕ
label_after labels place name = position (λ label. bytes_eq label.name name && nat_lt place label.place) labels

-- ---- values that may be missing

-- a value before others, where none of them is missing
abbrev pub in_front : {A : Type 0} → Option A → Option (List A) → Option (List A)
in_front (Some x) (Some xs) = Some (x ∷ xs)
in_front _ _ = None

-- ---- steps

-- a jump on the class to the label with this name, which stands after the step at this place
abbrev pub jump_named : List Label → ℕ → Class → Word → Option (Class × ℕ)
jump_named labels place c name = label_after labels place name >>= λ label. Some (c, label)

-- the jump of the mark on the class, where there is one, before the others
abbrev pub jump_before : List Label → ℕ → Class → Option Word → Option (List (Class × ℕ)) → Option (List (Class × ℕ))
jump_before labels place c None jumps = jumps
jump_before labels place c (Some name) jumps = in_front (jump_named labels place c name) jumps

-- the jumps of the marks on these classes, in order, for a step at this place
abbrev pub jumps_on : List Label → ℕ → List Mark → List Class → Option (List (Class × ℕ))
jumps_on labels place marks [] = Some []
jumps_on labels place marks (c ∷ classes) =
    jump_before labels place c (target_of c marks) (jumps_on labels place marks classes)

-- the request with the flags of its marks
abbrev pub with_marks : Template → List Mark → Template
with_marks t marks = record {
  verb = t.verb;
  key = t.key;
  flags = t.flags;
  argument = t.argument;
  body = t.body;
  require_set = mask_of sign.RequireSet marks;
  require_clear = mask_of sign.RequireClear marks;
  sets = mask_of sign.Sets marks;
  clears = mask_of sign.Clears marks;
}

-- the step at this place that the line is, if it is no label
abbrev pub step_in : List Label → ℕ → Entry → Option Step
step_in labels place (entry.Label name) = None
step_in labels place (entry.Send t marks) =
    jumps_on labels place marks all_classes >>= λ jumps. Some (step.Send (with_marks t marks) jumps (bound_by marks))
step_in labels place (entry.Bind variable) = Some (step.Bind variable)
step_in labels place (entry.Goto name) = label_after labels place name >>= λ label. Some (step.Goto label)
step_in labels place entry.Halt = Some step.Halt

-- the steps of these lines, the first at this place
abbrev pub steps_from : List Label → ℕ → List Entry → Option (List Step)
steps_from labels place [] = Some []
steps_from labels place (entry.Label name ∷ entries) = steps_from labels place entries
steps_from labels place (e ∷ entries) = in_front (step_in labels place e) (steps_from labels (place + 1) entries)
