-- What a request of P is that clears a key, and where it stands.
use Rattle.std.specs.Prelude.{ℕ, ◌+◌, ◌==◌, Bool, true, false, ◌&&◌, Option}
use Rattle.std.specs.Prelude.{Some, None, List, slice_get}
use Rattle.mc_protocol.specs.declared.reply.Class.TheVariants as class
use Rattle.mc_protocol.specs.declared.request.Verb.{Verb}
use Rattle.mc_protocol.specs.declared.request.Verb.TheVariants as verb
use Rattle.mc_script.specs.declared.step.Template.{Template}
use Rattle.mc_code.specs.{Paths.entry_of, declared.instr.Instr.Instr}
use Rattle.mc_code.specs.declared.instr.Instr.TheVariants as instr

abbrev pub is_delete : Verb → Bool
is_delete verb.Delete = true
is_delete _ = false

abbrev pub is_delete_of : ℕ → Option Template → Bool
is_delete_of key (Some t) = is_delete t.verb && (t.key == key)
is_delete_of key None = false

-- the instruction at the place deletes the key of the place's number, and goes on to the next place
abbrev pub clears_at : List Template → ℕ → Option Instr → Bool
clears_at templates place (Some (instr.Send n next)) =
    is_delete_of place (slice_get templates n)
    && (entry_of next class.Deleted == place + 1) && (entry_of next class.NotFound == place + 1)
clears_at templates place _ = false
