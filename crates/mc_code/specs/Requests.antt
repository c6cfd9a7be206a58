-- The requests that code makes.
use Rattle.std.specs.Prelude.{◌≡◌, ℕ, Some, slice_get}
use Rattle.mc_protocol.specs.{declared.request.Request.Request, Lines.Word}
use Rattle.mc_script.specs.declared.step.Template.{Template}
use Rattle.mc_code.specs.{Code.Code, declared.instr.Call.Call}

-- the request of a template with this key and this number
abbrev pub request_with : Template → Word → ℕ → Request
request_with t key number = record { verb = t.verb; key = key; flags = t.flags; body = t.body; number = number }

-- the request is that of the call's template, with the call's number
pub record IsRequest (c : Code) (call : Call) (request : Request) : Type 0 where
  pub template : Template
  pub key : Word
  pub named : slice_get c.templates call.template ≡ Some template
  pub declared : slice_get c.keys template.key ≡ Some key
  pub request_is : request ≡ request_with template key call.number
