-- What a script is under a name: the name and a dash stand before each of its keys. And what its code is.
use Rattle.std.specs.Prelude.{◌≡◌, ℕ, ◌+◌, ◌*◌, true, Some, List, map, length, min}
use Rattle.std.specs.List.{position}
use Rattle.mc_protocol.specs.{Lines.Word, declared.limits.TheConstants.REQUEST_BYTES_LIMIT, declared.request.Request.Request}
use Rattle.mc_script.specs.{declared.section.Budget.Budget, WellFormed.IsScript}
use Rattle.mc_script.specs.Script as script
use Rattle.mc_code.specs.Code as code
use Rattle.mc_code.specs.{Requests.IsRequest, declared.instr.Call.Call}
use Rattle.mc_assembler.specs.Layout.{code_of}
use Rattle.mc_settings.specs.Namespaces.{is_namespace, key_under, is_too_long, AreShort}
use Rattle.mc_generate.specs.declared.naming.PutFault.{PutFault}
use Rattle.mc_generate.specs.declared.naming.PutFault.TheVariants as fault

abbrev pub keys_under : Word → List Word → List Word
keys_under name keys = map (key_under name) keys

-- by this a key becomes longer
abbrev pub added_bytes : Word → ℕ
added_bytes name = length name + 1

-- as many requests, and for each of them the added bytes, but at most 8,192 bytes in all
abbrev pub budget_under : Word → Budget → Budget
budget_under name budget = record {
  requests = budget.requests;
  bytes = min REQUEST_BYTES_LIMIT (budget.bytes + added_bytes name * budget.requests);
}

-- ---- scripts

-- the same steps and labels
abbrev pub section_under : Word → script.Section → script.Section
section_under name s = record { budget = budget_under name s.budget; steps = s.steps; labels = s.labels }

-- the same flags and variables
abbrev pub script_under : Word → script.Script → script.Script
script_under name s = record {
  names = record { keys = keys_under name s.names.keys; flags = s.names.flags; vars = s.names.vars };
  sections = record {
    p = section_under name s.sections.p;
    a = section_under name s.sections.a;
    b = section_under name s.sections.b;
  };
}

-- ---- code

-- the same instructions
abbrev pub code_section_under : Word → code.Section → code.Section
code_section_under name s = record { budget = budget_under name s.budget; instructions = s.instructions }

-- the same flags, variables and templates
abbrev pub code_under : Word → code.Code → code.Code
code_under name c = record {
  keys = keys_under name c.keys;
  flags = c.flags;
  vars = c.vars;
  templates = c.templates;
  sections = record {
    p = code_section_under name c.sections.p;
    a = code_section_under name c.sections.a;
    b = code_section_under name c.sections.b;
  };
}

-- ---- keys that become too long

-- why the keys can't be put under the name: that with this index is the first that becomes too long
abbrev pub IsPutFault : Word → List Word → PutFault → Type 0
IsPutFault name keys fault.OutOfMemory = Unit {0}
IsPutFault name keys (fault.KeyTooLong index) = position (is_too_long name) keys ≡ Some index

-- ---- laws

-- the code of a script under a name is its code under the name
abbrev pub CodesFollowScripts : Type 0
CodesFollowScripts = (name : Word) (s : script.Script) → code_of (script_under name s) ≡ code_under name (code_of s)

-- a script is one under a name too, if no key becomes too long
abbrev pub ScriptsStayScripts : Type 0
ScriptsStayScripts = (name : Word) (s : script.Script) → IsScript s → is_namespace name ≡ true → AreShort name s.names.keys
    → IsScript (script_under name s)

-- the same request with its key under the name
abbrev pub request_under : Word → Request → Request
request_under name request = record request { key = key_under name request.key }

-- a call's request is the same under a name but for its key, which is under the name
abbrev pub RequestsDifferByKeys : Type 0
RequestsDifferByKeys = (name : Word) (c : code.Code) (call : Call) (request : Request) → IsRequest c call request
    → IsRequest (code_under name c) call (request_under name request)
