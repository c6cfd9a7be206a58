use Rattle.std.proofs.Common.{◌≡◌, Some, None, arith, rules}
use Rattle.std.proofs.lemmas.Result.{err_from_is_err_and}
use Rattle.mc_code.specs.Code.{Code}
use Rattle.mc_image.specs.ImageReading.{code_in}
use Rattle.mc_image.proofs.ImageLaws.{code-read, unread, read-as}
use Rattle.mc_image.proofs.image_reader.decode.Goals as goal

pub returns-in_err-version-clause-none : goal.returns-in_err-version-clause-none
unfolding code_in
returns-in_err-version-clause-none c =
    let p = err_from_is_err_and c.from_residual.result c.from_residual.ensures.1 in
    rw (p.1, p.2) (λ real. let none : code_in c.args.bytes.now ≡ None = search rules in unread c.args.bytes.now none)

pub returns-in_err-declared-clause-none : goal.returns-in_err-declared-clause-none
unfolding code_in
returns-in_err-declared-clause-none c =
    let p = err_from_is_err_and c.from_residual-in_err-declared.result c.from_residual-in_err-declared.ensures.1 in
    rw (p.1, p.2) (λ real. let none : code_in c.args.bytes.now ≡ None = search rules in unread c.args.bytes.now none)

pub returns-in_err-budgets-clause-none : goal.returns-in_err-budgets-clause-none
unfolding code_in
returns-in_err-budgets-clause-none c =
    let p = err_from_is_err_and c.from_residual-in_err-budgets.result c.from_residual-in_err-budgets.ensures.1 in
    rw (p.1, p.2) (λ real. let none : code_in c.args.bytes.now ≡ None = search rules in unread c.args.bytes.now none)

pub returns-in_err-templates-clause-none : goal.returns-in_err-templates-clause-none
unfolding code_in
returns-in_err-templates-clause-none c =
    let p = err_from_is_err_and c.from_residual-in_err-templates.result c.from_residual-in_err-templates.ensures.1 in
    rw (p.1, p.2) (λ real. let none : code_in c.args.bytes.now ≡ None = search rules in unread c.args.bytes.now none)

pub returns-in_err-instructions-clause-none : goal.returns-in_err-instructions-clause-none
unfolding code_in
returns-in_err-instructions-clause-none c =
    let p = err_from_is_err_and c.from_residual-in_err-instructions.result c.from_residual-in_err-instructions.ensures.1 in
    rw (p.1, p.2) (λ real. let none : code_in c.args.bytes.now ≡ None = search rules in unread c.args.bytes.now none)

pub returns-in_err-finish-clause-none : goal.returns-in_err-finish-clause-none
unfolding code_in
returns-in_err-finish-clause-none c =
    let p = err_from_is_err_and c.from_residual-in_err-finish.result c.from_residual-in_err-finish.ensures.1 in
    rw (p.1, p.2) (λ real. let none : code_in c.args.bytes.now ≡ None = search rules in unread c.args.bytes.now none)

pub new-requires : goal.new-requires
unfolding code_in
new-requires c =
    let code : Code = record {
      keys = c.declared.inside.keys.items;
      flags = c.declared.inside.flags;
      vars = c.declared.inside.vars;
      templates = c.in_ok-templates.templates.items;
      sections = record { p = c.section_of.result; a = c.section_of-2.result; b = c.section_of-3.result };
    } in
    let read : code_in c.args.bytes.now ≡ Some code = search rules in
    (code-read c.args.bytes.now code (λ i. omega (arith, c.type_inv.bytes i)) read).1

pub returns-clause-found : goal.returns-clause-found
unfolding code_in
returns-clause-found c =
    let code : Code = record {
      keys = c.declared.inside.keys.items;
      flags = c.declared.inside.flags;
      vars = c.declared.inside.vars;
      templates = c.in_ok-templates.templates.items;
      sections = record { p = c.section_of.result; a = c.section_of-2.result; b = c.section_of-3.result };
    } in
    let read : code_in c.args.bytes.now ≡ Some code = search rules in
    rw c.new.ensures (code-read c.args.bytes.now code (λ i. omega (arith, c.type_inv.bytes i)) read).0

pub returns-clause-kept : goal.returns-clause-kept
unfolding code_in
returns-clause-kept c =
    let code : Code = record {
      keys = c.declared.inside.keys.items;
      flags = c.declared.inside.flags;
      vars = c.declared.inside.vars;
      templates = c.in_ok-templates.templates.items;
      sections = record { p = c.section_of.result; a = c.section_of-2.result; b = c.section_of-3.result };
    } in
    let read : code_in c.args.bytes.now ≡ Some code = search rules in
    rw c.new.ensures (code-read c.args.bytes.now code (λ i. omega (arith, c.type_inv.bytes i)) read).1

pub returns-clause-read : goal.returns-clause-read
unfolding code_in
returns-clause-read c =
    let code : Code = record {
      keys = c.declared.inside.keys.items;
      flags = c.declared.inside.flags;
      vars = c.declared.inside.vars;
      templates = c.in_ok-templates.templates.items;
      sections = record { p = c.section_of.result; a = c.section_of-2.result; b = c.section_of-3.result };
    } in
    let read : code_in c.args.bytes.now ≡ Some code = search rules in
    rw c.new.ensures (read-as c.args.bytes.now code read)
