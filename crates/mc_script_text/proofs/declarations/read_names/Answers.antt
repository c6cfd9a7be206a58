use Rattle.std.proofs.Common.{◌≡◌, ◌≢◌, map, length, arith, rules}
use Rattle.std.proofs.{lemmas.Bool.Decides.nat_tests, lemmas.Grind.common_steps}
use Rattle.mc_script_text.proofs.NewNames.{names_stopped, names_some, declared_push}
use Rattle.mc_script_text.proofs.declarations.read_names.Goals as goal

pub returns-in_err-check_name : goal.returns-in_err-check_name
returns-in_err-check_name c =
    let stop = rw c.deref.ensures.value at c.in_err-check_name.ensures.err in
    let none = names_stopped c.args.limit c.args.bytes c.words.names.items c.args.words.now c.words.word-index _ c.words-test.true
    c.words.invariant.names stop in
    rw none (search rules)

pub words-preserved : goal.words-preserved
words-preserved c =
    let may = rw c.deref.ensures.value at c.in_ok-check_name.ensures.ok in
    record {
      names = grind (arith, common_steps);
      declared = rw (
        c.in_ok-push.ensures.items,
        c.new.ensures,
        c.in_ok-from_slice.ensures.items,
        declared_push c.args.limit c.args.bytes c.words.names.items _,
        c.words.invariant.declared,
      ) may;
    }

pub returns : goal.returns
returns c =
    let words = c.args.words.now in
    let all : c.words.names.items ≡ map (λ w. w.now) words = grind (arith, common_steps) in
    let some : length words ≢ 0 = grind (arith, nat_tests) in
    names_some c.args.limit c.args.bytes c.words.names.items words some all c.words.invariant.declared
