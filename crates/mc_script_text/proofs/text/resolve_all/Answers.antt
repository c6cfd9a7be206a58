use Rattle.std.proofs.Common.{refl}
use Rattle.mc_script_text.proofs.text.resolve_all.Goals as goal

pub new-requires : goal.new-requires
new-requires c =
    let p = rw c.deref.ensures.value at c.in_ok-p.ensures.read in
    let a = rw c.deref-2.ensures.value at c.in_ok-a.ensures.read in
    let b = rw c.deref-3.ensures.value at c.in_ok-b.ensures.read in
    c.requires record { names = c.args.names; sections = record { p = c.in_ok-p.p; a = c.in_ok-a.a; b = c.in_ok-b.b } } (rw (p, a, b) refl)
