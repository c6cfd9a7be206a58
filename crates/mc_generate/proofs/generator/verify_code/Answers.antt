use Rattle.std.proofs.Common.{◌≡◌}
use Rattle.mc_sound.specs.declared.refusal_kind.RefusalKind.TheVariants as kind
use Rattle.mc_generate.proofs.RefusalFacts.{fault-named}
use Rattle.mc_generate.proofs.generator.verify_code.Goals as goal

pub returns : goal.returns
returns c =
    let other : c.in-Err.refusal.kind ≡ kind.OutOfMemory → ⊥ = rw (← c.refusal.view_is) c.in_default.not-OutOfMemory in
    record { code = tt; refused = λ _. fault-named c.args.code c.in-Err.refusal other c.in-Err.ensures.refused }
