use Rattle.std.proofs.Common.{◌≡◌, refl, rules}
use Rattle.std.specs.Option.{option_copied, option_map}
use Rattle.mc_model.specs.Decide.{found_of}
use Rattle.mc_model.proofs.deciding.Decision.of.Goals.{in-Some, in-None}
use Rattle.mc_model.proofs.deciding.Decision.of.Goals as goal

pub returns : goal.returns
returns c number =
    let request = c.args.request.now in
    let there = option_copied c.args.found in
    let known : option_map (found_of request.number) there ≡ c.match-found.known =
    elim c.match-found.branch [
      | in-Some w ↦ search rules
      | in-None w ↦ search rules
    ] in
    c.decide.ensures request request.number number there (λ _. refl) (λ _. refl) known
