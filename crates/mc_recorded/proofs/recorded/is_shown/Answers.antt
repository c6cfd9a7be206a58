use Rattle.std.proofs.Common.{sym, subst, ◌≡◌, true, Bool}
use Rattle.std.specs.Prelude.{◌↔◌}
use Rattle.mc_recorded.specs.Recorded.{IsShownBy}
use Rattle.mc_recorded.proofs.Shown.{shown_where}
use Rattle.mc_recorded.proofs.recorded.is_shown.Goals as goal

pub returns : goal.returns
returns c =
    subst (λ (b : Bool). (b ≡ true) ↔ IsShownBy c.args.requests.now c.args.bytes.now c.args.fault) (sym c.shows.ensures)
    (shown_where c.args.requests.now c.args.bytes.now c.in_ok-front.front c.args.fault c.in_ok-front.ensures)
