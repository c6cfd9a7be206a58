-- What contracts see of a book.
use Rattle.mc_sound.specs.Checked.{Checked}
use Rattle.mc_core.specs.Held.{Held}

-- the code that it borrows, and the world in which its events are noted
pub record BookRecord : Type 0 where
  pub checked : Checked
  pub world : Held
