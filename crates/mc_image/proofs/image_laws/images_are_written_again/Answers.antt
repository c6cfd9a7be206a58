use Rattle.mc_image.proofs.ImageRoom.{written_again}
use Rattle.mc_image.proofs.image_laws.images_are_written_again.Goals as goal

pub returns : goal.returns
returns c = written_again
