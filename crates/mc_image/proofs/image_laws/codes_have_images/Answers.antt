use Rattle.mc_image.proofs.ImageRoom.{codes_have_images}
use Rattle.mc_image.proofs.image_laws.codes_have_images.Goals as goal

pub returns : goal.returns
returns c = codes_have_images
