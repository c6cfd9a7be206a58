use Rattle.mc_image.proofs.ImageLaws.{one_code}
use Rattle.mc_image.proofs.image_laws.images_are_of_one_code.Goals as goal

pub returns : goal.returns
returns c = one_code
