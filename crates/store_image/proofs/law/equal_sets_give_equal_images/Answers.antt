use Rattle.store_image.proofs.Equal.{images_same}
use Rattle.store_image.proofs.law.equal_sets_give_equal_images.Goals as goal

pub returns : goal.returns
returns c = images_same
