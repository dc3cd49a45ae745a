use Rattle.rb_image.proofs.DescendingImages.{descending_images}
use Rattle.rb_image.proofs.laws.descending_images_are_sound.Goals as goal

pub returns : goal.returns
returns c = descending_images
