use Rattle.rb_image.proofs.RootValues.{sound_descend}
use Rattle.rb_image.proofs.laws.sound_images_descend.Goals as goal

pub returns : goal.returns
returns c = sound_descend
