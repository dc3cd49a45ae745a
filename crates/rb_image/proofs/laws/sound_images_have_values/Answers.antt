use Rattle.rb_image.proofs.RootValues.{sound_values}
use Rattle.rb_image.proofs.laws.sound_images_have_values.Goals as goal

pub returns : goal.returns
returns c = sound_values
