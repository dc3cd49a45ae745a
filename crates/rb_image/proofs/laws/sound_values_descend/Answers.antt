use Rattle.rb_image.proofs.RootValues.{values_descend}
use Rattle.rb_image.proofs.laws.sound_values_descend.Goals as goal

pub returns : goal.returns
returns c = values_descend
