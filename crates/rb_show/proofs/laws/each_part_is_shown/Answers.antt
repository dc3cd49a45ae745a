use Rattle.rb_show.proofs.Parts.{each_part_is_shown}
use Rattle.rb_show.proofs.laws.each_part_is_shown.Goals as goal

pub returns : goal.returns
returns c = each_part_is_shown
