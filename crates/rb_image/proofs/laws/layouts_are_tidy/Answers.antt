use Rattle.rb_image.proofs.VisitLemmas.{layouts_are_tidy}
use Rattle.rb_image.proofs.laws.layouts_are_tidy.Goals as goal

pub returns : goal.returns
returns c = layouts_are_tidy
