use Rattle.rb_auto.proofs.Obeying.{derived-are-on-no-cycle}
use Rattle.rb_auto.proofs.laws.derived_layouts_are_on_no_cycle.Goals as goal

pub returns : goal.returns
returns c = derived-are-on-no-cycle
