use Rattle.rb_auto.proofs.Obeying.{derived-flatten-nothing}
use Rattle.rb_auto.proofs.laws.derived_layouts_flatten_nothing.Goals as goal

pub returns : goal.returns
returns c = derived-flatten-nothing
