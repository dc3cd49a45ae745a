use Rattle.rb_auto.proofs.Obeying.{derived-obey}
use Rattle.rb_auto.proofs.laws.derived_layouts_obey.Goals as goal

pub returns : goal.returns
returns c = derived-obey
