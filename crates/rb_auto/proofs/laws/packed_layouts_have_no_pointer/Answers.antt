use Rattle.rb_auto.proofs.Obeying.{packed-have-no-pointer}
use Rattle.rb_auto.proofs.laws.packed_layouts_have_no_pointer.Goals as goal

pub returns : goal.returns
returns c = packed-have-no-pointer
