use Rattle.std.proofs.Common.{◌++◌, drop}
use Rattle.rb_names.specs.Completing.{left_in}
use Rattle.rb_names.specs.inner.Deriving.{MeanTheSame}
use Rattle.rb_names.proofs.left.left_in.Given as goal

abbrev pub invariant-loop-item : goal.invariant-loop-item
invariant-loop-item l = MeanTheSame (l.left ++ left_in (drop l.item-index l.items)) (left_in l.items)
