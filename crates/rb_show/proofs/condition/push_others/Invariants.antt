use Rattle.std.proofs.Common.{◌≡◌, ◌++◌, take}
use Rattle.std.specs.List.{flat_map}
use Rattle.rb_show.specs.Lines.{other_literal}
use Rattle.rb_show.specs.inner.Ways.{literals_in}
use Rattle.rb_show.proofs.condition.push_others.Given as goal

abbrev pub invariant-loop-arm : goal.invariant-loop-arm
invariant-loop-arm l = l.text.items ≡ l.initial.text.items ++ flat_map other_literal (literals_in (take l.arm-index l.arms))
