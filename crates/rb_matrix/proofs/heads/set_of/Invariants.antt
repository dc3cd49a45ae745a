use Rattle.std.proofs.Common.{◌≡◌, ◌||◌, drop}
use Rattle.rb_core.specs.declared.value.Value.{Value}
use Rattle.rb_core.specs.declared.value.Value.TheOpen.{Value-F}
use Rattle.rb_matrix.specs.Heads.{any_begins}
use Rattle.rb_matrix.specs.Known.{holds}
use Rattle.rb_matrix.proofs.heads.set_of.Given as goal

abbrev pub invariant-loop-head : goal.invariant-loop-head
invariant-loop-head l = (v : Value-F Value) → (holds l.set v || any_begins (drop l.head-index l.heads) v) ≡ any_begins l.heads v
