use Rattle.std.proofs.Common.{◌≡◌, ℕ, ◌<◌, Some}
use Rattle.std.specs.Prelude.{slice_get}
use Rattle.rb_layout.specs.declared.layout.Part.{Part}
use Rattle.rb_agree.specs.inner.Alike.{IsPartAlike}
use Rattle.rb_agree.proofs.alike.are_parts_alike.Given as goal

abbrev pub invariant-loop-k : goal.invariant-loop-k
invariant-loop-k l = (k : ℕ) (p q : Part) → k < l.k → slice_get l.parts k ≡ Some p → slice_get l.parts_2 k ≡ Some q → IsPartAlike l.types l.one l.other l.loc.o l.loc.l p q
