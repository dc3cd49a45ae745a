use Rattle.std.proofs.Common.{◌≡◌, ◌<◌, ℕ, Some}
use Rattle.std.specs.Prelude.{slice_get}
use Rattle.rb_layout.specs.declared.layout.Leaf.{Leaf}
use Rattle.rb_layout.specs.A5.{HaveCommon}
use Rattle.rb_agree.proofs.values.apart_fault.Given as goal

abbrev pub invariant-loop-m : goal.invariant-loop-m
invariant-loop-m l = (k : ℕ) (later : Leaf) → l.n < k → k < l.m → slice_get l.leaves k ≡ Some later → HaveCommon l.types l.ty l.leaf.prov later.prov → ⊥
