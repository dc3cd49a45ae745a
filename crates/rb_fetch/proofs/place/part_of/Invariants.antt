use Rattle.std.proofs.Common.{◌≡◌, ℕ, ◌<◌, Some, true}
use Rattle.std.specs.Prelude.{slice_get}
use Rattle.rb_layout.specs.declared.layout.Part.{Part}
use Rattle.rb_fetch.specs.inner.Placing.{is_wanted}
use Rattle.rb_fetch.proofs.place.part_of.Given as goal

abbrev pub invariant-loop-part : goal.invariant-loop-part
invariant-loop-part l = (k : ℕ) (p : Part) → k < l.part-index → slice_get l.flat.parts k ≡ Some p → is_wanted l.path l.wanted p ≡ true → ⊥
