use Rattle.std.proofs.Common.{◌≡◌, ℕ, ◌<◌, false, Some}
use Rattle.std.specs.Prelude.{slice_get}
use Rattle.rb_core.specs.declared.types.DataDecl.{DataDecl}
use Rattle.rb_check.specs.inner.Emptiness.{mark_of, type_is_live}
use Rattle.rb_check.proofs.emptiness.next_live.Given as goal

abbrev pub invariant-loop-t : goal.invariant-loop-t
invariant-loop-t l = (s : ℕ) (d : DataDecl) → s < l.t → slice_get l.types s ≡ Some d → mark_of l.marks s ≡ false → type_is_live l.marks d ≡ false
