use Rattle.std.proofs.Common.{◌≡◌, ℕ, ◌<◌, Some}
use Rattle.std.specs.Prelude.{slice_get}
use Rattle.rb_bits.specs.Words.{AreDisjoint}
use Rattle.rb_layout.specs.Positions.{open_positions}
use Rattle.rb_agree.specs.declared.items.Written.{Written}
use Rattle.rb_agree.specs.inner.Parts.{IsSet}
use Rattle.rb_agree.proofs.parts.before_fault.Given as goal

abbrev pub invariant-loop-j : goal.invariant-loop-j
invariant-loop-j l = (j : ℕ) (p q : Written) → j < l.j → slice_get l.parts j ≡ Some p → slice_get l.parts l.k ≡ Some q
    → IsSet (open_positions l.types l.prov) p → IsSet (open_positions l.types l.prov) q → AreDisjoint p.o p.l q.o q.l
