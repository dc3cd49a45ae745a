use Rattle.rb_match.specs.inner.Binding.{IsOnly}
use Rattle.rb_match.proofs.binding.is_only.Given as goal

abbrev pub invariant-loop-i : goal.invariant-loop-i
invariant-loop-i l = IsOnly l.agreed l.ty l.pat l.leaf l.i
