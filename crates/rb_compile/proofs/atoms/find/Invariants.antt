use Rattle.std.proofs.Common.{◌≡◌, None, drop}
use Rattle.rb_compile.specs.inner.Forms.{held_or}
use Rattle.rb_compile.proofs.atoms.find.Given as goal

abbrev pub invariant-loop-local : goal.invariant-loop-local
invariant-loop-local l = held_or None l.var l.locals ≡ held_or l.found l.var (drop l.local-index l.locals)
