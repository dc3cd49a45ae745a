use Rattle.std.proofs.Common.{map, take}
use Rattle.rb_accept.specs.Arguments.{AreRead}
use Rattle.rb_accept.proofs.arguments.read_each.Given as goal

-- the first words spell the values so far
abbrev pub invariant-loop-i : goal.invariant-loop-i
invariant-loop-i l = AreRead l.types (take l.i (map (λ p. p.ty) l.params)) (take l.i l.words) l.args
