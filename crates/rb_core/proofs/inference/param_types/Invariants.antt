use Rattle.std.proofs.Common.{◌≡◌, take, map}
use Rattle.rb_core.proofs.inference.param_types.Given as goal

abbrev pub invariant-loop-param : goal.invariant-loop-param
invariant-loop-param l = l.types ≡ map (λ p. p.ty) (take l.param-index l.params)
