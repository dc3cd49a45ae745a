use Rattle.std.proofs.Common.{subst, ap}
use Rattle.rb_core.specs.TypedPrograms.{IsTyped}
use Rattle.rb_peek.proofs.path.tell_typed.Goals as goal

pub returns : goal.returns
returns c = subst IsTyped (ap (λ x. x.program) c.covered.ensures.same) c.program.ensures.typed
