use Rattle.std.proofs.Common.{sym, subst, ap}
use Rattle.rb_core.specs.TypedPrograms.{IsTyped}
use Rattle.rb_peek.specs.inner.Ordering.{AreOrderly}
use Rattle.rb_peek.proofs.WayLemmas.{orderly}
use Rattle.rb_peek.proofs.walk.tell_orderly.Goals as goal

pub returns : goal.returns
returns c =
    let p = c.args.agreed.now.covered.program in
    let typed = subst IsTyped (ap (λ x. x.program) c.covered.ensures.same) c.program.ensures.typed in
    subst (AreOrderly p.types) (sym c.layouts.ensures.flat) (orderly p typed c.layouts.ensures.agree)
