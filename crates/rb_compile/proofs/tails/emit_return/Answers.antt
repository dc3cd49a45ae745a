use Rattle.rb_target.proofs.Growing.{Grows-append, Grows-trans}
use Rattle.rb_compile.specs.Plans.{plan_of}
use Rattle.rb_compile.proofs.TailForms.{return_expr}
use Rattle.rb_compile.proofs.tails.emit_return.Goals as goal

pub returns-clause-emits : goal.returns-clause-emits
returns-clause-emits c = λ fun.
    rw c.in_ok-push.ensures.ok
    (return_expr (plan_of c.args.agreed.now) fun c.args.expr.now c.args.ty c.args.locals.now c.args.body.now c.emit_expr.new.body c.in_ok-held.held (c.in_ok-held.ensures.emits fun))

pub returns-clause-grows : goal.returns-clause-grows
returns-clause-grows c = rw c.in_ok-push.ensures.ok (Grows-trans _ _ _ c.in_ok-held.ensures.grows (Grows-append _ _))
