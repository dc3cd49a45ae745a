use Rattle.std.proofs.Common.{◌≡◌, ◌<◌, take, sym, ◌∙◌, ap, arith}
use Rattle.rb_core.specs.Typing.{variable_type}
use Rattle.rb_core.proofs.ScopeLemmas.{found-here, not-here}
use Rattle.rb_core.proofs.scope.Scope.variable_type.Goals as goal

pub returns-then-binders-i : goal.returns-then-binders-i
returns-then-binders-i c =
    let some : 0 < c.loop-i.i = omega (arith, c.loop-i-test.true) in
    sym (found-here c.args.var c.as_slice-binders.result.now c.loop-i.i _ some c.loop-i.auto.i c.if-binders-i.true)
    ∙ c.loop-i.invariant.gives ∙ ap (variable_type c.args.var) (c.as_slice-binders.ensures ∙ c.self.view_is)

pub loop-i-preserved : goal.loop-i-preserved
loop-i-preserved c =
    let some : 0 < c.loop-i.i = omega (arith, c.loop-i-test.true) in
    record {
      behind = omega (arith, c.loop-i-test.true);
      gives = not-here c.args.var c.as_slice-binders.result.now c.loop-i.i _ some c.loop-i.auto.i c.if-binders-i.false ∙ c.loop-i.invariant.gives;
    }

pub returns : goal.returns
returns c =
    let end : c.self.inside.ordered ≡ c.loop-i.i = omega (arith, c.loop-i-test.false, c.loop-i.invariant.behind) in
    c.ordered_type.ensures
    ∙ ap (λ k. variable_type c.args.var (take k c.as_slice-binders.result.now)) end
    ∙ c.loop-i.invariant.gives ∙ ap (variable_type c.args.var) (c.as_slice-binders.ensures ∙ c.self.view_is)
