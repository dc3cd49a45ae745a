use Rattle.std.proofs.Common.{subst, sym, ap, ◌∙◌, arith}
use Rattle.rb_layout.specs.Flattening.{AreInOrder, flat_layouts}
use Rattle.rb_layout.proofs.LayoutLists.{one_more_layout, all_layouts, are_in_order}
use Rattle.rb_layout.proofs.flat_layouts.flatten.Goals as goal

pub loop-ty-preserved : goal.loop-ty-preserved
loop-ty-preserved c =
    one_more_layout c.program-program.result.now c.loop-ty.ty c.loop-ty.layouts c.push_layout.new.layouts (omega (arith, c.loop-ty-test.true, c.len-ty-end.ensures))
    c.in_ok-push_layout.ensures c.loop-ty.invariant

pub returns-clause-flat : goal.returns-clause-flat
returns-clause-flat c =
    all_layouts c.program-program.result.now c.loop-ty.ty c.loop-ty.layouts (omega (arith, c.loop-ty-test.false, c.len-ty-end.ensures)) c.loop-ty.invariant
    ∙ ap (λ p. flat_layouts p) c.program-program.ensures.same

pub returns-clause-each : goal.returns-clause-each
returns-clause-each c =
    subst (λ ls. AreInOrder c.args.covered.now.program ls)
    (sym (all_layouts c.program-program.result.now c.loop-ty.ty c.loop-ty.layouts (omega (arith, c.loop-ty-test.false, c.len-ty-end.ensures)) c.loop-ty.invariant
    ∙ ap (λ p. flat_layouts p) c.program-program.ensures.same)) (are_in_order c.args.covered.now.program c.requires)
