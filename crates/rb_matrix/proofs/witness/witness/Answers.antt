use Rattle.std.proofs.Common.{sym, ap, ◌∙◌}
use Rattle.rb_matrix.specs.inner.Problems.{row_for_root}
use Rattle.rb_matrix.proofs.Working.{row_for_root-append}
use Rattle.rb_matrix.proofs.witness.witness.Goals as goal

pub loop-step-preserved : goal.loop-step-preserved
loop-step-preserved c =
    ap (row_for_root c.pop.new.self) c.in_ok-close.ensures ∙ sym (row_for_root-append c.pop.new.self c.in-Some.step c.loop-step.row.items)
    ∙ ap (λ ss. row_for_root ss c.loop-step.row.items) (sym c.in-Some.ensures) ∙ c.loop-step.invariant
