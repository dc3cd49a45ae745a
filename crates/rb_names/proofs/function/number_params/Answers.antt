use Rattle.std.proofs.Common.{◌∙◌}
use Rattle.rb_names.specs.Numbering.{numbered_param}
use Rattle.rb_names.specs.inner.Frames.{scope_of}
use Rattle.rb_names.proofs.AnswerLemmas.{parts-next}
use Rattle.rb_names.proofs.function.number_params.Goals as goal

pub loop-tree-preserved : goal.loop-tree-preserved
loop-tree-preserved c =
    parts-next (numbered_param c.args.tables.now (scope_of c.args.scope.now)) c.args.trees.now c.loop-tree.tree-index c.loop-tree.params c.tree-item.result c.loop-tree-test.true c.tree-item.is
    c.push.new.self _ c.in_ok-push.ensures.ok c.in_ok-param.ensures
    ∙ c.loop-tree.invariant
