use Rattle.std.proofs.Common.{◌∙◌}
use Rattle.rb_names.specs.Numbering.{numbered_pattern}
use Rattle.rb_names.specs.inner.Frames.{scope_of}
use Rattle.rb_names.proofs.AnswerLemmas.{parts-next}
use Rattle.rb_names.proofs.pattern.+numbering.Goals as goal

pub number_patterns-loop-tree-preserved : goal.number_patterns-loop-tree-preserved
number_patterns-loop-tree-preserved t c =
    parts-next (numbered_pattern c.args.tables.now (scope_of c.args.scope.now)) c.args.trees.now c.loop-tree.tree-index c.loop-tree.pats c.tree-item.result c.loop-tree-test.true c.tree-item.is
    c.push.new.self _ c.in_ok-push.ensures.ok c.in_ok-pat.ensures
    ∙ c.loop-tree.invariant
