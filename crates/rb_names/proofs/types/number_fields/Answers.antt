use Rattle.std.proofs.Common.{◌∙◌}
use Rattle.rb_names.specs.Numbering.{numbered_type}
use Rattle.rb_names.proofs.AnswerLemmas.{parts-next}
use Rattle.rb_names.proofs.types.number_fields.Goals as goal

pub loop-tree-preserved : goal.loop-tree-preserved
loop-tree-preserved c =
    parts-next (numbered_type c.args.tables.now) c.args.trees.now c.loop-tree.tree-index c.loop-tree.fields c.tree-item.result c.loop-tree-test.true c.tree-item.is
    c.push.new.self _ c.in_ok-push.ensures.ok c.in_ok-field.ensures
    ∙ c.loop-tree.invariant
