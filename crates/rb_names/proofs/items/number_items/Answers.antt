use Rattle.std.proofs.Common.{suc, drop, sym, ap, ◌∙◌, add-one}
use Rattle.rb_names.specs.Programs.{numbered_items}
use Rattle.rb_names.specs.inner.Joining.{behind_items}
use Rattle.rb_names.proofs.ListLemmas.{drop-here}
use Rattle.rb_names.proofs.items.number_items.Goals as goal

pub loop-tree-preserved : goal.loop-tree-preserved
loop-tree-preserved c =
    rw (add-one c.loop-tree.tree-index) (c.in_ok-number_item.ensures.ok (drop (suc c.loop-tree.tree-index) c.args.trees.now)
    ∙ ap (λ us. behind_items c.loop-tree.items (numbered_items c.args.tables.now us))
    (sym (drop-here c.args.trees.now c.loop-tree.tree-index c.tree-item.result c.loop-tree-test.true c.tree-item.is)) ∙ c.loop-tree.invariant)
