use Rattle.std.proofs.Common.{rules}
use Rattle.rb_read.specs.inner.Starting.{is_number}
use Rattle.rb_read.specs.inner.Reading.{arm_tree, layout_tree, begins_tree}
use Rattle.rb_read.proofs.Loops.{beyond-fails}
use Rattle.rb_read.proofs.layout.+splits.Goals as goal

pub read_layout_tree-returns-then-levels-eq0 : goal.read_layout_tree-returns-then-levels-eq0
unfolding layout_tree
read_layout_tree-returns-then-levels-eq0 t c =
    rw (c.beyond.ensures, c.begins_tree.ensures, c.if-levels-eq0.true) (beyond-fails _ (λ t. begins_tree t) c.args.placed.now)

pub read_arms-returns : goal.read_arms-returns
read_arms-returns t c =
    c.read_each.ensures is_number (arm_tree (λ us. layout_tree c.args.levels c.args.total us)) (λ ps r h. search rules)
    (λ ps r h. search rules)
