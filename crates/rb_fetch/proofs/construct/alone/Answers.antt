use Rattle.std.proofs.Common.{Some, sym, ap, ◌∙◌}
use Rattle.std.proofs.lemmas.Option.{slice_get-get_or}
use Rattle.rb_fetch.proofs.Alone.{none_more}
use Rattle.rb_fetch.proofs.construct.alone.Goals as goal

pub loop-leaf-preserved : goal.loop-leaf-preserved
loop-leaf-preserved c =
    let i = c.loop-leaf.leaf-index in
    let item = slice_get-get_or c.args.leaves.now i c.leaf-item.result c.loop-leaf-test.true ∙ ap Some (sym c.leaf-item.is) in
    none_more c.args.con c.args.leaves.now i c.leaf-item.result item (sym c.is_leaf_for.ensures ∙ c.if-is_leaf_for.false) c.loop-leaf.invariant
