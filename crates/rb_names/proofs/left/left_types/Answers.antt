use Rattle.rb_names.proofs.LeftLemmas.{numbers-all}
use Rattle.rb_names.proofs.left.left_types.Goals as goal

pub returns : goal.returns
returns c =
    numbers-all c.args.tree.now c.as_slice-items.result.now c.in-Ok.tables c.numbers_by.result c.as_slice-items.ensures c.requires c.in-Ok.ensures
    c.numbers_by.ensures
