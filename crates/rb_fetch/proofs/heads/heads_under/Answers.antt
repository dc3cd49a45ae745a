use Rattle.rb_fetch.proofs.HeadForms.{inner_con}
use Rattle.rb_fetch.proofs.heads.heads_under.Goals as goal

pub returns-in_ok-add_heads_below-in-Con : goal.returns-in_ok-add_heads_below-in-Con
returns-in_ok-add_heads_below-in-Con c =
    inner_con c.args.leaf.now c.in-Con.field-0 c.in-Con.field-1 c.in-Con.pats c.args.path.now c.new-found.result c.add_heads_below.new.out c.in-Con.is c.new-found.ensures
    (rw c.as_slice.ensures at c.in_ok-add_heads_below-in-Con.ensures)
