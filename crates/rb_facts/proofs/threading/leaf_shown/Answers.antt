use Rattle.rb_facts.proofs.Shown.{at_leaf}
use Rattle.rb_facts.proofs.threading.leaf_shown.Goals as goal

pub returns-in_ok-leaf-in-Con : goal.returns-in_ok-leaf-in-Con
returns-in_ok-leaf-in-Con c = at_leaf c.args.agreed.now c.args.pat.now c.args.position c.in-Con.con.ty c.in_ok-leaf-in-Con.leaf c.in_ok-leaf-in-Con.ensures
