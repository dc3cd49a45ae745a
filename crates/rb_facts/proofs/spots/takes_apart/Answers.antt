use Rattle.rb_facts.proofs.Deepness.{apart}
use Rattle.rb_facts.proofs.spots.takes_apart.Goals as goal

pub returns-in-Con : goal.returns-in-Con
returns-in-Con c e = apart c.args.leaf.now c.in-Con.field-0 c.in-Con.field-1 c.in-Con.subs c.in-Con.is (rw c.as_slice.ensures at (c.has_constructor.ensures e))
