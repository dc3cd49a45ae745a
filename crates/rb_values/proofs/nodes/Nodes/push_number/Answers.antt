use Rattle.std.proofs.Common.{[]}
use Rattle.rb_values.specs.declared.nodes.Node.TheVariants.{Number}
use Rattle.rb_values.proofs.NodeLemmas as nodes
use Rattle.rb_values.proofs.nodes.Nodes.push_number.Goals as goal

pub invariant_of-self-2 : goal.invariant_of-self-2
invariant_of-self-2 c = rw c.in_ok-push.ensures.items (nodes.all_below c.self.inside.links.items c.self.inside.nodes.items (Number c.args.n) c.self.invariant tt)

pub returns-clause-ok : goal.returns-clause-ok
returns-clause-ok c = rw (c.in_ok-push.ensures.items, ← c.self.view_is) (nodes.push c.self.inside.links.items c.self.inside.nodes.items (Number c.args.n) [])
