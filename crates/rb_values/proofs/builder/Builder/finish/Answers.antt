use Rattle.rb_values.proofs.PostLemmas as posts
use Rattle.rb_values.proofs.builder.Builder.finish.Goals as goal

pub invariant_of-result : goal.invariant_of-result
invariant_of-result c = (posts.finished c.self.inside.nodes c.self.inside.done.items c.args.self c.self.invariant c.self.view_is c.requires).0

pub returns : goal.returns
returns c = (posts.finished c.self.inside.nodes c.self.inside.done.items c.args.self c.self.invariant c.self.view_is c.requires).1
