use Rattle.std.proofs.Common.{◌-◌, length, ◌∙◌, ap}
use Rattle.rb_core.specs.Values.{node_count}
use Rattle.rb_values.specs.Nodes.{at}
use Rattle.rb_values.proofs.PostLemmas as posts
use Rattle.rb_values.proofs.forest.Forest.nodes.Goals as goal

pub returns : goal.returns
returns c = c.len.ensures ∙ ap length c.self.invariant ∙ posts.count_posts (at c.self.inside.nodes (length c.self.inside.nodes - 1)) ∙ ap node_count c.self.view_is
