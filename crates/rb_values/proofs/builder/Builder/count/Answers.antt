use Rattle.std.proofs.Common.{length, map, sum, ◌∙◌, ap}
use Rattle.rb_core.specs.Values.{node_count}
use Rattle.rb_values.specs.Nodes.{at}
use Rattle.rb_values.proofs.PostLemmas as posts
use Rattle.rb_values.proofs.builder.Builder.count.Goals as goal

pub returns : goal.returns
returns c = c.len.ensures ∙ ap length c.self.invariant.order ∙ posts.count_all (map (at c.self.inside.nodes) c.self.inside.done.items) ∙ ap (λ vs. sum (map node_count vs)) c.self.view_is
