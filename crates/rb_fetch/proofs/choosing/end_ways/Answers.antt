use Rattle.std.proofs.Common.{◌++◌, ◌∷◌, [], ap, ◌∙◌}
use Rattle.rb_fetch.proofs.choosing.end_ways.Goals as goal

pub returns : goal.returns
returns c = (c.in_ok-way.way, c.in_ok-push.ensures.ok ∙ ap (λ ws. ws ++ c.in_ok-way.way ∷ []) c.new-ways.ensures, c.in_ok-way.ensures)
