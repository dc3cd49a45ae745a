use Rattle.rb_target.proofs.Growing.{Grows-trans}
use Rattle.rb_match.proofs.Chosen.{tree_takes}
use Rattle.rb_match.proofs.Edges.{holes-low}
use Rattle.rb_match.proofs.choosing.emit_shared.Goals as goal

pub returns-clause-takes : goal.returns-clause-takes
returns-clause-takes c = λ tree unfolds lower.
    tree_takes c.args.agreed.now c.args.ty c.args.words.now c.args.pats.now c.in_ok-spots.spots tree c.args.graph.now c.args.body.now c.give_spots_for.new.body c.emit_graph.new.body c.in_ok-holes.holes unfolds lower
    c.in_ok-spots.ensures.gives c.in_ok-spots.ensures.grows c.in_ok-holes.ensures.holes (rw (c.as_slice-nodes.ensures, c.as_slice-spots.ensures) at c.in_ok-holes.ensures.takes)

pub returns-clause-holes : goal.returns-clause-holes
returns-clause-holes c = holes-low _ _ _ _ _ (c.in_ok-spots.ensures.grows.longer) c.in_ok-holes.ensures.holes

pub returns-clause-ways : goal.returns-clause-ways
returns-clause-ways c = c.in_ok-holes.ensures.ways

pub returns-clause-grows : goal.returns-clause-grows
returns-clause-grows c = Grows-trans _ _ _ c.in_ok-spots.ensures.grows c.in_ok-holes.ensures.grows
