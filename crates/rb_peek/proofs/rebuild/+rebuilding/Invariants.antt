use Rattle.std.proofs.Common.{◌≡◌, ◌+◌, ◌*◌, drop}
use Rattle.rb_peek.specs.Rebuilds.{fields_at, rebuilding_within}
use Rattle.rb_layout.specs.Opens.{opens_at}
use Rattle.rb_peek.specs.inner.Standing.{position_shown, with_fields}
use Rattle.rb_peek.proofs.rebuild.+rebuilding.Given as goal

abbrev pub decreases-rebuild_within : goal.decreases-rebuild_within
decreases-rebuild_within l = 4 * l.depth

abbrev pub decreases-words_at : goal.decreases-words_at
decreases-words_at l = 4 * l.depth + 1

abbrev pub decreases-words_along : goal.decreases-words_along
decreases-words_along l = 4 * l.depth + 2

abbrev pub decreases-fields_at : goal.decreases-fields_at
decreases-fields_at l = 4 * l.depth + 3

abbrev pub invariant-fields_at-loop-open : goal.invariant-fields_at-loop-open
invariant-fields_at-loop-open l =
    let types = l.agreed.covered.program.types in
    let layouts = l.agreed.layouts in
    let m = l.image.blocks in
    let go = fields_at types layouts m (rebuilding_within types layouts m l.depth) (position_shown l.view) in
    go (opens_at l.opens) ≡ with_fields l.fields (go (opens_at (drop l.open-index l.opens)))
