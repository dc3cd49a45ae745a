use Rattle.std.proofs.Common.{◌≡◌, ◌++◌, ◌∷◌, [], drop, map}
use Rattle.rb_peek.specs.Walks.{seen_of, where_of}
use Rattle.rb_peek.specs.inner.Checking.{all_seen, fault_of_seen, has_word}
use Rattle.rb_peek.proofs.check.fault_of.Given as goal

abbrev pub invariant-loop-passed : goal.invariant-loop-passed
invariant-loop-passed l =
    let first = fault_of_seen (has_word l.path) l.image.blocks in
    first (all_seen (where_of l.walk)) ≡ first (map seen_of (drop l.passed-index l.passed-items) ++ seen_of l.walk.last ∷ [])
