use Rattle.std.proofs.Common.{◌≡◌, ◌++◌, ◌∷◌, [], drop, map}
use Rattle.std.specs.List.{flat_map}
use Rattle.rb_peek.specs.Walks.{seen_of, where_of}
use Rattle.rb_peek.specs.inner.Checking.{all_seen, words_of_path, words_seen}
use Rattle.rb_peek.proofs.check.words_of.Given as goal

-- the words so far and those of the subvalues that are left are all
abbrev pub invariant-loop-passed : goal.invariant-loop-passed
invariant-loop-passed l =
    words_of_path l.agreed.layouts l.image (all_seen (where_of l.walk))
    ≡ l.found.items ++ flat_map (words_seen l.agreed.layouts l.image.blocks) (map seen_of (drop l.passed-index l.passed-items) ++ seen_of l.walk.last ∷ [])
