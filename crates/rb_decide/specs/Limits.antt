-- The limit of the trees of matches that are built.
use Rattle.std.specs.Prelude.{ℕ}

-- the most nodes that a tree of a match may have, clauses among them, so that it is built
abbrev pub largest_tree : ℕ
largest_tree = 512
