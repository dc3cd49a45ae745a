-- Graphs whose edges all lead to lower ranks, where each number has a rank: such a graph has no cycle. A graph lists
-- for each number a row: those to which an edge leads from it.
use Rattle.std.specs.Prelude.{◌≡◌, ℕ, ◌<◌, List, Some, slice_get, slice_index_or}
use Rattle.rb_layout.specs.Graphs.{Leads}

-- the rank of number t; 0 where it has none
abbrev pub rank_of : List ℕ → ℕ → ℕ
rank_of ranks t = slice_index_or ranks t 0

-- each of the numbers in this row, to which number t leads, has a lower rank than t
abbrev pub RowFalls : List ℕ → ℕ → List ℕ → Type 0
RowFalls ranks t row = (k s : ℕ) → slice_get row k ≡ Some s → rank_of ranks s < rank_of ranks t

-- each edge of a graph leads from a number to one of lower rank
abbrev pub RanksFall : List (List ℕ) → List ℕ → Type 0
RanksFall graph ranks = (t s : ℕ) → Leads graph t s → rank_of ranks s < rank_of ranks t
