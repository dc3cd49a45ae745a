-- How many heads, which is to say numbers and constructors, stand in patterns, at any depth. What a search through a
-- pattern matrix costs at most is reckoned from it.
use Rattle.std.specs.Prelude.{ℕ, ◌+◌, List, map, sum}
use Rattle.rb_core.specs.declared.pattern.Pat.{Pat}
use Rattle.rb_core.specs.declared.pattern.Pat.TheOpen as P
use Rattle.rb_core.specs.declared.pattern.Pat.TheOpen.{Pat-F}
use Rattle.rb_core.specs.declared.pattern.Pat.TheFolds.{fold-Pat}

-- how many numbers and constructors stand in a pattern, given by its outermost node with the counts of its
-- subpatterns in their places; none in a wildcard or a variable
abbrev pub heads_step : Pat-F ℕ → ℕ
heads_step (P.Wild at) = 0
heads_step (P.Var at x) = 0
heads_step (P.Num at k) = 1
heads_step (P.Con at c ns) = 1 + sum ns

-- how many numbers and constructors stand in a pattern; none in a wildcard or a variable
abbrev pub head_count : Pat → ℕ
head_count = fold-Pat ℕ heads_step

-- how many numbers and constructors stand in all patterns of a row; none in the empty row
abbrev pub row_head_count : List Pat → ℕ
row_head_count ps = sum (map head_count ps)

-- how many numbers and constructors stand in all patterns of some rows; none where there is no row
abbrev pub rows_head_count : List (List Pat) → ℕ
rows_head_count rs = sum (map row_head_count rs)
