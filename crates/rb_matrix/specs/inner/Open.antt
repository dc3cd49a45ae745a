-- Open rows: each of their patterns is a wildcard or a variable, so that they match every vector of their length. A
-- layer is the outermost node of a pattern, with its subpatterns below it.
use Rattle.std.specs.Prelude.{ℕ, List, [], ◌∷◌, length, Bool, true, false, ◌&&◌, ◌||◌, ◌==◌}
use Rattle.rb_core.specs.declared.pattern.Pat.{Pat, out-Pat}
use Rattle.rb_core.specs.declared.pattern.Pat.TheOpen as P
use Rattle.rb_core.specs.declared.pattern.Pat.TheOpen.{Pat-F}

-- whether a pattern, given by its layer, is a wildcard or a variable
abbrev pub layer_open : Pat-F Pat → Bool
layer_open (P.Wild at) = true
layer_open (P.Var at x) = true
layer_open (P.Num at n) = false
layer_open (P.Con at c ps) = false

-- whether each pattern of a row is a wildcard or a variable; so it is of the empty row
abbrev pub is_open : List Pat → Bool
is_open [] = true
is_open (p ∷ ps) = layer_open (out-Pat p) && is_open ps

-- whether some row has n patterns, each a wildcard or a variable; false where there is no row
abbrev pub any_open : List (List Pat) → ℕ → Bool
any_open [] n = false
any_open (r ∷ rs) n = ((length r == n) && is_open r) || any_open rs n
