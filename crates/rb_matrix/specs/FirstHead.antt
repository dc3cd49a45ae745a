-- The first head that rows begin with. A head is a number or a constructor: what a pattern begins with that is no
-- wildcard and no variable. A row is a list of patterns, and begins with the head of its first.
use Rattle.std.specs.Prelude.{List, [], ◌∷◌, Option, None}
use Rattle.std.specs.Option.{option_or}
use Rattle.rb_core.specs.declared.pattern.Pat.{Pat}
use Rattle.rb_matrix.specs.declared.matrix.Head.{Head}
use Rattle.rb_matrix.specs.Heads.{row_head}

-- the head of the first row that begins with one; None where no row does
abbrev pub first_head : List (List Pat) → Option Head
first_head [] = None
first_head (r ∷ rs) = option_or (row_head r) (first_head rs)
