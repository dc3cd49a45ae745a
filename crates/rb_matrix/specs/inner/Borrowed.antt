-- Borrowed patterns, of which the rows of a search are made, and the patterns themselves.
use Rattle.std.specs.Prelude.{List, map}
use Rattle.std.specs.Borrow.{Bor}
use Rattle.rb_core.specs.declared.pattern.Pat.{Pat}

-- the patterns that are borrowed, in their order
abbrev pub patterns_of : List (Bor Pat) → List Pat
patterns_of pats = map (λ (p : Bor Pat). p.now) pats
