-- The provenances of a layout's leaves. A provenance is the pattern of the values for which a leaf is.
use Rattle.std.specs.Prelude.{List, map}
use Rattle.rb_core.specs.declared.pattern.Pat.{Pat}
use Rattle.rb_layout.specs.declared.layout.Leaf.{Leaf}

-- the provenances of leaves, in order
abbrev pub provenances_in : List Leaf → List Pat
provenances_in leaves = map (λ (l : Leaf). l.prov) leaves
