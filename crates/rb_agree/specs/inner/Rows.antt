-- The rows of the graphs of types: what a graph lists for one type, each as often as it is found. A leaf is for the
-- values of its provenance, a pattern. Its root words are those outside of blocks. A layout flattens the types of the
-- constructors that stand below the root of a provenance, and holds the data types of the fields of which a word
-- stands in a root word.
use Rattle.std.specs.Prelude.{ℕ, List, [], ◌∷◌, map, Option, Some, None}
use Rattle.std.specs.List.{flat_map}
use Rattle.rb_core.specs.declared.types.ConRef.{ConRef}
use Rattle.rb_core.specs.declared.types.Ty.{Ty}
use Rattle.rb_core.specs.declared.types.Ty.TheVariants.{Int, Named}
use Rattle.rb_core.specs.declared.types.DataDecl.{DataDecl}
use Rattle.rb_core.specs.declared.pattern.Pat.{Pat}
use Rattle.rb_layout.specs.declared.layout.Layout.{Layout}
use Rattle.rb_layout.specs.declared.layout.Leaf.{Leaf}
use Rattle.rb_layout.specs.declared.layout.FlatWord.{FlatWord}
use Rattle.rb_layout.specs.declared.layout.Part.{Part}
use Rattle.rb_layout.specs.declared.layout.Kind.{Kind}
use Rattle.rb_layout.specs.declared.layout.Kind.TheVariants.{Const, Bits, Word, Pointer}
use Rattle.rb_layout.specs.Positions.{open_positions}
use Rattle.rb_layout.specs.Flattening.{type_at}
use Rattle.rb_layout.specs.A9.{cons_below, pattern_cons}

-- the types of constructors, in order
abbrev pub types_of_cons : List ConRef → List ℕ
types_of_cons cs = map (λ (c : ConRef). c.ty) cs

-- the types of all constructors in a pattern, its root's and those below it
abbrev pub pattern_types : Pat → List ℕ
pattern_types p = types_of_cons (pattern_cons p)

-- the types of the constructors below a provenance's root
abbrev pub below_types : Pat → List ℕ
below_types p = types_of_cons (cons_below p)

-- the types that a leaf flattens, those of the constructors below its provenance's root, once for each
abbrev pub leaf_types : Leaf → List ℕ
leaf_types leaf = below_types leaf.prov

-- the types that the leaves of a layout flatten, leaf by leaf
abbrev pub flat_row : Layout → List ℕ
flat_row layout = flat_map leaf_types layout.leaves

-- the data type that the type of a field is, as a list; empty where there is no such field, or it is an integer
abbrev pub held_type : Option Ty → List ℕ
held_type None = []
held_type (Some (Int bits)) = []
held_type (Some (Named s)) = s ∷ []

-- the data type of the field of which a part of this kind has a word, as a list; empty where it has none
abbrev pub kind_holds : List DataDecl → Pat → Kind → List ℕ
kind_holds types prov (Const c) = []
kind_holds types prov (Bits path a) = []
kind_holds types prov (Word path j) = held_type (type_at (open_positions types prov) path)
kind_holds types prov (Pointer align b) = []

-- the data type of the field of which a part has a word, as a list; empty where it has none
abbrev pub part_holds : List DataDecl → Pat → Part → List ℕ
part_holds types prov p = kind_holds types prov p.kind

-- the data types of the fields whose words stand in a word
abbrev pub word_holds : List DataDecl → Pat → FlatWord → List ℕ
word_holds types prov f = flat_map (part_holds types prov) f.parts

-- the data types of the fields whose words stand in a leaf's root words
abbrev pub leaf_holds : List DataDecl → Leaf → List ℕ
leaf_holds types leaf = flat_map (word_holds types leaf.prov) leaf.root

-- the data types of the fields whose words stand in the root words of a layout's leaves, leaf by leaf
abbrev pub held_row : List DataDecl → Layout → List ℕ
held_row types layout = flat_map (leaf_holds types) layout.leaves
