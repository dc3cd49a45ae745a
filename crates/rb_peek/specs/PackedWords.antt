-- That words which are packed from words of fields represent the value whose fields these are. A leaf of a layout
-- has a provenance, the pattern of its values, and its field at an open position, where any value may stand, is
-- given by a path of field numbers and the words there. Words represent a value cleanly if the bits that no part
-- says anything of are 0.
use Rattle.std.specs.Prelude.{◌≡◌, ℕ, List, [], Bool, Some, slice_get}
use Rattle.rb_core.specs.declared.program.Program.{Program}
use Rattle.rb_core.specs.declared.types.Ty.TheVariants.{Named}
use Rattle.rb_core.specs.declared.value.Value.{Value}
use Rattle.rb_core.specs.TypedPrograms.{IsTyped}
use Rattle.rb_core.specs.Values.{part_at}
use Rattle.rb_bytes.specs.Memory.{Memory, IsGood}
use Rattle.rb_layout.specs.declared.layout.Layout.{Layout}
use Rattle.rb_layout.specs.declared.layout.Leaf.{Leaf}
use Rattle.rb_layout.specs.Agreement.{Agrees}
use Rattle.rb_layout.specs.Flattening.{flat_layouts}
use Rattle.rb_layout.specs.Positions.{Open, layout_of, leaf_of, open_positions}
use Rattle.rb_rel.specs.Relation.{Represents}
use Rattle.rb_peek.specs.declared.pack.FieldWords.{FieldWords}
use Rattle.rb_peek.specs.Rebuilds.{words_of_leaf, words_at_path}

-- the words of each field at an open position of a leaf represent the part of the value there
abbrev pub FieldsRepresent : Program → Memory → Bool → Value → Leaf → List FieldWords → Type 0
FieldsRepresent p m clean v leaf fields = (k : ℕ) (o : Open) → slice_get (open_positions p.types leaf.prov) k ≡ Some o
    → (u : Value) × (part_at v o.path ≡ Some u)
    × Represents p.types (flat_layouts p) m clean o.ty u (words_at_path fields o.path)

-- where the words of its fields represent the parts of a value, those that they make in its leaf represent the value,
-- and cleanly where the fields' do
abbrev pub PackedWordsRepresent : Type 0
PackedWordsRepresent =
    (p : Program) → IsTyped p → Agrees p → (m : Memory) → IsGood m → (clean : Bool) (t : ℕ) (v : Value)
    → (layout : Layout) (n : ℕ) (leaf : Leaf) → layout_of (flat_layouts p) t ≡ Some layout → leaf_of layout v ≡ Some n
    → slice_get layout.leaves n ≡ Some leaf → leaf.blocks ≡ [] → (fields : List FieldWords)
    → FieldsRepresent p m clean v leaf fields
    → Represents p.types (flat_layouts p) m clean (Named t) v (words_of_leaf leaf fields)
