-- That a value without pointers is seen in its own leaf. To see words is to find the leaf to which the splits of
-- their type's layout lead, and its constants in them. A field stands open in the leaf where the leaf's provenance,
-- its pattern, lets any value stand. A type has pointers if a leaf of its layout has.
use Rattle.std.specs.Prelude.{◌≡◌, ℕ, List, [], ◌∷◌, false, Some, Ok, slice_get}
use Rattle.rb_core.specs.declared.program.Program.{Program}
use Rattle.rb_core.specs.declared.types.Ty.{Ty}
use Rattle.rb_core.specs.declared.types.Ty.TheVariants.{Int, Named}
use Rattle.rb_core.specs.declared.value.Value.{Value}
use Rattle.rb_core.specs.TypedPrograms.{IsTyped}
use Rattle.rb_core.specs.Values.{part_at}
use Rattle.rb_bytes.specs.Memory.{Memory, IsGood}
use Rattle.rb_layout.specs.declared.layout.Layout.{Layout}
use Rattle.rb_layout.specs.declared.layout.Leaf.{Leaf}
use Rattle.rb_layout.specs.A9.{HasPointerPart}
use Rattle.rb_layout.specs.Agreement.{Agrees}
use Rattle.rb_layout.specs.Flattening.{flat_layouts}
use Rattle.rb_layout.specs.Positions.{Open, layout_of, leaf_of, open_positions}
use Rattle.rb_rel.specs.Relation.{Represents}
use Rattle.rb_image_text.specs.declared.image.ImageBlock.{ImageBlock}
use Rattle.rb_image.specs.declared.kept.Kept.{Kept}
use Rattle.rb_peek.specs.Rebuilds.{numbers_of}
use Rattle.rb_peek.specs.Views.{LeafPosition, from_root, integer_here, taken_apart, words_here}

-- the words of what stands open at a path of the leaf of x: one of an integer, and those of a value of a data type
abbrev pub open_words : List Layout → List ImageBlock → LeafPosition → List ℕ → Ty → List ℕ
open_words layouts m x path (Int bits) = integer_here m (record x { at = path }) bits ∷ []
open_words layouts m x path (Named t) = numbers_of (words_here layouts m (record x { at = path }) t)

module _ (p : Program) (m : Memory) where
  -- words are seen in the leaf of a value, and what stands open there is represented by its words
  pub record AreSeen (t : ℕ) (v : Value) (ws : List Kept) : Type 0 where
    pub layout : Layout
    pub number : ℕ
    pub leaf : Leaf
    pub is_layout : layout_of (flat_layouts p) t ≡ Some layout
    pub is_leaf : leaf_of layout v ≡ Some number
    pub is_number : slice_get layout.leaves number ≡ Some leaf
    pub is_seen : taken_apart (flat_layouts p) t ws ≡ Ok (from_root t ws leaf)
    pub fields : (blocks : List ImageBlock) (k : ℕ) (o : Open)
        → slice_get (open_positions p.types leaf.prov) k ≡ Some o → (u : Value) × (part_at v o.path ≡ Some u)
        × Represents p.types (flat_layouts p) m false o.ty u
        (open_words (flat_layouts p) blocks (from_root t ws leaf) o.path o.ty)

-- words that represent a value of a type without pointers are seen in its leaf, though no image is looked at
abbrev pub ValuesAreSeen : Type 0
ValuesAreSeen = (p : Program) → IsTyped p → Agrees p → (m : Memory) → IsGood m → (t : ℕ) (v : Value) (ws : List Kept)
    → (HasPointerPart (flat_layouts p) t → ⊥) → Represents p.types (flat_layouts p) m false (Named t) v (numbers_of ws)
    → AreSeen p m t v ws
