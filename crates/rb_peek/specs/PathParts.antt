-- The words of what stands at the end of a path, and that they are those of a part of the value that an image holds.
-- A path is a list of field numbers from the root words. A walk along it comes to the leaves of the subvalues on it;
-- it ends at the root of such a leaf, or inside one at a position: what the leaf's provenance, its pattern, has
-- there. m has the blocks of an image.
use Rattle.std.specs.Prelude.{◌≡◌, ◌⊎◌, ℕ, false, List, [], ◌∷◌, map, Some, Result, Ok}
use Rattle.rb_core.specs.declared.pattern.Pat.{Pat, out-Pat}
use Rattle.rb_core.specs.declared.pattern.Pat.TheOpen as P
use Rattle.rb_core.specs.declared.pattern.Pat.TheOpen.{Pat-F}
use Rattle.rb_core.specs.declared.program.Program.{Program}
use Rattle.rb_core.specs.declared.types.Ty.{Ty}
use Rattle.rb_core.specs.declared.types.Ty.TheVariants.{Int, Named}
use Rattle.rb_core.specs.declared.value.Value.{Value}
use Rattle.rb_core.specs.TypedPrograms.{IsTyped}
use Rattle.rb_core.specs.Values.{part_at}
use Rattle.rb_layout.specs.Agreement.{Agrees}
use Rattle.rb_layout.specs.Flattening.{flat_layouts}
use Rattle.rb_rel.specs.Relation.{Represents}
use Rattle.rb_image_text.specs.declared.fault.ImageFault.{ImageFault}
use Rattle.rb_image_text.specs.declared.image.Image.{Image}
use Rattle.rb_image_text.specs.declared.image.ImageBlock.{ImageBlock}
use Rattle.rb_image_text.specs.Images.{AreImageBlocks}
use Rattle.rb_image_text.specs.Places.{AreInPlace}
use Rattle.rb_image.specs.declared.kept.Kept.{Kept}
use Rattle.rb_image.specs.Falling.{RootDescends}
use Rattle.rb_image.specs.Integers.{field_bit, number_of_bits}
use Rattle.rb_image.specs.Memories.{image_memory}
use Rattle.rb_image.specs.Orders.{LocatedPart, order_of}
use Rattle.rb_image.specs.Roots.{kept_from}
use Rattle.rb_peek.specs.Paths.{part_bits}
use Rattle.rb_peek.specs.Walks.{Waypoint, Where, end_of_path}

-- any value may stand at a position that has this pattern, which is a wildcard or a name
abbrev pub IsOpenPattern : Pat-F Pat → Type 0
IsOpenPattern (P.Wild at) = Unit {0}
IsOpenPattern (P.Var at x) = Unit {0}
IsOpenPattern (P.Num at n) = ⊥
IsOpenPattern (P.Con at c ps) = ⊥

-- the integer of so many bits that stands in the leaf of subvalue s, at the path inside it along which one goes on
abbrev pub integer_in : List ImageBlock → Waypoint → ℕ → ℕ
integer_in m s bits =
    number_of_bits bits
    (field_bit (λ (part : LocatedPart). (part_bits m s part).number) (Int bits) (order_of s.leaf) s.at)

-- an integer stands at the end of walk w, and its one word is all of `words`
pub record IsIntegerEnd (m : List ImageBlock) (w : Where) (words : List ℕ) : Type 0 where
  pub bits : ℕ
  pub is_integer : w.here.ty ≡ Int bits
  pub is_open : IsOpenPattern (out-Pat w.here.pat)
  pub is_word : words ≡ integer_in m w.last bits ∷ []

-- these are the words of what stands at the end of walk w: of a subvalue of a data type, to whose own leaf one came,
-- or of an integer
abbrev pub IsEnd : List ImageBlock → Where → List ℕ → Type 0
IsEnd m w words = ((w.last.at ≡ []) × (words ≡ map (λ (k : Kept). k.number) w.last.words)) ⊎ IsIntegerEnd m w words

-- value v has a part at the path, and these words represent it at type ty in the memory of exactly the image's blocks
pub record IsPartThere (p : Program) (image : Image) (v : Value) (path : List ℕ) (ty : Ty) (words : List ℕ) : Type 0
  where
    pub part : Value
    pub is_part : part_at v path ≡ Some part
    pub represents : Represents p.types (flat_layouts p) (image_memory image.blocks) false ty part words

-- where an image holds a value, the words at the end of a path represent the part of the value there
abbrev pub PathsLeadToParts : Type 0
PathsLeadToParts =
    (p : Program) → IsTyped p → Agrees p → (image : Image) → AreInPlace image.blocks → AreImageBlocks image.blocks
    → (t : ℕ) (v : Value) → RootDescends p image (Named t) v → (path : List ℕ) (w : Where)
    → ◌≡◌ {A = Result Where ImageFault} (end_of_path p.types (flat_layouts p) image.blocks t (kept_from 0 image.root)
    path) (Ok w)
    → (words : List ℕ) → IsEnd image.blocks w words → IsPartThere p image v path w.here.ty words
