-- That what is rebuilt represents the part of a value that was taken apart. A position is what a leaf's provenance,
-- its pattern of values, has at a path, a list of field numbers from its root; it is open where the pattern is a
-- wildcard or a name, so that any value may stand there. Where the pattern has a constructor, the leaf has taken the
-- value apart: its fields stand in parts of the leaf. The words that are rebuilt are those in the layout of its own
-- type.
use Rattle.std.specs.Prelude.{◌≡◌, ℕ, ◌++◌, List, Bool, true, false, Some, Result, Ok, Err, slice_get}
use Rattle.std.specs.List.{list_all}
use Rattle.rb_core.specs.declared.pattern.Pat.{Pat, fold-Pat}
use Rattle.rb_core.specs.declared.pattern.Pat.TheOpen as P
use Rattle.rb_core.specs.declared.pattern.Pat.TheOpen.{Pat-F}
use Rattle.rb_core.specs.declared.program.Program.{Program}
use Rattle.rb_core.specs.declared.types.ConRef.{ConRef}
use Rattle.rb_core.specs.declared.types.Ty.{Ty}
use Rattle.rb_core.specs.declared.value.Value.{Value}
use Rattle.rb_core.specs.Matching.{matches_of}
use Rattle.rb_core.specs.TypedPrograms.{IsTyped}
use Rattle.rb_core.specs.Values.{is_of_type, part_at}
use Rattle.rb_bytes.specs.Memory.{Memory, IsGood}
use Rattle.rb_layout.specs.A9.{HasPointerPart, pattern_cons}
use Rattle.rb_layout.specs.Agreement.{Agrees}
use Rattle.rb_layout.specs.Flattening.{flat_layouts}
use Rattle.rb_layout.specs.Positions.{Open, opens_of}
use Rattle.rb_rel.specs.Relation.{Represents}
use Rattle.rb_rel.specs.Provenances.{fits_type}
use Rattle.rb_image_text.specs.declared.fault.ImageFault.{ImageFault}
use Rattle.rb_image_text.specs.declared.fault.ImageFault.TheVariants.{Memory as NoMemory}
use Rattle.rb_image_text.specs.declared.image.ImageBlock.{ImageBlock}
use Rattle.rb_peek.specs.Rebuilds.{words_of}
use Rattle.rb_peek.specs.TakenApart.{open_words}
use Rattle.rb_peek.specs.Views.{LeafPosition}

-- whether a pattern has no numbers, given this of each of its fields: a wildcard or name has none
abbrev pub plain_step : Pat-F Bool → Bool
plain_step (P.Wild at) = true
plain_step (P.Var at x) = true
plain_step (P.Num at n) = false
plain_step (P.Con at c ps) = list_all (λ so. so) ps

-- whether a pattern has no numbers, however deep inside it
abbrev pub is_numberless : Pat → Bool
is_numberless = fold-Pat Bool plain_step

module _ (p : Program) where
  -- a pattern of a type, as it stands below the root of a provenance: it has no numbers, and the types that it takes
  -- apart have no pointers
  pub record IsInner (pat : Pat) (ty : Ty) : Type 0 where
    pub fits : fits_type p.types pat ty ≡ true
    pub plain : is_numberless pat ≡ true
    pub free : (k : ℕ) (c : ConRef) → slice_get (pattern_cons pat) k ≡ Some c → HasPointerPart (flat_layouts p) c.ty → ⊥

  module _ (m : Memory) (blocks : List ImageBlock) where
    -- a value stands at a position that has a pattern of a type: the pattern matches it, and what stands open below
    -- has words that represent the parts there
    pub record ValueStands (x : LeafPosition) (v : Value) (pat : Pat) (ty : Ty) : Type 0 where
      pub is_pat : x.here.pat ≡ pat
      pub is_ty : x.here.ty ≡ ty
      pub inner : IsInner pat ty
      pub typed : is_of_type p.types v ty ≡ true
      pub matches : matches_of pat v ≡ true
      pub fields : (k : ℕ) (o : Open) → slice_get (opens_of p.types pat ty) k ≡ Some o → (u : Value)
          × (part_at v o.path ≡ Some u)
          × Represents p.types (flat_layouts p) m false o.ty u
          (open_words (flat_layouts p) blocks x (x.at ++ o.path) o.ty)

    -- the words that are given represent the value at its type, or none are given for want of memory
    abbrev pub AreRight : Ty → Value → Result (List ℕ) ImageFault → Type 0
    AreRight ty v (Ok ws) = Represents p.types (flat_layouts p) m false ty v ws
    AreRight ty v (Err fault) = fault ≡ NoMemory

-- where a value stands at a position, the words that are given of what stands there represent it, or there is
-- want of memory
abbrev pub RebuiltWordsRepresent : Type 0
RebuiltWordsRepresent = (p : Program) → IsTyped p → Agrees p → (m : Memory) → IsGood m → (blocks : List ImageBlock)
    → (x : LeafPosition) (v : Value) (pat : Pat) (ty : Ty) → ValueStands p m blocks x v pat ty
    → AreRight p m blocks ty v (words_of p.types (flat_layouts p) blocks x)
