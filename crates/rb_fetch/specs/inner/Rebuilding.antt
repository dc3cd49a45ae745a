-- What code owes that rebuilds the parts that a leaf has taken apart. A leaf is one of the forms in which a layout
-- stores the values of a data type. It takes a part apart where its provenance, the pattern of the values that it
-- holds, has a constructor below its root: it holds only the part's fields, and the part is constructed of them
-- again. An open position is a wildcard of the provenance: the leaf holds the part there whole. A path is a list of
-- field numbers from the root. A plan has a program and its layouts, and a sheet is a function's code so far.
-- `agreed` is a program with layouts that agree with its types.
use Rattle.std.specs.Prelude.{◌≡◌, ℕ, ◌≤◌, ◌⊎◌, List, [], ◌∷◌, map, take, length, Bool, Option, Some, None}
use Rattle.std.specs.List.{sum_by}
use Rattle.rb_core.specs.declared.value.Value.{Value}
use Rattle.rb_core.specs.declared.types.Ty.{Ty}
use Rattle.rb_core.specs.declared.types.Ty.TheVariants.{Named}
use Rattle.rb_core.specs.declared.types.ConRef.{ConRef}
use Rattle.rb_core.specs.declared.pattern.Pat.{Pat, Con, out-Pat}
use Rattle.rb_core.specs.Values.{fields_of, part_at, subs}
use Rattle.rb_bytes.specs.Memory.{IsGood}
use Rattle.rb_target.specs.Growth.{Nowhere}
use Rattle.rb_target.specs.Meaning.{slots_at}
use Rattle.rb_target.specs.Sheet.{Sheet}
use Rattle.rb_layout.specs.declared.agreed.LaidOut.{LaidOut}
use Rattle.rb_layout.specs.declared.layout.Layout.{Layout}
use Rattle.rb_layout.specs.declared.layout.Leaf.{Leaf}
use Rattle.rb_layout.specs.Positions.{leaf_of, sub_of_layer, types_or_none}
use Rattle.rb_fragment.specs.declared.held.Held.{Held}
use Rattle.rb_fragment.specs.Plan.{Plan, Rep, words_needed}
use Rattle.rb_fragment.specs.Adding.{Adds}
use Rattle.rb_fragment.specs.Holding.{AllGiven, AreHeld, held_type}
use Rattle.rb_fragment.specs.Pieces.{AtEnd, CodePiece, Straight}
use Rattle.rb_fragment.specs.Slots.{AllBelow, IsOneOf}
use Rattle.rb_fetch.specs.Fields.{FieldAt, FieldIsFetched}
use Rattle.rb_fetch.specs.Finding.{IsPlanOf}
use Rattle.rb_fetch.specs.Positions.{PositionAt, mend_under}
use Rattle.rb_fetch.specs.inner.Fields.{leaf_at}
use Rattle.rb_fetch.specs.inner.Sound.{IsSound}

-- the subpattern for field i of a pattern; none where it is no constructor pattern, and past its fields
abbrev pub sub_at : Pat → ℕ → Option Pat
sub_at p i = sub_of_layer (out-Pat p) i

-- the pattern at a path of a pattern; none without a pattern, and where the path leads out of it
abbrev pub pattern_at : Option Pat → List ℕ → Option Pat
pattern_at None path = None
pattern_at (Some p) [] = Some p
pattern_at (Some p) (i ∷ path) = pattern_at (sub_at p i) path

-- type t has a leaf n, and its provenance is constructor c with the subpatterns ps
pub record IsRootLayer (agreed : LaidOut) (t n : ℕ) (c : ConRef) (ps : List Pat) : Type 0 where
  pub sound : IsSound agreed
  pub leaf : Leaf
  pub is_leaf : leaf_at agreed.layouts t n ≡ Some leaf
  pub at : ℕ
  pub is_root : leaf.prov ≡ Con at c ps

-- in every plan of the agreed program, the code from old to new leaves in `slots` the part at `path`, not the root,
-- of a value of leaf n of type t, whose words are in slots; pattern `pat` stands there in the leaf's provenance
abbrev pub FetchesPart : LaidOut → ℕ → ℕ → Pat → List ℕ → List ℕ → Sheet → Sheet → List ℕ → Type 0
FetchesPart agreed t n pat path words old new slots =
    (plan : Plan) → IsPlanOf agreed plan → (ty : Ty) (f : PositionAt plan t n path ty) → f.pat ≡ pat → (path ≡ [] → ⊥)
    → AllBelow old.slots words → length words ≡ words_needed plan (Named t)
    → FieldIsFetched plan t n path ty f words old new slots

-- A field at an open position is fetched without a switch: each of its slots is new, or is one of the value's.
pub record OpenIsFetched (plan : Plan) (t n : ℕ) (path : List ℕ) (ty : Ty) (layout : Layout) (words : List ℕ)
    (old new : Sheet) (slots : List ℕ) : Type 0 where
  pub adds : Adds plan old new
  pub given : AllBelow new.slots slots
  pub count : length slots ≡ words_needed plan ty
  pub origin : (x : ℕ) → IsOneOf x slots → (old.slots ≤ x) ⊎ IsOneOf x words
  pub runs : (clean : Bool) (v part : Value) → leaf_of layout v ≡ Some n → part_at v path ≡ Some part
      → Straight plan old.slots old new (λ s m. IsGood m × Rep plan m clean (Named t) v (slots_at s words))
      (λ s m. Rep plan m clean ty part (slots_at s slots))

-- in every plan of the agreed program, the code from old to new leaves in `slots` the field at `path`, an open
-- position of leaf n of type t, from the slots of a value's words, without a switch
abbrev pub FetchesOpen : LaidOut → ℕ → ℕ → List ℕ → List ℕ → Sheet → Sheet → List ℕ → Type 0
FetchesOpen agreed t n path words old new slots =
    (plan : Plan) → IsPlanOf agreed plan → (ty : Ty) (f : FieldAt plan t n path ty) → AllBelow old.slots words
    → length words ≡ words_needed plan (Named t)
    → OpenIsFetched plan t n path ty f.layout words old new slots

-- The code from old to new leaves in slots the parts at the first fields, as many as there are in hs, of constructor
-- c, which stands with the subpatterns ps at `path` in the provenance of leaf n of type t. The words of the value are
-- in the slots `words`. It does at most the switches that rebuild these parts.
pub record PartsAreFetched (plan : Plan) (t n : ℕ) (layout : Layout) (c : ConRef) (ps : List Pat) (path : List ℕ)
    (words : List ℕ) (old new : Sheet) (hs : List Held) : Type 0 where
  pub adds : Adds plan old new
  pub given : AllGiven plan new.slots hs
  pub kinds : map held_type hs ≡ take (length hs) (types_or_none (fields_of plan.program.types c))
  pub runs : (clean : Bool) (v part : Value) → leaf_of layout v ≡ Some n → part_at v path ≡ Some part
      → length hs ≤ length (subs part)
      → CodePiece plan old.slots old new Nowhere (sum_by (mend_under plan.layouts) (take (length hs) ps))
      (λ s m. IsGood m × Rep plan m clean (Named t) v (slots_at s words))
      (AtEnd new (λ s m. AreHeld plan clean s m hs (take (length hs) (subs part))))

-- in every plan of the agreed program, the code from old to new leaves in slots the parts at the first k fields of
-- constructor c, which stands with the subpatterns ps at `path` in the provenance of leaf n of type t
abbrev pub FetchesParts : LaidOut → ℕ → ℕ → ConRef → List Pat → ℕ → List ℕ → List ℕ → Sheet → Sheet → List Held → Type 0
FetchesParts agreed t n c ps k path words old new hs =
    (plan : Plan) → IsPlanOf agreed plan → (at : ℕ) (ty : Ty) (f : PositionAt plan t n path ty) → f.pat ≡ Con at c ps
    → AllBelow old.slots words → length words ≡ words_needed plan (Named t) → (length hs ≡ k)
    × PartsAreFetched plan t n f.layout c ps path words old new hs
