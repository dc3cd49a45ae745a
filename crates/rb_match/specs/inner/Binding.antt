-- What code that binds owes at parts of a pattern. To bind a pattern is to give the value of each of its variables
-- slots: `bound` lists them, `scope` the variables with their types, and `bs` with their values. A leaf is one of the
-- forms in which a layout stores the values of data type t, given by its number; its provenance is the pattern of
-- these values. It takes a subvalue apart where it has the subvalue's fields in place of its words: to bind the
-- subvalue, code rebuilds (mends) it. A spot is slots in which a field is saved, whichever leaf it comes from; the
-- facts `known` say which spots hold their fields. `subs` are the patterns of a constructor's fields, or of those
-- from field i on, and `fields` the types of the same. A sheet is the code and the number of slots so far, `old`
-- before some code is appended and `new` behind it. The slots `words` hold the value's words. `agreed` is a program
-- with layouts that agree with its types; a plan of it has these, and the switches that its matches may cost. `clean`
-- asks that bits that no part of a value takes are 0. A memory is good where it is one that can come to be. A look is
-- code that finds the leaf of a part.
use Rattle.std.specs.Prelude.{◌≡◌, ℕ, ◌+◌, ◌<◌, ◌≤◌, ◌⊎◌, List, [], ◌∷◌, map, length, Bool, true, false, Some, slice_get}
use Rattle.std.specs.List.{list_all}
use Rattle.rb_core.specs.declared.value.Value.{Value, out-Value}
use Rattle.rb_core.specs.declared.types.Ty.{Ty}
use Rattle.rb_core.specs.declared.types.Ty.TheVariants.{Named}
use Rattle.rb_core.specs.declared.typing.Binder.{Binder}
use Rattle.rb_core.specs.declared.binding.Binding.{Binding}
use Rattle.rb_core.specs.declared.pattern.Pat.{Pat, Con}
use Rattle.rb_core.specs.declared.pattern.Pat.TheOpen as P
use Rattle.rb_core.specs.declared.pattern.Pat.TheOpen.{Pat-F}
use Rattle.rb_core.specs.declared.pattern.Pat.TheFolds.{fold-Pat}
use Rattle.rb_core.specs.Inference.{binders, all_binders}
use Rattle.rb_core.specs.Matching.{all_bindings, all_pass, bindings, matches_of}
use Rattle.rb_core.specs.Typing.{field_types}
use Rattle.rb_core.specs.Values.{part_at}
use Rattle.rb_bytes.specs.Memory.{IsGood, Memory}
use Rattle.rb_target.specs.Growth.{Nowhere}
use Rattle.rb_target.specs.Meaning.{slots_at}
use Rattle.rb_target.specs.Sheet.{Sheet}
use Rattle.rb_layout.specs.declared.agreed.LaidOut.{LaidOut}
use Rattle.rb_layout.specs.declared.layout.Layout.{Layout}
use Rattle.rb_layout.specs.declared.layout.Leaf.{Leaf}
use Rattle.rb_layout.specs.Positions.{layout_of, leaf_of}
use Rattle.rb_fragment.specs.declared.held.Local.{Local}
use Rattle.rb_fragment.specs.Adding.{Adds}
use Rattle.rb_fragment.specs.Holding.{AreGiven, Holds, IsOfLocal, scope_of}
use Rattle.rb_fragment.specs.Pieces.{AtEnd, CodePiece}
use Rattle.rb_fragment.specs.Plan.{Plan, Rep, words_needed}
use Rattle.rb_fragment.specs.Slots.{AllBelow, IsOneOf}
use Rattle.rb_fetch.specs.Finding.{IsPlanOf, leaf_count, leaf_within}
use Rattle.rb_matrix.specs.Apart.{PatternsAreApart}
use Rattle.rb_match.specs.Choosing.{BindsPattern}
use Rattle.rb_core.specs.declared.types.ConRef.{ConRef}
use Rattle.rb_core.specs.declared.value.Value.TheOpen as V
use Rattle.rb_match.specs.declared.binding.FieldSource.{FieldSource}
use Rattle.rb_match.specs.declared.binding.FieldSource.TheVariants as F
use Rattle.rb_facts.specs.declared.knowledge.Known.{Known}
use Rattle.rb_facts.specs.declared.knowledge.Spot.{Spot}
use Rattle.rb_facts.specs.Knowing.{AreKnown, FollowsSaved, view_of}
use Rattle.rb_match.specs.Bounding.{binding_bound, binding_look}
use Rattle.rb_facts.specs.Looks.{choosing_look, looks_with, places_below, places_in}
use Rattle.rb_facts.specs.Saving.{AreSpots, FetchesPart, IsThere, mend_at, mends_from}

-- no value of leaf n of data type t matches the pattern, or there is no such leaf
abbrev pub IsLeftOut : LaidOut → ℕ → Pat → ℕ → Type 0
IsLeftOut agreed t p n =
    (leaf : Leaf) → leaf_within (layout_of agreed.layouts t) n ≡ Some leaf → PatternsAreApart leaf.prov p

-- of the first `count` leaves of data type t none but this one has values that the pattern matches
abbrev pub IsOnly : LaidOut → ℕ → Pat → ℕ → ℕ → Type 0
IsOnly agreed t p leaf count = (n : ℕ) → n < count → (n ≡ leaf) ⊎ IsLeftOut agreed t p n

-- of all leaves of data type t none but this one has values that the pattern matches
abbrev pub IsOnlyLeaf : LaidOut → ℕ → Pat → ℕ → Type 0
IsOnlyLeaf agreed t p leaf = IsOnly agreed t p leaf (leaf_count agreed t)

-- whether a pattern has no variable, where that is given of each of its subpatterns
abbrev pub unbound_step : Pat-F Bool → Bool
unbound_step (P.Wild at) = true
unbound_step (P.Var at x) = false
unbound_step (P.Num at n) = true
unbound_step (P.Con at c bs) = list_all (λ b. b) bs

-- whether a pattern has no variable
abbrev pub is_unbound : Pat → Bool
is_unbound = fold-Pat Bool unbound_step

-- where the value has this leaf of data type t, the appended code leaves what some patterns bind in slots that are
-- new or the value's own, with at most `most` switches; `Parts` says of a value which bindings are asked of the
-- patterns
pub record BindsParts (plan : Plan) (most t leaf : ℕ) (words : List ℕ) (scope : List Binder) (old new : Sheet)
    (bound : List Local) (Parts : Value → List Binding → Type 0) : Type 0 where
  pub adds : Adds plan old new
  pub is_scope : scope_of bound ≡ scope
  pub given : AreGiven plan new.slots bound
  pub origin : (x : ℕ) → IsOfLocal x bound → (old.slots ≤ x) ⊎ IsOneOf x words
  pub runs : (clean : Bool) (v : Value) (bs : List Binding) (layout : Layout) → layout_of plan.layouts t ≡ Some layout
      → leaf_of layout v ≡ Some leaf → Parts v bs
      → CodePiece plan old.slots old new Nowhere most
      (λ s m. IsGood m × Rep plan m clean (Named t) v (slots_at s words))
      (AtEnd new (λ s m. Holds plan clean s m bound bs))

-- the fields of value v from number i on match these patterns, one each, which bind bs in all
abbrev pub FieldsMatch : List Pat → ℕ → Value → List Binding → Type 0
FieldsMatch subs i v bs =
    (vs : List Value) × ((j : ℕ) → part_at v ((i + j) ∷ []) ≡ slice_get vs j)
    × (all_pass (map matches_of subs) vs ≡ true) × (bs ≡ all_bindings (map bindings subs) vs)

-- the switches that bind the variables of the patterns of some fields, at most, once the fields' words stand in slots
abbrev pub fields_bound : Plan → List Pat → List Ty → ℕ
fields_bound plan subs fields =
    looks_with (binding_look plan.layouts) (places_below (map (places_in plan.program.types) subs) fields 0)

-- the appended code binds the variables of the patterns of the fields from i on, where the value has this leaf of
-- data type t
abbrev pub BindsFields : LaidOut → ℕ → ℕ → List ℕ → List Pat → List Ty → ℕ → Sheet → Sheet → List Local → Type 0
BindsFields agreed t leaf words subs fields i old new bound =
    (plan : Plan) → IsPlanOf agreed plan → AllBelow old.slots words → length words ≡ words_needed plan (Named t)
    → BindsParts plan (mends_from plan.layouts t leaf subs i + fields_bound plan subs fields) t leaf words
    (all_binders (map (binders plan.program.types) subs) fields) old new bound (FieldsMatch subs i)

-- field i of value v matches its pattern, which binds bs
abbrev pub FieldMatches : Pat → ℕ → Value → List Binding → Type 0
FieldMatches sub i v bs =
    (part : Value) × (part_at v (i ∷ []) ≡ Some part) × (matches_of sub part ≡ true) × (bs ≡ bindings sub part)

-- the appended code binds the variables of the pattern of field i, where the value has this leaf of data type t
abbrev pub BindsField : LaidOut → ℕ → ℕ → List ℕ → Pat → Ty → ℕ → Sheet → Sheet → List Local → Type 0
BindsField agreed t leaf words sub field i old new bound =
    (plan : Plan) → IsPlanOf agreed plan → AllBelow old.slots words → length words ≡ words_needed plan (Named t)
    → BindsParts plan (mend_at plan.layouts t leaf (i ∷ []) + binding_bound plan.program.types plan.layouts field sub)
    t leaf words (binders plan.program.types sub field) old new bound (FieldMatches sub i)

-- what the pattern binds at a value of type t, whose words stand in these slots, is bound without any code
abbrev pub BindsBare : Ty → Pat → List ℕ → List Local → Type 0
BindsBare t p words bound = (agreed : LaidOut) (old : Sheet) → BindsPattern agreed t p words old old bound

-- Saved fields ------------------------------------------------------------------------------------

-- these facts are so of value v, with these spots, contents of the slots and memory, and the memory is good
abbrev pub AreSeen : Plan → Bool → Value → List Spot → List Known → List ℕ → Memory → Type 0
AreSeen plan clean v spots known s m = IsGood m × AreKnown (view_of plan clean v spots s m) known

-- Run on the words of a value that begins with the constructor, whatever its leaf, the appended code saves
-- fields: the facts are known then. It does at most the switches of one look, and keeps the first n slots.
pub record SavedTogether (plan : Plan) (n : ℕ) (c : ConRef) (words : List ℕ) (spots : List Spot) (known : List Known)
    (old new : Sheet) : Type 0 where
  pub adds : Adds plan old new
  pub runs : (clean : Bool) (v : Value) (us : List Value) → out-Value v ≡ V.Con c.con us
      → CodePiece plan n old new Nowhere (choosing_look plan.layouts (Named c.ty))
      (λ s m. IsThere plan clean c.ty v words s m) (AtEnd new (λ s m. AreSeen plan clean v spots known s m))

-- the appended code saves fields of a value that begins with the constructor, whichever of its leaves it has
abbrev pub SavesTogether : LaidOut → ConRef → List ℕ → List Spot → List Known → Sheet → Sheet → Type 0
SavesTogether agreed c words spots known old new =
    (plan : Plan) (n : ℕ) → IsPlanOf agreed plan → AreSpots plan n old.slots spots → AllBelow old.slots words
    → length words ≡ words_needed plan (Named c.ty)
    → SavedTogether plan n c words spots known old new

-- the appended code leaves what some patterns bind in slots from n on, where these facts are known of the value, with
-- at most `most` switches; `Parts` says of a value which bindings are asked of the patterns
pub record BindsSaved (plan : Plan) (n most : ℕ) (spots : List Spot) (known : List Known) (scope : List Binder)
    (old new : Sheet) (bound : List Local) (Parts : Value → List Binding → Type 0) : Type 0 where
  pub adds : Adds plan old new
  pub is_scope : scope_of bound ≡ scope
  pub given : AreGiven plan new.slots bound
  pub origin : (x : ℕ) → IsOfLocal x bound → n ≤ x
  pub runs : (clean : Bool) (v : Value) (bs : List Binding) → Parts v bs
      → CodePiece plan old.slots old new Nowhere most (λ s m. AreSeen plan clean v spots known s m)
      (AtEnd new (λ s m. Holds plan clean s m bound bs))

-- the appended code binds the variables of the patterns of the fields from i on, from the spots that these facts say
-- hold fields
abbrev pub BindsSpots : LaidOut → List Spot → List Known → List Pat → List Ty → ℕ → Sheet → Sheet → List Local → Type 0
BindsSpots agreed spots known subs fields i old new bound =
    (plan : Plan) (n : ℕ) → IsPlanOf agreed plan → AreSpots plan n old.slots spots
    → BindsSaved plan n (fields_bound plan subs fields) spots known
    (all_binders (map (binders plan.program.types) subs) fields) old new bound (FieldsMatch subs i)

-- the appended code binds the variables of the pattern of field i, from the spots that these facts say hold fields
abbrev pub BindsSpot : LaidOut → List Spot → List Known → Pat → Ty → ℕ → Sheet → Sheet → List Local → Type 0
BindsSpot agreed spots known sub field i old new bound =
    (plan : Plan) (n : ℕ) → IsPlanOf agreed plan → AreSpots plan n old.slots spots
    → BindsSaved plan n (binding_bound plan.program.types plan.layouts field sub) spots known
    (binders plan.program.types sub field) old new bound (FieldMatches sub i)

-- Sources of fields -----------------------------------------------------------------------------

-- the slots are those of a spot that these facts say holds field i, which is of this type
abbrev pub StandsInSpot : List Spot → List Known → ℕ → Ty → List ℕ → Type 0
StandsInSpot spots known i field slots =
    (k : ℕ) × (spot : Spot) × (slice_get spots k ≡ Some spot) × (spot.position ≡ i ∷ []) × (spot.ty ≡ field)
    × FollowsSaved known k × (slots ≡ spot.slots)

-- the appended code leaves the words of field i, which is of this type, in slots, as the source has it
abbrev pub FieldStands : LaidOut → FieldSource → Ty → ℕ → Sheet → Sheet → List ℕ → Type 0
FieldStands agreed (F.Leaf value) field i old new slots =
    FetchesPart agreed value.ty value.leaf (i ∷ []) field value.words.now old new slots
FieldStands agreed (F.Spots spots known) field i old new slots = (new ≡ old) × StandsInSpot spots known i field slots

-- the appended code binds the variables of the pattern of field i, as the source has it
abbrev pub BindsFieldFrom : LaidOut → FieldSource → Pat → Ty → ℕ → Sheet → Sheet → List Local → Type 0
BindsFieldFrom agreed (F.Leaf value) sub field i old new bound =
    BindsField agreed value.ty value.leaf value.words.now sub field i old new bound
BindsFieldFrom agreed (F.Spots spots known) sub field i old new bound =
    BindsSpot agreed spots known sub field i old new bound

-- the appended code binds the variables of the patterns of the fields from i on, as the source has these
abbrev pub BindsFieldsFrom : LaidOut → FieldSource → List Pat → List Ty → ℕ → Sheet → Sheet → List Local → Type 0
BindsFieldsFrom agreed (F.Leaf value) subs fields i old new bound =
    BindsFields agreed value.ty value.leaf value.words.now subs fields i old new bound
BindsFieldsFrom agreed (F.Spots spots known) subs fields i old new bound =
    BindsSpots agreed spots known subs fields i old new bound

-- Where p is the constructor's pattern with these subpatterns and the types are those of its fields, code that binds
-- the fields from the source, behind the appended code, binds with that the pattern at a value of type t.
abbrev pub GivesFields : LaidOut → Ty → ConRef → List ℕ → Pat → List Pat → List Ty → FieldSource → Sheet → Sheet
    → Type 0
GivesFields agreed t c words p subs fields source old mid =
    (token : ℕ) → p ≡ Con token c subs → fields ≡ field_types agreed.covered.program.types c
    → (new : Sheet) (bound : List Local) → BindsFieldsFrom agreed source subs fields 0 mid new bound
    → BindsPattern agreed t p words old new bound

-- Sizes: each part of a pattern weighs less than what it is part of ------------------------------

-- the weights of a constructor's subpatterns together, and 2 more for each; 0 for none
abbrev pub weights : List ℕ → ℕ
weights [] = 0
weights (w ∷ ws) = w + 2 + weights ws

-- the weight of a pattern, from those of its subpatterns
abbrev pub weight_step : Pat-F ℕ → ℕ
weight_step (P.Wild at) = 1
weight_step (P.Var at x) = 1
weight_step (P.Num at n) = 1
weight_step (P.Con at c ws) = 2 + weights ws

-- the weight of a pattern, which is more than that of any of its subpatterns, so that walks down a pattern end
abbrev pub weight : Pat → ℕ
weight = fold-Pat ℕ weight_step
