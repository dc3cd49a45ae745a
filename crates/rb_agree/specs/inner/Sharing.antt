-- Leaves that may share a value: those whose provenances have no different constructors at a path of fields. A
-- provenance is the pattern of the values for which a leaf is, and a path leads to a place in it, by field numbers
-- from the root. A list of heads has for each leaf the number of the constructor at one path, None where none stands
-- there. A group is for one constructor: its members are the numbers of the leaves that may have it. A mark is off
-- where it is false.
use Rattle.std.specs.Prelude.{◌≡◌, ℕ, ◌<◌, List, [], ◌∷◌, map, Bool, Option, Some, None, slice_get}
use Rattle.rb_core.specs.declared.types.DataDecl.{DataDecl}
use Rattle.rb_core.specs.declared.pattern.Pat.{Pat, out-Pat}
use Rattle.rb_layout.specs.declared.layout.Leaf.{Leaf}
use Rattle.rb_layout.specs.A5.{HaveCommon}
use Rattle.rb_layout.specs.Positions.{con_of_layer, sub_of_layer}
use Rattle.rb_agree.specs.inner.Passing.{IsOff}

-- the number of the constructor at a path of a pattern, if there is a pattern and one stands there
abbrev pub con_from : Option Pat → List ℕ → Option ℕ
con_from None path = None
con_from (Some p) [] = con_of_layer (out-Pat p)
con_from (Some p) (i ∷ path) = con_from (sub_of_layer (out-Pat p) i) path

-- the number of the constructor at a path of a pattern, if one stands there
abbrev pub con_at : Pat → List ℕ → Option ℕ
con_at p path = con_from (Some p) path

-- for each leaf the number of the constructor at a path of its provenance, if one stands there
abbrev pub heads_in : List ℕ → List Leaf → List (Option ℕ)
heads_in path leaves = map (λ (leaf : Leaf). con_at leaf.prov path) leaves

-- a leaf may have constructor `con` at a path: it is the one that stands there, or none does
abbrev pub MayBe : Option ℕ → ℕ → Type 0
MayBe None con = Unit {0}
MayBe (Some d) con = d ≡ con

-- leaf m is one of these members of a group
abbrev pub IsMember : List ℕ → ℕ → Type 0
IsMember members m = (k : ℕ) × (slice_get members k ≡ Some m)

-- all leaves before number i that may have constructor `con` are among the members
abbrev pub HaveBefore : List (Option ℕ) → ℕ → ℕ → List ℕ → Type 0
HaveBefore heads con i members =
    (m : ℕ) (head : Option ℕ) → m < i → slice_get heads m ≡ Some head → MayBe head con → IsMember members m

-- all leaves that may have constructor `con` are among the members
abbrev pub HaveAll : List (Option ℕ) → ℕ → List ℕ → Type 0
HaveAll heads con members = (m : ℕ) (head : Option ℕ) → slice_get heads m ≡ Some head → MayBe head con
    → IsMember members m

-- for each constructor c that has a group, all leaves that may have it are among its members
abbrev pub AreGroups : List (Option ℕ) → List (List ℕ) → Type 0
AreGroups heads groups = (c : ℕ) (members : List ℕ) → slice_get groups c ≡ Some members → HaveAll heads c members

-- leaf n has a constructor, and all leaves that may have it are among the members
abbrev pub IsGroupOf : List (Option ℕ) → ℕ → List ℕ → Type 0
IsGroupOf heads n members = (c : ℕ) × (slice_get heads n ≡ Some (Some c)) × HaveAll heads c members

-- for some path these are the numbers of the constructors that stand there in the leaves' provenances, each if there
-- is one
abbrev pub AreHeads : List Leaf → List (Option ℕ) → Type 0
AreHeads leaves heads = (path : List ℕ) × (heads ≡ heads_in path leaves)

module _ (types : List DataDecl) (t : ℕ) where
  -- leaf n shares no value of type t with leaf m, where there is such a leaf and it is a later one
  abbrev pub SharesNot : List Leaf → ℕ → Leaf → ℕ → Type 0
  SharesNot leaves n leaf m =
      (later : Leaf) → n < m → slice_get leaves m ≡ Some later → HaveCommon types t leaf.prov later.prov → ⊥

  -- leaf n shares no value of type t with a later one among the first i of these members
  abbrev pub SharesNone : List Leaf → ℕ → Leaf → List ℕ → ℕ → Type 0
  SharesNone leaves n leaf members i =
      (k m : ℕ) (later : Leaf) → k < i → slice_get members k ≡ Some m → n < m → slice_get leaves m ≡ Some later
      → HaveCommon types t leaf.prov later.prov → ⊥

  -- leaf n shares no value of type t with a later one
  abbrev pub IsAlone : List Leaf → ℕ → Leaf → Type 0
  IsAlone leaves n leaf = (m : ℕ) → SharesNot leaves n leaf m

  -- each leaf whose mark is off shares no value of type t with a later one
  abbrev pub ApartWhereOff : List Leaf → List Bool → Type 0
  ApartWhereOff leaves marks =
      (n : ℕ) (leaf : Leaf) → IsOff marks n → slice_get leaves n ≡ Some leaf → IsAlone leaves n leaf
