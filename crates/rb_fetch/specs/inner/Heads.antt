-- The constructors of provenances by position, and the leaves that can still be a value's. A leaf is one of the forms
-- in which a layout stores the values of a data type; its provenance is the pattern of these values. A head is one of
-- the constructors of a provenance, with its position, a path of field numbers from the root; code has it as a
-- `Place`. A look is code that finds the leaf of the part at a position, and `looked` are the positions that need
-- none any more. Leaves are named by their numbers in the layout of a type t.
use Rattle.std.specs.Prelude.{◌≡◌, ℕ, ◌+◌, ◌==◌, ◌&&◌, List, [], ◌∷◌, ◌++◌, map, length, Bool, true, false, Option, Some, None, slice_get, if◌then◌else◌}
use Rattle.rb_core.specs.declared.types.ConRef.{ConRef}
use Rattle.rb_core.specs.declared.types.DataDecl.{DataDecl}
use Rattle.rb_core.specs.Typing.{field_types}
use Rattle.rb_layout.specs.declared.layout.Layout.{Layout}
use Rattle.rb_layout.specs.declared.layout.Leaf.{Leaf}
use Rattle.rb_layout.specs.Flattening.{same_path}
use Rattle.rb_layout.specs.Positions.{layout_of, leaves_of_layout}
use Rattle.rb_rel.specs.Switches.{HeadAt, inner_heads, is_leaf_for}
use Rattle.rb_fetch.specs.declared.heads.Place.{Place}
use Rattle.rb_fetch.specs.inner.Fields.{leaf_at}

-- the constructor and its position for which a place of the code stands
abbrev pub shown_head : Place → HeadAt
shown_head p = record { path = p.path; con = p.con }

-- the constructors and their positions for which places of the code stand, in order
abbrev pub shown_heads : List Place → List HeadAt
shown_heads ps = map shown_head ps

-- a constructor of the part at `path`, given at its position in the part, at its position in the whole
abbrev pub head_under : List ℕ → HeadAt → HeadAt
head_under path h = record { path = path ++ h.path; con = h.con }

-- Positions

-- whether a position is one of these
abbrev pub is_among : List (List ℕ) → List ℕ → Bool
is_among [] path = false
is_among (p ∷ ps) path = if same_path p path then true else is_among ps path

-- the position of each of the constructors ps is among `looked`
abbrev pub AreLookedAt : List (List ℕ) → List Place → Type 0
AreLookedAt looked ps = (k : ℕ) (p : Place) → slice_get ps k ≡ Some p → is_among looked p.path ≡ true

-- p is one of the constructors ps, and its position is not among `looked`
abbrev pub IsNext : List (List ℕ) → List Place → Place → Type 0
IsNext looked ps p = (k : ℕ) × (slice_get ps k ≡ Some p) × (is_among looked p.path ≡ false)

-- whether a constructor has no fields
abbrev pub is_bare : List DataDecl → ConRef → Bool
is_bare types con = length (field_types types con) == 0

-- the positions of those constructors that have no fields, in order: where one is known to stand, a look would find
-- nothing more, so that these positions need none
abbrev pub bare_paths : List DataDecl → List HeadAt → List (List ℕ)
bare_paths types [] = []
bare_paths types (h ∷ hs) = if is_bare types h.con then h.path ∷ bare_paths types hs else bare_paths types hs

-- Leaves

-- whether h, if it stands at `path`, is constructor number con of its type; true where it stands elsewhere
abbrev pub is_at : List ℕ → ℕ → HeadAt → Bool
is_at path con h = if same_path h.path path then h.con.con == con else true

-- whether no other constructor than con stands at `path`; true where none stands there
abbrev pub can_be : List ℕ → ℕ → List HeadAt → Bool
can_be path con [] = true
can_be path con (h ∷ hs) = is_at path con h && can_be path con hs

-- whether constructor con can stand at `path` in a value of the leaf: the leaf's provenance has it there, below its
-- root, or none; false without a leaf
abbrev pub can_be_leaf : List ℕ → ℕ → Option Leaf → Bool
can_be_leaf path con None = false
can_be_leaf path con (Some leaf) = can_be path con (inner_heads leaf)

-- those of the leaves ns of type t, by number, whose provenances have constructor con at `path`, or none there
abbrev pub leaves_that_can_be : List Layout → ℕ → List ℕ → ℕ → List ℕ → List ℕ
leaves_that_can_be layouts t path con [] = []
leaves_that_can_be layouts t path con (n ∷ ns) =
    if can_be_leaf path con (leaf_at layouts t n)
    then n ∷ leaves_that_can_be layouts t path con ns
    else leaves_that_can_be layouts t path con ns

-- those of the leaves ns of type t, by number, whose provenances have each of these constructors at its position, or
-- none there
abbrev pub leaves_beside : List Layout → ℕ → List HeadAt → List ℕ → List ℕ
leaves_beside layouts t [] ns = ns
leaves_beside layouts t (h ∷ hs) ns = leaves_beside layouts t hs (leaves_that_can_be layouts t h.path h.con.con ns)

-- the leaves for the values of constructor k, by number, where the first of the list has number n
abbrev pub leaves_for : ℕ → List Leaf → ℕ → List ℕ
leaves_for k [] n = []
leaves_for k (leaf ∷ leaves) n =
    if is_leaf_for k leaf then n ∷ leaves_for k leaves (n + 1) else leaves_for k leaves (n + 1)

-- the constructors below the root of a leaf's provenance; none without a leaf
abbrev pub heads_in : Option Leaf → List HeadAt
heads_in None = []
heads_in (Some leaf) = inner_heads leaf

-- whether one of the constructors stands at `path`
abbrev pub stands_at : List ℕ → List HeadAt → Bool
stands_at path [] = false
stands_at path (h ∷ hs) = if same_path h.path path then true else stands_at path hs

-- whether a leaf takes the part at `path` apart: its provenance has a constructor there, below its root; false
-- without a leaf
abbrev pub takes_apart : List ℕ → Option Leaf → Bool
takes_apart path None = false
takes_apart path (Some leaf) = stands_at path (inner_heads leaf)

-- whether one of the leaves ns of type t takes the part at `path` apart: its provenance has a constructor there
abbrev pub take_apart : List Layout → ℕ → List ℕ → List ℕ → Bool
take_apart layouts t path [] = false
take_apart layouts t path (n ∷ ns) =
    if takes_apart path (leaf_at layouts t n) then true else take_apart layouts t path ns

-- Parts

-- the rest of the second path behind the first; none where the second does not begin with the first
abbrev pub behind : List ℕ → List ℕ → Option (List ℕ)
behind [] path = Some path
behind (i ∷ above) [] = None
behind (i ∷ above) (j ∷ path) = if i == j then behind above path else None

-- constructor con at this position, in front of hs; hs alone where no position is given
abbrev pub head_behind : Option (List ℕ) → ConRef → List HeadAt → List HeadAt
head_behind None con hs = hs
head_behind (Some path) con hs = record { path = path; con = con } ∷ hs

-- those of the constructors that stand at `path` or below it, at their positions as seen from there
abbrev pub heads_behind : List ℕ → List HeadAt → List HeadAt
heads_behind path [] = []
heads_behind path (h ∷ hs) = head_behind (behind path h.path) h.con (heads_behind path hs)

-- the constructor at the path, by number: the first of these that stands there, or none
abbrev pub known_con : List ℕ → List HeadAt → Option ℕ
known_con path [] = None
known_con path (h ∷ hs) = if same_path h.path path then Some h.con.con else known_con path hs

-- the number in a list of one; none where there are more, or none
abbrev pub sole : List ℕ → Option ℕ
sole [] = None
sole (n ∷ []) = Some n
sole (n ∷ m ∷ ns) = None

-- the leaf of type t for the values of constructor k in whose parts the constructors hs stand, by number, where
-- exactly one fits; none without k
abbrev pub leaf_by : List Layout → ℕ → List HeadAt → Option ℕ → Option ℕ
leaf_by layouts t hs None = None
leaf_by layouts t hs (Some k) =
    sole (leaves_beside layouts t hs (leaves_for k (leaves_of_layout (layout_of layouts t)) 0))

-- the leaf of the part of type t at a path, where the constructors that are known there and below leave one
abbrev pub leaf_known : List Layout → ℕ → List ℕ → List HeadAt → Option ℕ
leaf_known layouts t path known = leaf_by layouts t (heads_behind path known) (known_con path known)
