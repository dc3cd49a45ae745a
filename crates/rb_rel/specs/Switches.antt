-- How many switches it takes to look at values: the numbers from which bounds are made. A switch is the step of code
-- that goes one of several ways by a word. A leaf takes a subvalue apart where a constructor of it stands below the
-- root of the leaf's provenance: it then holds the parts of the subvalue and not its words. Choosing is to find the
-- leaf of a construction, by looks at its arguments; mending is to rebuild such subvalues. Types and constructors are
-- named by their numbers; a constructor's number counts in its type.
use Rattle.std.specs.Prelude.{ℕ, zero, suc, ◌+◌, ◌*◌, ◌==◌, ◌&&◌, max, not, drop, length, List, [], ◌∷◌, ◌++◌, map, filter, Bool, false, Option, Some, None, if◌then◌else◌}
use Rattle.std.specs.List.{flat_map, sum_by, list_all}
use Rattle.rb_core.specs.declared.types.Ty.{Ty}
use Rattle.rb_core.specs.declared.types.Ty.TheVariants.{Int, Named}
use Rattle.rb_core.specs.declared.types.ConRef.{ConRef}
use Rattle.rb_core.specs.declared.pattern.Pat.{Pat}
use Rattle.rb_core.specs.declared.pattern.Pat.TheOpen as P
use Rattle.rb_core.specs.declared.pattern.Pat.TheOpen.{Pat-F}
use Rattle.rb_core.specs.declared.pattern.Pat.TheFolds.{fold-Pat}
use Rattle.rb_layout.specs.declared.layout.Leaf.{Leaf}
use Rattle.rb_layout.specs.declared.layout.Layout.{Layout}
use Rattle.rb_layout.specs.declared.layout.FlatTree.{FlatTree}
use Rattle.rb_layout.specs.declared.layout.FlatTree.TheOpen as T
use Rattle.rb_layout.specs.declared.layout.FlatTree.TheOpen.{FlatTree-F}
use Rattle.rb_layout.specs.declared.layout.FlatTree.TheFolds.{fold-FlatTree}
use Rattle.rb_layout.specs.declared.layout.FlatArm.{FlatArm-F}
use Rattle.rb_layout.specs.Flattening.{same_path}
use Rattle.rb_layout.specs.Positions.{layout_of, leaves_of_layout}

-- Splits -------------------------------------------------------------------------------------

-- the greatest of these numbers, and 0 where there is none
abbrev pub greatest : List ℕ → ℕ
greatest [] = 0
greatest (n ∷ ns) = max n (greatest ns)

-- a number that may be missing, and 0 where it is
abbrev pub or_zero : Option ℕ → ℕ
or_zero None = 0
or_zero (Some n) = n

-- how many splits stand one below the other in one layer of a tree, where this is given for the trees below: a split
-- adds one to the most of its arms and its `else`, and a leaf has none
abbrev pub nesting_step : FlatTree-F ℕ ℕ → ℕ
nesting_step (T.Split loc arms other) = 1 + max (greatest arms) (or_zero other)
nesting_step (T.Leaf n) = 0

-- the number of an arm is that of the tree below it
abbrev pub nesting_arm : FlatArm-F ℕ ℕ → ℕ
nesting_arm a = a.under

-- how many splits stand one below the other in a tree at most, and 0 where it is a leaf
abbrev pub nesting : FlatTree → ℕ
nesting = fold-FlatTree ℕ ℕ nesting_step nesting_arm

-- the nesting of a layout's splits, and 0 where the layout is missing
abbrev pub depth_in : Option Layout → ℕ
depth_in None = 0
depth_in (Some layout) = nesting layout.tree

-- The switches that show which leaf a value of a data type has: as many as splits stand one below the other in its
-- layout at most, and 0 without a layout. For an integer it is one, which shows the number.
abbrev pub depth_of : List Layout → Ty → ℕ
depth_of layouts (Int bits) = 1
depth_of layouts (Named t) = depth_in (layout_of layouts t)

-- Constructors of provenances ----------------------------------------------------------------

-- a constructor of a pattern, and its position: the path of field numbers that leads to it from the root
pub record HeadAt : Type 0 where
  pub path : List ℕ
  pub con : ConRef

-- a constructor in the subpattern for field i, with its position in the pattern around it
abbrev pub head_below : ℕ → HeadAt → HeadAt
head_below i h = record { path = i ∷ h.path; con = h.con }

-- the constructors of subpatterns, of which the first is that for field i, with their positions in the pattern around
-- them
abbrev pub heads_below : List (List HeadAt) → ℕ → List HeadAt
heads_below [] i = []
heads_below (hs ∷ hss) i = map (head_below i) hs ++ heads_below hss (i + 1)

-- the constructors of one layer of a pattern, where those of its subpatterns are given: a constructor at the empty
-- path, and then theirs; wildcards, variables and numbers have none
abbrev pub heads_step : Pat-F (List HeadAt) → List HeadAt
heads_step (P.Wild at) = []
heads_step (P.Var at x) = []
heads_step (P.Num at n) = []
heads_step (P.Con at c hss) = record { path = []; con = c } ∷ heads_below hss 0

-- the constructors of a pattern with their positions, that of its root first and then from left to right
abbrev pub heads_of : Pat → List HeadAt
heads_of = fold-Pat (List HeadAt) heads_step

-- the constructors below the root of a leaf's provenance, with their positions: what the leaf takes apart; none where
-- the root is no constructor
abbrev pub inner_heads : Leaf → List HeadAt
inner_heads leaf = drop 1 (heads_of leaf.prov)

-- the first of these constructors has number k in its type; not so where there is none
abbrev pub begins_with : ℕ → List HeadAt → Bool
begins_with k [] = false
begins_with k (h ∷ hs) = h.con.con == k

-- a leaf is for values of constructor k: its provenance begins with that constructor
abbrev pub is_leaf_for : ℕ → Leaf → Bool
is_leaf_for k leaf = begins_with k (heads_of leaf.prov)

-- two constructors stand at the same position and are of the same type
abbrev pub same_place : HeadAt → HeadAt → Bool
same_place a b = same_path a.path b.path && (a.con.ty == b.con.ty)

-- of these constructors, the first at each position for each type
abbrev pub distinct_places : List HeadAt → List HeadAt
distinct_places [] = []
distinct_places (h ∷ hs) = h ∷ filter (λ other. not (same_place h other)) (distinct_places hs)

-- the places below the root at which some leaf of type t, for values of constructor k, has a constructor in its
-- provenance, each once with the type there
abbrev pub places_of : List Layout → ℕ → ℕ → List HeadAt
places_of layouts t k =
    distinct_places (flat_map inner_heads (filter (is_leaf_for k) (leaves_of_layout (layout_of layouts t))))

-- Choosing and mending -----------------------------------------------------------------------

-- The switches that choose the leaf of a construction of type t by constructor k, where the switches of mending are
-- given for each type: over the places that leaves for it take apart, each once, the sum of those that show the leaf
-- of the value there and those that mend that value; 0 where no leaf for it takes anything apart.
abbrev pub choose_with : (ℕ → ℕ) → List Layout → ℕ → ℕ → ℕ
choose_with mend layouts t k =
    sum_by (λ (h : HeadAt). depth_of layouts (Named h.con.ty) + mend h.con.ty) (places_of layouts t k)

-- the switches that rebuild what a leaf has taken apart, where the switches of choosing are given for the
-- constructors of each type: their sum over the constructors below the root of its provenance
abbrev pub mend_leaf : (ℕ → ℕ → ℕ) → Leaf → ℕ
mend_leaf choose leaf = sum_by (λ (h : HeadAt). choose h.con.ty h.con.con) (inner_heads leaf)

-- The switches of mending for type t, counted through at most `n` types that are flattened into one another: in the
-- leaf where it takes most, and 0 where n is 0 or the type has no layout.
abbrev pub mend_within : List Layout → ℕ → ℕ → ℕ
mend_within layouts zero t = 0
mend_within layouts (suc n) t =
    greatest (map (mend_leaf (choose_with (mend_within layouts n) layouts)) (leaves_of_layout (layout_of layouts t)))

-- The switches that rebuild what the leaves of a type have taken apart, in the leaf where it takes most. A type's
-- mending asks for that of types that are flattened into it. Flattening has no cycle where layouts agree, so the
-- types on such a way are distinct and have layouts: there are no more of them than layouts.
abbrev pub mend_of : List Layout → ℕ → ℕ
mend_of layouts = mend_within layouts (length layouts)

-- the switches that choose the leaf of a construction of type t by constructor k; 0 where no leaf for it takes
-- anything apart
abbrev pub choose_of : List Layout → ℕ → ℕ → ℕ
choose_of layouts = choose_with (mend_of layouts) layouts

-- Looking ------------------------------------------------------------------------------------

-- a leaf takes nothing apart: its provenance has no constructor below its root
abbrev pub is_shallow : Leaf → Bool
is_shallow leaf = length (inner_heads leaf) == 0

-- The switches that a match spends at one position of this type. Where no leaf of the type takes anything apart,
-- those that show the value's leaf or number; else twice these together with those of mending. For a type without a
-- layout there are none.
abbrev pub look_of : List Layout → Ty → ℕ
look_of layouts (Int bits) = depth_of layouts (Int bits)
look_of layouts (Named t) =
    if list_all is_shallow (leaves_of_layout (layout_of layouts t))
    then depth_of layouts (Named t)
    else 2 * (depth_of layouts (Named t) + mend_of layouts t)
