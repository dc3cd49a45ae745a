-- The subvalues along a path, from one that stands at known words of an image on. A path is a list of field numbers.
-- A position is what a leaf's provenance, its pattern of values, has at a path, a list of field numbers from its
-- root; it is open where the pattern is a wildcard or a name, so that any value may stand there. Where a value of a
-- data type stands open, one goes on to the leaf of the value there: it is seen, that is its leaf is found by its
-- splits. m has the blocks of an image, and ws are words of a value.
use Rattle.std.specs.Prelude.{◌≡◌, ℕ, ◌+◌, List, [], ◌∷◌, ◌++◌, map, Option, Some, None, Result, Ok, Err, slice_get}
use Rattle.rb_core.specs.declared.pattern.Pat.{Pat, Wild, out-Pat}
use Rattle.rb_core.specs.declared.pattern.Pat.TheOpen as P
use Rattle.rb_core.specs.declared.pattern.Pat.TheOpen.{Pat-F}
use Rattle.rb_core.specs.declared.types.DataDecl.{DataDecl}
use Rattle.rb_core.specs.declared.types.Ty.{Ty}
use Rattle.rb_core.specs.declared.types.Ty.TheVariants.{Int, Named}
use Rattle.rb_layout.specs.declared.layout.FlatTree.TheVariants as T
use Rattle.rb_layout.specs.declared.layout.Layout.{Layout}
use Rattle.rb_layout.specs.declared.layout.Leaf.{Leaf}
use Rattle.rb_layout.specs.Positions.{layout_of}
use Rattle.rb_layout.specs.Readable.{IsReadable}
use Rattle.rb_rel.specs.Relation.{word_count}
use Rattle.rb_image_text.specs.declared.fault.ImageFault.{ImageFault}
use Rattle.rb_image_text.specs.declared.fault.ImageFault.TheVariants.{NoSuchPart}
use Rattle.rb_image_text.specs.declared.image.Image.{Image}
use Rattle.rb_image_text.specs.declared.image.ImageBlock.{ImageBlock}
use Rattle.rb_image.specs.declared.kept.Kept.{Kept}
use Rattle.rb_image.specs.FieldSites.{AreNarrow, HasNarrowParts}
use Rattle.rb_image.specs.Fields.{Position, field_of, position_of}
use Rattle.rb_image.specs.LeafWords.{HasNumbers, block_addresses}
use Rattle.rb_image.specs.Orders.{order_of}
use Rattle.rb_image.specs.Parts.{field_word, field_words}
use Rattle.rb_image.specs.Sites.{kept_of}
use Rattle.rb_image.specs.Splits.{and_then, leaf_at, or_fault}
use Rattle.rb_image.specs.Visits.{own_span}
use Rattle.rb_image.specs.Ways.{refused_below}
use Rattle.rb_peek.specs.declared.walk.Passed.{Passed}
use Rattle.rb_peek.specs.declared.walk.Walk.{Walk}

-- a subvalue of a data type that was come to: its type, the words at which it stands, its leaf, and the path inside
-- the leaf along which one goes on from it
pub record Waypoint : Type 0 where
  pub ty : ℕ
  pub words : List Kept
  pub leaf : Leaf
  pub at : List ℕ

-- how far one has come: the subvalues of data types before,
-- outer ones first, the last of them, and the position in its leaf
pub record Where : Type 0 where
  pub before : List Waypoint
  pub last : Waypoint
  pub here : Position

-- Leaves -------------------------------------------------------------------------------------

-- a layout, and where there is none an empty one; each declared type has a layout
abbrev pub layout_or_none : Option Layout → Layout
layout_or_none None = record { ty = 0; shape = []; tree = T.Leaf 0; leaves = [] }
layout_or_none (Some layout) = layout

-- a leaf, and an empty one where there is none; that to which splits lead is there
abbrev pub leaf_or_none : Option Leaf → Leaf
leaf_or_none None = record { prov = Wild 0; root = []; blocks = [] }
leaf_or_none (Some leaf) = leaf

-- the number of the data type that a type is, none for an integer
abbrev pub data_of : Ty → Option ℕ
data_of (Int bits) = None
data_of (Named t) = Some t

-- t, which may be a data type, at a position whose pattern lets any value stand there; none at another
abbrev pub open_in : Pat-F Pat → Option ℕ → Option ℕ
open_in (P.Wild at) t = t
open_in (P.Var at x) t = t
open_in (P.Num at n) t = None
open_in (P.Con at c ps) t = None

-- the data type of a position at which any value of it may stand; none at another, and none for an integer
abbrev pub open_data : Position → Option ℕ
open_data pos = open_in (out-Pat pos.pat) (data_of pos.ty)

-- Steps --------------------------------------------------------------------------------------

-- the words ws, or the fault where there is one
abbrev pub unless : Option ImageFault → List Kept → Result (List Kept) ImageFault
unless None ws = Ok ws
unless (Some fault) ws = Err fault

-- how far one has come at the root of the leaf of subvalue s, after the subvalues `before`
abbrev pub where_at_root : List Waypoint → Waypoint → Where
where_at_root before s = record { before = before; last = s; here = record { pat = s.leaf.prov; ty = Named s.ty } }

-- how far one has come after a step from w to field i inside the same leaf, which has pos there
abbrev pub where_after_step : Where → ℕ → Position → Where
where_after_step w i pos = record { before = w.before; last = record w.last { at = w.last.at ++ i ∷ [] }; here = pos }

-- the number that `go` gives of what was found, and 0 of a fault
abbrev pub count_found : {A : Type 0} → Result A ImageFault → (A → ℕ) → ℕ
count_found (Err fault) go = 0
count_found (Ok x) go = go x

-- the layout of the data type with this number, an empty one where there is none
abbrev pub layout_at : List Layout → ℕ → Layout
layout_at layouts t = layout_or_none (layout_of layouts t)

module _ (layouts : List Layout) (m : List ImageBlock) where
  -- the subvalue of the data type with a number at these words, with no step inside its leaf, or the first fault of
  -- its splits
  abbrev pub see : ℕ → List Kept → Result Waypoint ImageFault
  see t ws = let layout = layout_at layouts t in
      and_then (leaf_at layout.tree m ws)
      (λ n. Ok (record { ty = t; words = ws; leaf = leaf_or_none (slice_get layout.leaves n); at = [] }))

  -- the words of the value of data type t that stands at the path along which one goes on from subvalue s, or the
  -- first pointer that is refused on the way
  abbrev pub words_on : Waypoint → ℕ → Result (List Kept) ImageFault
  words_on s t =
      let ats = block_addresses m s.leaf s.words in
      unless (refused_below m s.leaf s.words ats s.at (order_of s.leaf))
      (field_words (field_word m s.words ats (order_of s.leaf)) s.at 0 (word_count layouts (Named t)))

  -- how far one has come from w: where a data type is given, to the root of the leaf of its value there, or to the
  -- first fault of that; else no further
  abbrev pub where_settled : Where → Option ℕ → Result Where ImageFault
  where_settled w None = Ok w
  where_settled w (Some t) =
      and_then (words_on w.last t) (λ ws. and_then (see t ws) (λ s. Ok (where_at_root (w.before ++ w.last ∷ []) s)))

module _ (types : List DataDecl) (layouts : List Layout) (m : List ImageBlock) where
  -- from w one comes to field i of the constructor that was found; if there is none, step k of the path names no part
  abbrev pub step : ℕ → Where → ℕ → Result Where ImageFault
  step k w i =
      and_then (or_fault (field_of types w.here.pat i) (NoSuchPart k))
      (λ pos. where_settled layouts m (where_after_step w i pos) (open_data pos))

  -- how far one comes from w along the rest of a path, the first of which is step k of the whole, or the first fault
  abbrev pub steps : ℕ → Where → List ℕ → Result Where ImageFault
  steps k w [] = Ok w
  steps k w (i ∷ path) = and_then (step k w i) (λ v. steps (k + 1) v path)

  -- where a path leads from the value of a data type at these words, or the first fault on the way
  abbrev pub end_of_path : ℕ → List Kept → List ℕ → Result Where ImageFault
  end_of_path t ws path = and_then (see layouts m t ws) (λ s. steps 0 (where_at_root [] s) path)

-- Spans --------------------------------------------------------------------------------------

-- the own span of a data type to whose leaf one comes: its splits and its words; 0 where none is given
abbrev pub span_at : List Layout → Option ℕ → ℕ
span_at layouts None = 0
span_at layouts (Some t) = own_span (layout_at layouts t)

-- the own span of the data type of a position at which any value of it may stand; 0 at another, and where there is
-- none
abbrev pub open_span : List Layout → Option Position → ℕ
open_span layouts None = 0
open_span layouts (Some pos) = span_at layouts (open_data pos)

module _ (types : List DataDecl) (layouts : List Layout) (m : List ImageBlock) where
  -- the sum of the own spans of the data types to whose leaves one comes from w along the rest of a path, from step k
  -- on; one on the way to whose leaf a fault ends the walk counts too
  abbrev pub steps_span : ℕ → Where → List ℕ → ℕ
  steps_span k w [] = 0
  steps_span k w (i ∷ path) =
      open_span layouts (field_of types w.here.pat i)
      + count_found (step types layouts m k w i) (λ v. steps_span (k + 1) v path)

  -- the sum of the own spans of data type t and of those to whose leaves one comes along a path from a value of it;
  -- one on the way to whose leaf a fault ends the walk counts too
  abbrev pub walk_span : ℕ → List Kept → List ℕ → ℕ
  walk_span t ws path = span_at layouts (Some t) + count_found (see layouts m t ws)
      (λ s. steps_span 0 (where_at_root [] s) path)

-- What was passed ----------------------------------------------------------------------------

-- the subvalue that a `Passed` of the code is, without its sites
abbrev pub seen_of : Passed → Waypoint
seen_of x = record { ty = x.ty; words = x.visited.words.root.items; leaf = x.visited.leaf.now; at = x.at }

-- how far one has come, as a `Walk` of the code has it
abbrev pub where_of : Walk → Where
where_of w = record { before = map seen_of w.before.items; last = seen_of w.last; here = position_of w.here }

-- the subvalue x stands in the image at the sites that it has, and the words of its leaf were read there
pub record IsPassed (image : Image) (x : Passed) : Type 0 where
  pub narrow : AreNarrow x.sites.items
  pub words : map (kept_of image) x.sites.items ≡ x.visited.words.root.items
  pub readable : IsReadable x.visited.leaf.now
  pub parts : HasNarrowParts x.visited.leaf.now
  pub addresses : x.visited.words.addresses.items
      ≡ block_addresses image.blocks x.visited.leaf.now x.visited.words.root.items
  pub numbers : HasNumbers image.blocks x.visited.leaf.now x.visited.words

-- each subvalue on walk w, the last included, stands at its sites, and the words of its leaf were read
pub record ArePassed (image : Image) (w : Walk) : Type 0 where
  pub before : (k : ℕ) (x : Passed) → slice_get w.before.items k ≡ Some x → IsPassed image x
  pub last : IsPassed image w.last
