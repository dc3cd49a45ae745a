-- The words of an image that lie on a path of field numbers from its root, and the faults that they have. A part is
-- a range of a word of the leaf: a constant, bits or a word of a field, or a pointer to one of the leaf's blocks. A
-- word is kept in the block that begins at its base, from byte `place` on, or, at base 0, as the root word with the
-- number `place`. A subvalue is of a data type, with a leaf of its own; a walk goes from one to the next. What comes
-- next on the path is what stands in a leaf at the path along which the walk goes on there. A pointer is refused
-- where it leads to no block of the size that the leaf's block has, or, from within a block, not below that block. m
-- has the blocks of an image, ws are the words of a leaf's root, and ats the addresses of its blocks by number, 0
-- for one that is not known.
use Rattle.std.specs.Prelude.{◌≡◌, ◌⊎◌, ℕ, ◌==◌, ◌&&◌, not, List, [], ◌∷◌, ◌++◌, length, Bool, true, Option, Some, None, Result, Ok, Err, slice_get, slice_index, if◌then◌else◌}
use Rattle.std.specs.List.{flat_map}
use Rattle.rb_core.specs.declared.types.DataDecl.{DataDecl}
use Rattle.rb_layout.specs.declared.layout.Kind.{Kind}
use Rattle.rb_layout.specs.declared.layout.Kind.TheVariants.{Const, Bits, Word, Pointer}
use Rattle.rb_layout.specs.declared.layout.Layout.{Layout}
use Rattle.rb_layout.specs.declared.layout.Leaf.{Leaf}
use Rattle.rb_image_text.specs.declared.fault.ImageFault.{ImageFault}
use Rattle.rb_image_text.specs.declared.fault.ImageFault.TheVariants.{BadBits, BadPointer, Memory, NoSuchPart}
use Rattle.rb_image_text.specs.declared.image.Image.{Image}
use Rattle.rb_image_text.specs.declared.image.ImageBlock.{ImageBlock}
use Rattle.rb_image.specs.declared.kept.Kept.{Kept}
use Rattle.rb_image.specs.Fields.{Position, field_of}
use Rattle.rb_image.specs.LeafWords.{block_addresses}
use Rattle.rb_image.specs.Orders.{LocatedPart, order_of}
use Rattle.rb_image.specs.Parts.{At, bits_at}
use Rattle.rb_image.specs.Roots.{kept_from, root_at}
use Rattle.rb_image.specs.Ways.{leads_below, refusal_of}
use Rattle.rb_peek.specs.declared.walk.Walk.{Walk}
use Rattle.rb_peek.specs.Asked.{asked_by}
use Rattle.rb_peek.specs.Walks.{Waypoint, Where, layout_at, where_after_step, open_data, see, end_of_path, where_of, words_on}

-- one of these words is kept in the block that begins at `base`, from byte `place` on; at base 0 it is the root word
-- with that number
pub record IsKeptAt (ks : List Kept) (base place : ℕ) : Type 0 where
  pub number : ℕ
  pub word : Kept
  pub is_word : slice_get ks number ≡ Some word
  pub is_base : word.base ≡ base
  pub is_place : word.place ≡ place

-- Leaves -------------------------------------------------------------------------------------

-- whether the words of a leaf's root, or of one of its blocks, are there: those of the root always, those of a block
-- where its address is known
abbrev pub is_there : List ℕ → Option ℕ → Bool
is_there ats None = true
is_there ats (Some b) = not (slice_index ats b == 0)

-- the word of a part, if it holds what stands at a path or below it, or its pointer leads to a word that does
abbrev pub word_below : List ImageBlock → Leaf → List Kept → List ℕ → List ℕ → LocatedPart → List Kept
word_below m leaf ws ats path s =
    if is_there ats s.block && leads_below leaf path s.part.kind then bits_at m ws ats s ∷ [] else []

-- those of a leaf's words that hold what stands at a path or below it, and those whose pointers lead to them
abbrev pub words_below : List ImageBlock → Leaf → List Kept → List ℕ → List ℕ → List Kept
words_below m leaf ws ats path = flat_map (word_below m leaf ws ats path) (order_of leaf)

-- the fault of a part with these bits: a constant that differs, or a pointer that is refused; none for other parts
abbrev pub part_fault : List ImageBlock → Leaf → Kept → Kind → Option ImageFault
part_fault m leaf bits (Const c) = if bits.number == c then None else Some (BadBits bits.base bits.place)
part_fault m leaf bits (Bits path a) = None
part_fault m leaf bits (Word path j) = None
part_fault m leaf bits (Pointer align b) = refusal_of m leaf bits (Pointer align b)

-- the fault is one that a word kept at `base` and `place` may have: `BadBits` there, or `BadPointer` at its base
abbrev pub Names : ImageFault → ℕ → ℕ → Type 0
Names fault base place = (fault ≡ BadBits base place) ⊎ ((address : ℕ) × (fault ≡ BadPointer base address))

-- Subvalues ----------------------------------------------------------------------------------

module _ (m : List ImageBlock) where
  -- the words that hold what one goes on to from a subvalue, and those whose pointers lead to them
  abbrev pub words_ahead : Waypoint → List Kept
  words_ahead s = words_below m s.leaf s.words (block_addresses m s.leaf s.words) s.at

  -- the bits of a part of the leaf of a subvalue, with where they are kept: of a root word, or of a word of a block
  -- to which the leaf's pointers lead; the number 0 where no pointer leads there
  abbrev pub part_bits : Waypoint → LocatedPart → Kept
  part_bits s part = bits_at m s.words (block_addresses m s.leaf s.words) part

  -- a part of the leaf of subvalue s, the word of which is there, has this fault, and that word is kept at `base`
  -- and `place`
  pub record HasBadPart (s : Waypoint) (base place : ℕ) (fault : ImageFault) : Type 0 where
    pub number : ℕ
    pub part : LocatedPart
    pub is_part : slice_get (order_of s.leaf) number ≡ Some part
    pub is_read : is_there (block_addresses m s.leaf s.words) part.block ≡ true
    pub is_base : (part_bits s part).base ≡ base
    pub is_place : (part_bits s part).place ≡ place
    pub is_fault : part_fault m s.leaf (part_bits s part) part.part.kind ≡ Some fault

module _ (layouts : List Layout) (m : List ImageBlock) where
  -- the words that the splits of the value at a place read on the way to its leaf; none where its type has no layout
  abbrev pub words_asked : At → List Kept
  words_asked x = asked_by (layout_at layouts x.ty).tree m x.words

  -- r is what is seen of the value at a place: its leaf is found there, or r is the fault of its splits
  abbrev pub IsSeen : At → Result Waypoint ImageFault → Type 0
  IsSeen x r = see layouts m x.ty x.words ≡ r

  -- a word has a fault in a subvalue: a split has no arm for its bits, or passes a pointer in it that is refused; or
  -- a part of the leaf does not hold in it
  abbrev pub IsAtFault : At → ℕ → ℕ → ImageFault → Type 0
  IsAtFault x base place fault =
      (IsSeen x (Err fault) × IsKeptAt (words_asked x) base place × Names fault base place)
      ⊎ ((s : Waypoint) × IsSeen x (Ok s) × HasBadPart m s base place fault)

-- Paths --------------------------------------------------------------------------------------

module _ (types : List DataDecl) (layouts : List Layout) (image : Image) (t : ℕ) (path : List ℕ) where
  -- the root words of the image, as they are kept there
  abbrev pub root : List Kept
  root = kept_from 0 image.root

  -- from the value at the root words one comes as far as w along `first`, the first steps of a path
  abbrev pub IsCome : List ℕ → Where → Type 0
  IsCome first w = ◌≡◌ {A = Result Where ImageFault} (end_of_path types layouts image.blocks t root first) (Ok w)

  -- one has come so far by the first steps of a path, and the next step is to field i, which stands at a position
  pub record IsStep (w : Where) (i : ℕ) (pos : Position) : Type 0 where
    pub first : List ℕ
    pub rest : List ℕ
    pub is_path : path ≡ first ++ i ∷ rest
    pub is_here : IsCome first w
    pub is_field : field_of types w.here.pat i ≡ Some pos

  -- from subvalue s one goes on to the place x: its words stand at the path of the leaf of s along which one goes on
  abbrev pub LeadsTo : Waypoint → At → Type 0
  LeadsTo s x = ◌≡◌ {A = Result (List Kept) ImageFault} (words_on layouts image.blocks s x.ty) (Ok x.words)

  -- a step of the path leads to a subvalue of a data type, which stands at the place x
  pub record IsEntered (x : At) : Type 0 where
    pub before : Where
    pub field : ℕ
    pub here : Position
    pub is_step : IsStep before field here
    pub is_data : open_data here ≡ Some x.ty
    pub is_words : LeadsTo (where_after_step before field here).last x

  -- at this place stands a subvalue of a data type on the path: the value at the root words, or one that a step
  -- leads to, that at the end of the path included
  abbrev pub IsOnPath : At → Type 0
  IsOnPath x = (x ≡ root_at t image.root) ⊎ IsEntered x

  -- the word kept at `base` and `place` holds what a step of the path leads to, or what is below that, or its pointer
  -- leads to such a word
  pub record IsWordAhead (base place : ℕ) : Type 0 where
    pub before : Where
    pub field : ℕ
    pub here : Position
    pub is_step : IsStep before field here
    pub is_kept : IsKeptAt (words_ahead image.blocks (where_after_step before field here).last) base place

  -- a word on the path: of the root; one that the splits of a subvalue on the path read; or one that holds what comes
  -- next on the path or below that, or whose pointer leads to such a word
  abbrev pub IsPathWord : ℕ → ℕ → Type 0
  IsPathWord base place = IsKeptAt root base place
      ⊎ ((x : At) × IsOnPath x × IsKeptAt (words_asked layouts image.blocks x) base place)
      ⊎ IsWordAhead base place

  -- a word on the path has this fault in one of the subvalues that are examined
  pub record HasPathFault (Examined : At → Type 0) (fault : ImageFault) : Type 0 where
    pub base : ℕ
    pub place : ℕ
    pub on_path : IsPathWord base place
    pub subvalue : At
    pub is_examined : Examined subvalue
    pub is_fault : IsAtFault layouts image.blocks subvalue base place fault

  -- the next step names no field: the constructor that was found has none of this number, or an integer stands there
  pub record LacksField (number : ℕ) : Type 0 where
    pub first : List ℕ
    pub field : ℕ
    pub rest : List ℕ
    pub before : Where
    pub is_path : path ≡ first ++ field ∷ rest
    pub is_number : number ≡ length first
    pub is_here : IsCome first before
    pub is_none : field_of types before.here.pat field ≡ None

  -- the fault is `NoSuchPart` with the number of a step of the path that names no field
  abbrev pub HasNoPart : ImageFault → Type 0
  HasNoPart fault = (number : ℕ) × (fault ≡ NoSuchPart number) × LacksField number

  -- walk w has come to the end of the whole path
  abbrev pub IsWalked : Walk → Type 0
  IsWalked w = IsCome path (where_of w)

  -- no word on the path is at fault in a subvalue on it
  abbrev pub IsFaultless : Type 0
  IsFaultless = (fault : ImageFault) → HasPathFault IsOnPath fault → ⊥

  -- a word on the path has this fault in a subvalue on it, or a step names no field; or there is want of memory
  abbrev pub IsPathFault : ImageFault → Type 0
  IsPathFault fault = HasPathFault IsOnPath fault ⊎ HasNoPart fault ⊎ (fault ≡ Memory)
