-- Values that a leaf has taken apart, rebuilt in the layout of their own type. A position is what a leaf's
-- provenance, its pattern of values, has at a path, a list of field numbers from its root; it is open where the
-- pattern is a wildcard or a name, so that any value may stand there. Where the pattern has a constructor, the leaf
-- has taken the value apart: its fields stand in parts of the leaf. Here x is a position with its leaf and the words
-- of that, m has the blocks of an image, and `Memory` is the fault where there is no leaf, field or level to go on
-- with.
use Rattle.std.specs.Prelude.{ℕ, zero, suc, ◌+◌, ◌==◌, ◌&&◌, List, [], ◌∷◌, length, map, Bool, true, false, Option, Some, None, Result, Ok, Err, if◌then◌else◌}
use Rattle.rb_core.specs.declared.pattern.Pat.{Pat, out-Pat, fold-Pat}
use Rattle.rb_core.specs.declared.pattern.Pat.TheOpen as P
use Rattle.rb_core.specs.declared.pattern.Pat.TheOpen.{Pat-F}
use Rattle.rb_core.specs.declared.types.ConRef.{ConRef}
use Rattle.rb_core.specs.declared.types.DataDecl.{DataDecl}
use Rattle.rb_core.specs.declared.types.Ty.{Ty}
use Rattle.rb_core.specs.declared.types.Ty.TheVariants.{Int, Named}
use Rattle.rb_layout.specs.declared.layout.Layout.{Layout}
use Rattle.rb_layout.specs.declared.layout.Leaf.{Leaf}
use Rattle.rb_layout.specs.Flattening.{same_path}
use Rattle.rb_layout.specs.Positions.{Open, open_positions}
use Rattle.rb_coding.specs.Packing.{word_made}
use Rattle.rb_image_text.specs.declared.fault.ImageFault.{ImageFault}
use Rattle.rb_image_text.specs.declared.fault.ImageFault.TheVariants.{Memory}
use Rattle.rb_image_text.specs.declared.image.ImageBlock.{ImageBlock}
use Rattle.rb_image.specs.declared.kept.Kept.{Kept}
use Rattle.rb_image.specs.LeafWords.{block_addresses}
use Rattle.rb_image.specs.Orders.{order_of}
use Rattle.rb_image.specs.Splits.{and_then}
use Rattle.rb_image.specs.Ways.{refused_below}
use Rattle.rb_peek.specs.declared.pack.FieldWords.{FieldWords}
use Rattle.rb_peek.specs.Views.{LeafPosition, along, down, integer_here, settled_here, words_here}
use Rattle.rb_peek.specs.Walks.{Where, layout_at}

-- The leaf -----------------------------------------------------------------------------------

-- what a provenance comes to at a position: whether it matches what stands there, or the first fault that keeps this
-- from being known
abbrev pub Matching : Type 0
Matching = LeafPosition → Result Bool ImageFault

-- whether the field at a position matches, as `go` says; false where there is no such field
abbrev pub match_field : Matching → Option LeafPosition → Result Bool ImageFault
match_field go None = Ok false
match_field go (Some x) = go x

-- whether two references name the same constructor of the same data type
abbrev pub same_con : ConRef → ConRef → Bool
same_con c d = (c.ty == d.ty) && (c.con == d.con)

module _ (types : List DataDecl) where
  -- whether the fields of what stands at x match, one matching for each from field i on; the first that does not
  -- match or is not known decides, and it is true where none is left
  abbrev pub match_fields : List Matching → LeafPosition → ℕ → Result Bool ImageFault
  match_fields [] x i = Ok true
  match_fields (go ∷ gos) x i =
      and_then (match_field go (down types x i)) (λ so. if so then match_fields gos x (i + 1) else Ok false)

  -- whether the pattern given last, that at x, is constructor c, and the fields there match; false of another
  -- constructor, and of a wildcard, a name or a number
  abbrev pub match_con : ConRef → List Matching → LeafPosition → Pat-F Pat → Result Bool ImageFault
  match_con c gos x (P.Wild at) = Ok false
  match_con c gos x (P.Var at v) = Ok false
  match_con c gos x (P.Num at n) = Ok false
  match_con c gos x (P.Con at d ps) = if same_con c d then match_fields gos x 0 else Ok false

-- the leaf that was found later, or, where a later fault was, the fault before it
abbrev pub or_fault_before : ImageFault → Result Leaf ImageFault → Result Leaf ImageFault
or_fault_before fault (Ok leaf) = Ok leaf
or_fault_before fault (Err later) = Err fault

-- `leaf` where it is known to match, and what `later` is where it is known not to; where a fault keeps it from being
-- known, the leaf that was found later, or else this fault
abbrev pub or_later : Result Bool ImageFault → Leaf → Result Leaf ImageFault → Result Leaf ImageFault
or_later (Ok true) leaf later = Ok leaf
or_later (Ok false) leaf later = later
or_later (Err fault) leaf later = or_fault_before fault later

module _ (types : List DataDecl) (layouts : List Layout) (m : List ImageBlock) where
  -- what a provenance comes to, given this of its fields: a constructor asks for the leaf of what stands open
  -- at its position, a wildcard asks for nothing, and numbers, of which provenances have none, never match
  abbrev pub match_step : Pat-F Matching → Matching
  match_step (P.Wild at) x = Ok true
  match_step (P.Var at v) x = Ok true
  match_step (P.Num at n) x = Ok false
  match_step (P.Con at c gos) x =
      and_then (settled_here layouts m x) (λ y. match_con types c gos y (out-Pat y.here.pat))

  -- whether a provenance matches what stands at a position, or the first fault that keeps this from being known
  abbrev pub matches : Pat → Matching
  matches = fold-Pat Matching match_step

  -- the first leaf whose provenance is known to match; where none is, the first fault that kept one from being known,
  -- or want of memory where there was none
  abbrev pub leaf_chosen : List Leaf → LeafPosition → Result Leaf ImageFault
  leaf_chosen [] x = Err Memory
  leaf_chosen (leaf ∷ leaves) x = or_later (matches leaf.prov x) leaf (leaf_chosen leaves x)

-- The words ----------------------------------------------------------------------------------

-- the words of the first of these fields that is at the path; none where no field is
abbrev pub words_at_path : List FieldWords → List ℕ → List ℕ
words_at_path [] path = []
words_at_path (f ∷ fs) path = if same_path f.path path then f.words else words_at_path fs path

-- the words of a leaf without pointers: each part in its place, and 0 elsewhere
abbrev pub words_of_leaf : Leaf → List FieldWords → List ℕ
words_of_leaf leaf fields = map (word_made (words_at_path fields) (λ b. 0)) leaf.root

-- the numbers of words, without where they are kept
abbrev pub numbers_of : List Kept → List ℕ
numbers_of ws = map (λ (w : Kept). w.number) ws

-- what gives the words of the value at a position, which is of the data type with a number, or the first fault
abbrev pub Rebuilding : Type 0
Rebuilding = ℕ → LeafPosition → Result (List ℕ) ImageFault

module _ (types : List DataDecl) (layouts : List Layout) (m : List ImageBlock) where
  -- the words of the value of data type t at position x, which has this pattern: where any value may stand, those
  -- that stand there; a constructor, which was taken apart, is rebuilt
  abbrev pub data_words : Rebuilding → ℕ → LeafPosition → Pat-F Pat → Result (List ℕ) ImageFault
  data_words rebuilt_words t x (P.Wild at) = Ok (numbers_of (words_here layouts m x t))
  data_words rebuilt_words t x (P.Var at v) = Ok (numbers_of (words_here layouts m x t))
  data_words rebuilt_words t x (P.Num at n) = Err Memory
  data_words rebuilt_words t x (P.Con at c ps) = rebuilt_words t x

  -- the words of what stands at position x and is of this type, or the first fault; an integer is one word
  abbrev pub words_at : Rebuilding → Ty → LeafPosition → Result (List ℕ) ImageFault
  words_at rebuilt_words (Int bits) x = Ok (integer_here m x bits ∷ [])
  words_at rebuilt_words (Named t) x = data_words rebuilt_words t x (out-Pat x.here.pat)

  -- the words of what stands at the end of a path of field numbers from position x on, or the first fault
  abbrev pub words_along : Rebuilding → LeafPosition → List ℕ → Result (List ℕ) ImageFault
  words_along rebuilt_words x path = and_then (along types layouts m x path) (λ y. words_at rebuilt_words y.here.ty y)

  -- the paths and words of what stands below x at each of these open positions, which are those of the leaf in which
  -- the value at x is rebuilt; or the first fault
  abbrev pub fields_at : Rebuilding → LeafPosition → List Open → Result (List FieldWords) ImageFault
  fields_at rebuilt_words x [] = Ok []
  fields_at rebuilt_words x (o ∷ os) =
      and_then (words_along rebuilt_words x o.path) (λ ws.
      and_then (fields_at rebuilt_words x os) (λ fields. Ok (record { path = o.path; words = ws } ∷ fields)))

  -- the words of a value of a data type in the leaf whose provenance matches it, or the first fault, where values
  -- that are rebuilt stand one inside the other at most so many levels deep
  abbrev pub rebuilding_within : ℕ → Rebuilding
  rebuilding_within zero t x = Err Memory
  rebuilding_within (suc n) t x =
      and_then (leaf_chosen types layouts m (layout_at layouts t).leaves x) (λ leaf.
      and_then (fields_at (rebuilding_within n) x (open_positions types leaf.prov)) (λ fields.
      Ok (words_of_leaf leaf fields)))

  -- The words of what stands at a position, or the first fault. A type that holds another is not held in it, so
  -- values that are rebuilt stand one inside the other at most as many levels deep as there are layouts.
  abbrev pub words_of : LeafPosition → Result (List ℕ) ImageFault
  words_of x = words_at (rebuilding_within (length layouts)) x.here.ty x

  -- the position at which a walk ends, in the last leaf to which it came, with the words of that and the addresses of
  -- its blocks
  abbrev pub end_of : Where → LeafPosition
  end_of w =
      record {
        leaf = w.last.leaf;
        root = w.last.words;
        addresses = block_addresses m w.last.leaf w.last.words;
        at = w.last.at;
        here = w.here;
      }

  -- the words of what stands at position x, or the fault that is given, where there is one
  abbrev pub unless_refused : Option ImageFault → LeafPosition → Result (List ℕ) ImageFault
  unless_refused None x = words_of x
  unless_refused (Some fault) x = Err fault

  -- the words of what stands at the end of a walk inside a leaf,
  -- where no pointer on the way to a field of it is refused
  abbrev pub rebuilt_words : Where → Result (List ℕ) ImageFault
  rebuilt_words w = let x = end_of w in
      unless_refused (refused_below m x.leaf x.root x.addresses x.at (order_of x.leaf)) x
