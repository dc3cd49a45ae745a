-- Positions in leaves of which the words are known, and how one goes on from them to the positions below. A position
-- is what a leaf's provenance, its pattern of values, has at a path, a list of field numbers from its root; it is
-- open where the pattern is a wildcard or a name, so that any value may stand there. A value without pointers that
-- stands open there has a leaf of its own, to which its splits lead. m has the blocks of an image; x and y are
-- positions with their leaf and its words, and ws are the words of a value.
use Rattle.std.specs.Prelude.{ℕ, List, [], ◌∷◌, ◌++◌, length, replicate, Option, Some, None, Result, Ok, slice_get}
use Rattle.rb_core.specs.declared.types.DataDecl.{DataDecl}
use Rattle.rb_core.specs.declared.types.Ty.TheVariants.{Int, Named}
use Rattle.rb_layout.specs.declared.layout.Layout.{Layout}
use Rattle.rb_layout.specs.declared.layout.Leaf.{Leaf}
use Rattle.rb_rel.specs.Relation.{word_count}
use Rattle.rb_image_text.specs.declared.fault.ImageFault.{ImageFault}
use Rattle.rb_image_text.specs.declared.fault.ImageFault.TheVariants.{Memory}
use Rattle.rb_image_text.specs.declared.image.ImageBlock.{ImageBlock}
use Rattle.rb_image.specs.declared.kept.Kept.{Kept}
use Rattle.rb_image.specs.Fields.{Position, field_of}
use Rattle.rb_image.specs.Integers.{field_bit, number_of_bits}
use Rattle.rb_image.specs.Orders.{order_of}
use Rattle.rb_image.specs.Parts.{addresses_of, bits_at, field_word, field_words}
use Rattle.rb_image.specs.Splits.{and_then, leaf_at, or_fault}
use Rattle.rb_peek.specs.Walks.{layout_at, leaf_or_none, open_data}

-- a position in a leaf: the leaf, the words of its root, the addresses of its blocks, the path from the root, and
-- what its provenance has there
pub record LeafPosition : Type 0 where
  pub leaf : Leaf
  pub root : List Kept
  pub addresses : List ℕ
  pub at : List ℕ
  pub here : Position

-- the position of a value of data type t at the root of its leaf, whose words are ws; no address of a block is known
abbrev pub from_root : ℕ → List Kept → Leaf → LeafPosition
from_root t ws leaf = record {
  leaf = leaf;
  root = ws;
  addresses = replicate (length leaf.blocks) 0;
  at = [];
  here = record { pat = leaf.prov; ty = Named t };
}

-- the position of field i below x, where the provenance has pos there; none where it has no such field
abbrev pub down_to : LeafPosition → ℕ → Option Position → Option LeafPosition
down_to x i None = None
down_to x i (Some pos) = Some (record x { at = x.at ++ i ∷ []; here = pos })

-- the position of field i: none where no constructor stands here, or one that has no such field
abbrev pub down : List DataDecl → LeafPosition → ℕ → Option LeafPosition
down types x i = down_to x i (field_of types x.here.pat i)

-- A value that has no pointers is looked at without an image: its splits lead to its leaf, and each constant of that
-- is there, or this is the first fault.
abbrev pub taken_apart : List Layout → ℕ → List Kept → Result LeafPosition ImageFault
taken_apart layouts t ws =
    and_then (leaf_at (layout_at layouts t).tree [] ws) (λ n.
    let leaf = leaf_or_none (slice_get (layout_at layouts t).leaves n) in
    and_then (addresses_of [] leaf ws) (λ none. Ok (from_root t ws leaf)))

-- the integer of so many bits that stands at position x; a bit that no part of the leaf holds is 0
abbrev pub integer_here : List ImageBlock → LeafPosition → ℕ → ℕ
integer_here m x bits =
    number_of_bits bits (field_bit (λ s. (bits_at m x.root x.addresses s).number) (Int bits) (order_of x.leaf) x.at)

module _ (layouts : List Layout) (m : List ImageBlock) where
  -- the words of the value of data type t that stands open at position x: for each the bits of the first part of the
  -- leaf that holds it, the number 0 where none does
  abbrev pub words_here : LeafPosition → ℕ → List Kept
  words_here x t = field_words (field_word m x.root x.addresses (order_of x.leaf)) x.at 0 (word_count layouts (Named t))

  -- where one goes on from position x: where a data type is given, from the root of the leaf of the value at x, or
  -- there is the first fault of that; else from x itself
  abbrev pub settled_at : LeafPosition → Option ℕ → Result LeafPosition ImageFault
  settled_at x None = Ok x
  settled_at x (Some t) = taken_apart layouts t (words_here x t)

  -- where one goes on from position x: where any value of a data type may stand, from the root of that value's own
  -- leaf, or there is the first fault of that; else from x itself
  abbrev pub settled_here : LeafPosition → Result LeafPosition ImageFault
  settled_here x = settled_at x (open_data x.here)

module _ (types : List DataDecl) (layouts : List Layout) (m : List ImageBlock) where
  -- the position of field i of the value at x, or the first fault; want of memory where there is no such field
  abbrev pub step_down : LeafPosition → ℕ → Result LeafPosition ImageFault
  step_down x i = and_then (settled_here layouts m x) (λ y. or_fault (down types y i) Memory)

  -- the position to which a path of field numbers leads from x, or the first fault on the way
  abbrev pub along : LeafPosition → List ℕ → Result LeafPosition ImageFault
  along x [] = Ok x
  along x (i ∷ path) = and_then (step_down x i) (λ y. along y path)
