-- What reads over the words of a leaf's values mean: its parts, integers in slices, and words of fields. A slice is a
-- part that holds some bits of an integer; a share is bits of a read, with the bit at which they stand in a whole. A
-- read is a number that code can make from slots and loads; a range of it, a span, is some of its bits. A field
-- stands at an open position of the leaf, a path of field numbers from the root: `subs` has the words of the value at
-- each, and `ats` the address of each block.
use Rattle.std.specs.Prelude.{◌≡◌, ℕ, ◌+◌, ◌<◌, ◌≤◌, ◌==◌, ◌&&◌, List, map, length, Bool, true, Option, Some, slice_get, slice_index}
use Rattle.std.specs.List.{list_all}
use Rattle.rb_core.specs.declared.types.Ty.TheVariants.{Int, Named}
use Rattle.rb_bits.specs.Words.{IsRange, take_of}
use Rattle.rb_bytes.specs.Memory.{Memory, IsGood}
use Rattle.rb_layout.specs.declared.layout.Layout.{Layout}
use Rattle.rb_layout.specs.declared.layout.Leaf.{Leaf}
use Rattle.rb_layout.specs.declared.layout.Part.{Part}
use Rattle.rb_layout.specs.declared.layout.Kind.{Kind}
use Rattle.rb_layout.specs.declared.layout.Kind.TheVariants.{Const, Bits, Word, Pointer}
use Rattle.rb_layout.specs.Positions.{layout_of}
use Rattle.rb_rel.specs.Relation.{HoldsKind, LeafStands}
use Rattle.rb_fragment.specs.declared.reads.Read.{Read, Slot}
use Rattle.rb_fragment.specs.declared.reads.Share.{Share}
use Rattle.rb_fragment.specs.Reads.{mean, meant_of, joined_over, fits, fits_share}
use Rattle.rb_fragment.specs.WordReads.{AreMeant, AllFit, IsSlotOf}
use Rattle.rb_fetch.specs.declared.span.Span.{Span}
use Rattle.rb_fetch.specs.declared.place.Wanted.TheVariants.{UnitOf}
use Rattle.rb_compose.specs.Counts.{capped_bits}
use Rattle.rb_fetch.specs.Finding.{leaf_within}
use Rattle.rb_fetch.specs.inner.Reads.{Spans}
use Rattle.rb_fetch.specs.inner.Placing.{NoSpot}

-- Parts

-- the range has the bits of a part of the leaf, of l bits and this kind, wherever `words` mean the words of a value
-- of the leaf
pub record SpansPart (leaf : Leaf) (words : List Read) (span : Span) (l : ℕ) (kind : Kind) : Type 0 where
  pub long : span.l ≡ l
  pub range : IsRange span.o span.l
  pub fit : (k : ℕ) → AllFit k words → length words ≡ length leaf.root → fits k span.read ≡ true
  pub means : (ws s : List ℕ) (m : Memory) (clean : Bool) (subs : List ℕ → List ℕ) (ats : ℕ → ℕ) → IsGood m
      → AreMeant words s m ws → LeafStands leaf ws m clean subs ats
      → (n : ℕ) × Spans span s m n × HoldsKind subs ats n l kind
  pub origin : (width x : ℕ) → span.width ≡ Some width → span.read ≡ Slot x → IsSlotOf x words

-- the read means what a part of the leaf, of l bits and this kind, holds, wherever `words` mean the words of a value
-- of the leaf
pub record ReadsPart (leaf : Leaf) (words : List Read) (read : Read) (l : ℕ) (kind : Kind) : Type 0 where
  pub fit : (k : ℕ) → AllFit k words → length words ≡ length leaf.root → fits k read ≡ true
  pub origin : (x : ℕ) → read ≡ Slot x → IsSlotOf x words
  pub means : (ws s : List ℕ) (m : Memory) (clean : Bool) (subs : List ℕ → List ℕ) (ats : ℕ → ℕ) → IsGood m
      → AreMeant words s m ws → LeafStands leaf ws m clean subs ats
      → (n : ℕ) × (mean read s m ≡ Some n) × HoldsKind subs ats n l kind

-- the read means a number that the words at the leaf's open positions tell, wherever `words` mean the words of a
-- value of the leaf
pub record ReadsAs (leaf : Leaf) (words : List Read) (read : Read) (number : (List ℕ → List ℕ) → ℕ) : Type 0 where
  pub fit : (k : ℕ) → AllFit k words → length words ≡ length leaf.root → fits k read ≡ true
  pub origin : (x : ℕ) → read ≡ Slot x → IsSlotOf x words
  pub means : (ws s : List ℕ) (m : Memory) (clean : Bool) (subs : List ℕ → List ℕ) (ats : ℕ → ℕ) → IsGood m
      → AreMeant words s m ws → LeafStands leaf ws m clean subs ats
      → mean read s m ≡ Some (number subs)

-- Integers

-- the bit of an integer at which a part of this kind begins; 0 for a kind that holds no bits of an integer
abbrev pub first_bit : Kind → ℕ
first_bit (Const c) = 0
first_bit (Bits path a) = a
first_bit (Word path j) = 0
first_bit (Pointer align b) = 0

-- whether a part that holds bits of an integer of this width holds all of them
abbrev pub is_whole : ℕ → Part → Bool
is_whole width p = (p.l == width) && (first_bit p.kind == 0)

-- `len` bits of a range behind its first `skip` ones, as a share that stands from bit a on
abbrev pub share_of : Span → ℕ → ℕ → ℕ → Share
share_of span skip len a = record {
  read = span.read;
  o = capped_bits span.o + capped_bits skip;
  l = capped_bits len;
  a = capped_bits a;
}

-- the leaf holds each of the first so many bits of the integer at a path
abbrev pub HoldsInt : Leaf → List ℕ → ℕ → Type 0
HoldsInt leaf path width = (i : ℕ) → i < width → NoSpot leaf path (UnitOf (Int width) i) → ⊥

-- the shares side by side mean the first i bits of the integer at a path, wherever `words` mean the words of a value
-- of the leaf
pub record Slices (leaf : Leaf) (words : List Read) (path : List ℕ) (i : ℕ) (shares : List Share) : Type 0 where
  pub fit : (k : ℕ) → AllFit k words → length words ≡ length leaf.root
      → list_all (λ b. b) (map (fits_share k) shares) ≡ true
  pub means : (ws s : List ℕ) (m : Memory) (clean : Bool) (subs : List ℕ → List ℕ) (ats : ℕ → ℕ) → IsGood m
      → AreMeant words s m ws → LeafStands leaf ws m clean subs ats
      → joined_over 0 (map meant_of shares) s m ≡ Some (take_of (slice_index (subs path) 0) 0 i)

-- the shares side by side mean the integer of this width at a path, where the leaf holds all its bits
abbrev pub JoinsInt : Leaf → List Read → List ℕ → ℕ → List Share → Type 0
JoinsInt leaf words path width shares = width ≤ 64 → HoldsInt leaf path width → Slices leaf words path width shares

-- the read means the integer of this width at a path, where the leaf holds all its bits
abbrev pub ReadsInt : Leaf → List Read → List ℕ → ℕ → Read → Type 0
ReadsInt leaf words path width read =
    width ≤ 64 → HoldsInt leaf path width
    → ReadsAs leaf words read (λ subs. take_of (slice_index (subs path) 0) 0 width)

-- Words of fields

-- the read means word j of the field of data type ty at a path, where some part of the leaf holds that word
abbrev pub ReadsWord : Leaf → List Read → List ℕ → ℕ → ℕ → Read → Type 0
ReadsWord leaf words path ty j read =
    (NoSpot leaf path (UnitOf (Named ty) j) → ⊥) → ReadsAs leaf words read (λ subs. slice_index (subs path) j)

-- there are `count` reads, and read j is for word j of the field of data type ty at a path
pub record ReadWords (leaf : Leaf) (words : List Read) (path : List ℕ) (ty count : ℕ) (reads : List Read) : Type 0 where
  pub count_is : length reads ≡ count
  pub each : (j : ℕ) (r : Read) → slice_get reads j ≡ Some r → ReadsWord leaf words path ty j r

-- Leaves and types by number

-- leaf n of the layout of type t; none where t has no layout, and past its leaves
abbrev pub leaf_at : List Layout → ℕ → ℕ → Option Leaf
leaf_at layouts t n = leaf_within (layout_of layouts t) n
