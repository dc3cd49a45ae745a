-- The check of the words of a path, as it is done: one list of words, and one leaf after the other. A part is a
-- range of a word of a leaf, of a constant, a field or a pointer. A word is kept in the block that begins at its
-- base, from byte `place` on, or, at base 0, as the root word with the number `place`. m has the blocks of the
-- image, ws are the words of the leaf's root, and ats the addresses of its blocks by number, 0 for one that is not
-- known. `on` says of a base and a place whether the word there is on the path.
use Rattle.std.specs.Prelude.{◌≡◌, ℕ, nat_eq, ◌&&◌, ◌||◌, List, [], ◌∷◌, ◌++◌, Bool, Option, Some, None, Result, Ok, Err, if◌then◌else◌}
use Rattle.std.specs.List.{flat_map, list_any}
use Rattle.std.specs.Option.{option_or}
use Rattle.rb_layout.specs.declared.layout.Layout.{Layout}
use Rattle.rb_layout.specs.declared.layout.Leaf.{Leaf}
use Rattle.rb_image_text.specs.declared.fault.ImageFault.{ImageFault}
use Rattle.rb_image_text.specs.declared.image.Image.{Image}
use Rattle.rb_image_text.specs.declared.image.ImageBlock.{ImageBlock}
use Rattle.rb_image.specs.declared.kept.Kept.{Kept}
use Rattle.rb_image.specs.LeafWords.{block_addresses}
use Rattle.rb_image.specs.Orders.{LocatedPart, order_of}
use Rattle.rb_image.specs.Parts.{At, bits_at}
use Rattle.rb_image.specs.Roots.{kept_from}
use Rattle.rb_image.specs.Ways.{leads_below}
use Rattle.rb_peek.specs.declared.path_words.WordAt.{WordAt}
use Rattle.rb_peek.specs.Paths.{is_there, part_fault, words_ahead, words_asked}
use Rattle.rb_peek.specs.Walks.{Waypoint, Where}

-- what was found, and none where a fault was
abbrev pub found_or_none : {A : Type 0} → Result A ImageFault → Option A
found_or_none (Err fault) = None
found_or_none (Ok x) = Some x

-- Words --------------------------------------------------------------------------------------

-- whether one of these words is kept at `base` and `place`
abbrev pub is_kept_at : List Kept → ℕ → ℕ → Bool
is_kept_at ks base place = list_any (λ (k : Kept). nat_eq base k.base && nat_eq place k.place) ks

-- whether one of the words that are known by where they are kept is the one at `base` and `place`
abbrev pub has_word : List WordAt → ℕ → ℕ → Bool
has_word ws base place = list_any (λ (w : WordAt). nat_eq base w.base && nat_eq place w.place) ws

-- whether the word at `base` and `place` is one of these, or is kept where k is
abbrev pub with_word : List WordAt → Kept → ℕ → ℕ → Bool
with_word ws k base place = has_word ws base place || (nat_eq base k.base && nat_eq place k.place)

-- whether the word of part s is there, and the part holds what stands at a path of the leaf or below it, or is a
-- pointer on the way there
abbrev pub leads_there : Leaf → List ℕ → List ℕ → LocatedPart → Bool
leads_there leaf ats path s = is_there ats s.block && leads_below leaf path s.part.kind

-- the words that hold the field of subvalue s which the first step of a path inside its leaf names, or what is below
-- it, and those whose pointers lead to them; none where the path is empty
abbrev pub first_ahead : List ImageBlock → Waypoint → List ℕ → List Kept
first_ahead m s [] = []
first_ahead m s (i ∷ path) = words_ahead m (record s { at = i ∷ [] })

-- the place at which a subvalue stands: its type and its words
abbrev pub stand_of : Waypoint → At
stand_of s = record { ty = s.ty; words = s.words }

-- the words of subvalue s that are on a path: those that its splits read, those that hold the field that comes next
-- or what is below it, and those whose pointers lead to them
abbrev pub words_seen : List Layout → List ImageBlock → Waypoint → List Kept
words_seen layouts m s = words_asked layouts m (stand_of s) ++ first_ahead m s s.at

-- the subvalues of data types to which one came, outer ones first, the last included
abbrev pub all_seen : Where → List Waypoint
all_seen w = w.before ++ w.last ∷ []

-- the words on a path on which these are the subvalues of data types: those of the root, and those of each of these
abbrev pub words_of_path : List Layout → Image → List Waypoint → List Kept
words_of_path layouts image seen = kept_from 0 image.root ++ flat_map (words_seen layouts image.blocks) seen

-- the words `found` are kept just where the words on a path are on which these are the subvalues
abbrev pub IsFoundOn : List Layout → Image → List Waypoint → List WordAt → Type 0
IsFoundOn layouts image seen found =
    (base place : ℕ) → has_word found base place ≡ is_kept_at (words_of_path layouts image seen) base place

-- Faults -------------------------------------------------------------------------------------
module _ (on : ℕ → ℕ → Bool) (m : List ImageBlock) where
  -- the fault of part s of a leaf, if the word that it is of is there, and is one that `on` has; else none
  abbrev pub fault_at : Leaf → List Kept → List ℕ → LocatedPart → Option ImageFault
  fault_at leaf ws ats s = let bits = bits_at m ws ats s in
      if is_there ats s.block && on bits.base bits.place then part_fault m leaf bits s.part.kind else None

  -- the first fault among these parts of a leaf, of those whose words are there and are ones that `on` has; none
  -- where there is none
  abbrev pub fault_among : Leaf → List Kept → List ℕ → List LocatedPart → Option ImageFault
  fault_among leaf ws ats [] = None
  fault_among leaf ws ats (s ∷ ss) = option_or (fault_at leaf ws ats s) (fault_among leaf ws ats ss)

  -- the first fault of the leaf of a subvalue in words that `on` has, none where there is none
  abbrev pub fault_seen : Waypoint → Option ImageFault
  fault_seen s = fault_among s.leaf s.words (block_addresses m s.leaf s.words) (order_of s.leaf)

  -- the first fault of the leaves of these subvalues in words that `on` has, those of the first subvalue first; none
  -- where there is none
  abbrev pub fault_of_seen : List Waypoint → Option ImageFault
  fault_of_seen [] = None
  fault_of_seen (s ∷ ss) = option_or (fault_seen s) (fault_of_seen ss)

-- the first fault of the leaves of these subvalues, those of the first subvalue first, in words on a path on which
-- these are the subvalues of data types; none where there is none
abbrev pub fault_on_path : List Layout → Image → List Waypoint → Option ImageFault
fault_on_path layouts image seen = fault_of_seen (is_kept_at (words_of_path layouts image seen)) image.blocks seen
