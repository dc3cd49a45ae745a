-- What stands at the sites of a field's words, and that they are narrow.
use Rattle.std.proofs.Common.{◌≡◌, ℕ, zero, suc, ◌+◌, ◌-◌, ◌^◌, ◌<◌, ◌≤◌, nat_eq, map, List, [], ◌∷◌, Bool, true, false, inl, inr, Option, Some, None, refl, sym, subst, ap, ◌∙◌, arith}
use Rattle.std.specs.Prelude.{slice_get, slice_index, if◌then◌else◌, unwrap_or}
use Rattle.std.specs.Int.{bit_at}
use Rattle.std.proofs.Math.Pow.{pow_mono}
use Rattle.std.proofs.lemmas.Grind.{common_steps}
use Rattle.std.proofs.lemmas.Nat.{pow_pos}
use Rattle.std.proofs.lemmas.Nat.Bits.{bit_at_above, bit_at-zero, same_from_bits_below}
use Rattle.std.proofs.lemmas.Bool.{cases_lt}
use Rattle.std.proofs.lemmas.Option.{same_Some}
use Rattle.rb_bits.specs.Words.{take_of}
use Rattle.rb_bits.proofs.WordLemmas.{bit_at_take, take_fits}
use Rattle.rb_layout.specs.declared.layout.Leaf.{Leaf}
use Rattle.rb_layout.specs.declared.layout.Part.{Part}
use Rattle.rb_image_text.specs.declared.image.Image.{Image}
use Rattle.rb_image_text.specs.declared.image.ImageBlock.{ImageBlock}
use Rattle.rb_image_text.specs.Places.{AreInPlace}
use Rattle.rb_image.specs.declared.kept.Kept.{Kept}
use Rattle.rb_image.specs.declared.site.Site.{Site}
use Rattle.rb_image.specs.Blocks.{word_in}
use Rattle.rb_image.specs.FieldSites.{AreNarrow, AreSitesOf, HasNarrowParts, IsNarrow}
use Rattle.rb_image.specs.Orders.{LocatedPart, order_of}
use Rattle.rb_image.specs.Parts.{bits_at, field_word, field_words, is_field_word, kept_at}
use Rattle.rb_image.specs.Sites.{kept_of}
use Rattle.rb_image.specs.Splits.{range_of, word_at}
use Rattle.rb_image.specs.WordReads.{read_of}
use Rattle.rb_image.specs.inner.Siting.{block_site, field_site, lesser, nowhere, part_site, range_in, root_site, sites_from}
use Rattle.rb_image.proofs.PlacedSpots.{order_spots}
use Rattle.rb_image.proofs.SiteLemmas.{no_word_at_zero, read_from_block, site_missing, site_there}
use Rattle.rb_image.proofs.SpotLemmas.{In}

-- Ranges -------------------------------------------------------------------------------------
lesser_low : (a b : ℕ) → a < b → lesser a b ≡ a
lesser_low a b lt = grind (arith, common_steps, lt)

lesser_high : (a b : ℕ) → b ≤ a → lesser a b ≡ b
lesser_high a b le = grind (arith, common_steps, le)

lesser_more : (a b i : ℕ) → i < a → i < b → i < lesser a b
lesser_more a b i left right = grind (arith, common_steps, left, right)

lesser_left : (a b : ℕ) → lesser a b ≤ a
lesser_left a b = grind (arith, common_steps)

lesser_right : (a b : ℕ) → lesser a b ≤ b
lesser_right a b = grind (arith, common_steps)

module _ (w o l a b : ℕ) where
  abbrev n : ℕ
  n = take_of w o l

  abbrev c : ℕ
  c = lesser a l

  abbrev d : ℕ
  d = lesser b (l - c)

  inside : (i : ℕ) → i < b → a + i < l → bit_at n (a + i) ≡ bit_at (take_of w (o + c) d) i
  inside i lt within =
      let first : c ≡ a = lesser_low a l (omega (arith, within)) in
      let here : i < d = lesser_more b (l - c) i lt (omega (arith, first, within)) in
      let e : o + (a + i) ≡ o + c + i = omega (arith, first) in
      bit_at_take w o l (a + i) within ∙ ap (bit_at w) e ∙ sym (bit_at_take w (o + c) d i here)

  past : (i : ℕ) → l ≤ a + i → d ≤ i
  past i le = elim (cases_lt a l) [
    | inl lt ↦ let first = lesser_low a l lt in let right = lesser_right b (l - c) in omega (arith, first, right, le)
    | inr ge ↦ let first = lesser_high a l ge in let right = lesser_right b (l - c) in omega (arith, first, right)
  ]

  outside : (i : ℕ) → l ≤ a + i → bit_at n (a + i) ≡ bit_at (take_of w (o + c) d) i
  outside i le = bit_at_above n l (a + i) (take_fits w o l) le ∙ sym (bit_at_above (take_of w (o + c) d) d i (take_fits w (o + c) d) (past i le))

  same_bit : (i : ℕ) → i < b → bit_at (take_of n a b) i ≡ bit_at (take_of w (o + c) d) i
  same_bit i lt = bit_at_take n a b i lt ∙ elim (cases_lt (a + i) l) [ inl within ↦ inside i lt within | inr ge ↦ outside i ge ]

  -- a range of a range, of which there are no more bits than those
  take_in : take_of (take_of w o l) a b ≡ take_of w (o + lesser a l) (lesser b (l - lesser a l))
  take_in =
      let fits = take_fits w (o + c) d in
      let wider = pow_mono {i = d} {j = b} (lesser_left b (l - c)) in
      same_from_bits_below b (take_of n a b) (take_of w (o + c) d) (take_fits n a b) (omega (arith, fits, wider)) same_bit

take_zero : (o l : ℕ) → take_of 0 o l ≡ 0
take_zero o l = same_from_bits_below l (take_of 0 o l) 0 (take_fits 0 o l) (pow_pos l) (λ i lt. bit_at_take 0 o l i lt ∙ bit_at-zero (o + i) ∙ sym (bit_at-zero i))

take_none : (w : ℕ) → take_of w 0 0 ≡ 0
take_none w = let fits = take_fits w 0 0 in let one : 2 ^ 0 ≡ 1 = refl in omega (arith, fits, one)

-- What stands there --------------------------------------------------------------------------
module _ (image : Image) (placed : AreInPlace image.blocks) where
  abbrev m : List ImageBlock
  m = image.blocks

  abbrev kept : ℕ → ℕ → ℕ → Kept
  kept number base place = record { number = number; base = base; place = place }

  none_there : (place : ℕ) → kept_of image (nowhere place) ≡ kept 0 0 place
  none_there place = ap (λ n. kept n 0 place) (take_none (unwrap_or (read_of image 0 place 0) 0))

  range_there : (s : Site) (o l : ℕ) → kept_of image (range_in s o l) ≡ range_of (kept_of image s) o l
  range_there s o l = ap (λ n. kept n s.base s.place) (sym (take_in (unwrap_or (read_of image s.base s.place s.width) 0) s.o s.l o l))

  module _ (sites : List Site) where
    abbrev ws : List Kept
    ws = map (kept_of image) sites

    root_there : (x : Option Site) (j : ℕ) (p : Part) → slice_get sites j ≡ x → kept_of image (root_site x p) ≡ range_of (word_at ws j) p.o p.l
    root_there None j p is =
        none_there 0 ∙ ap (λ n. kept n 0 0) (sym (take_zero p.o p.l)) ∙ ap (λ w. range_of w p.o p.l) (sym (site_missing (kept_of image) sites j is))
    root_there (Some s) j p is = range_there s p.o p.l ∙ ap (λ w. range_of w p.o p.l) (sym (site_there (kept_of image) sites j s is))

    abbrev in_block : ℕ → LocatedPart → Kept
    in_block at s = range_of (kept (unwrap_or (word_in m at s.byte s.width) 0) at s.byte) s.part.o s.part.l

    block_zero : (at : ℕ) (s : LocatedPart) → at ≡ 0 → kept_of image (nowhere s.byte) ≡ in_block at s
    block_zero at s none =
        none_there s.byte ∙ ap (λ n. kept n 0 s.byte) (sym (take_zero s.part.o s.part.l))
        ∙ ap (λ w. range_of (kept (unwrap_or w 0) 0 s.byte) s.part.o s.part.l) (sym (no_word_at_zero m placed s.byte s.width))
        ∙ ap (λ a. in_block a s) (sym none)

    zero_is : (at : ℕ) → nat_eq at 0 ≡ true → at ≡ 0
    zero_is at e = grind (arith, common_steps)

    zero_not : (at : ℕ) → nat_eq at 0 ≡ false → at ≡ 0 → ⊥
    zero_not at e is = grind (arith, common_steps)

    block_there : (at : ℕ) (s : LocatedPart) → kept_of image (block_site at s) ≡ in_block at s
    block_there at s = go (nat_eq at 0) refl
      where
        go : (b : Bool) → nat_eq at 0 ≡ b → kept_of image (if b then nowhere s.byte else record { base = at; place = s.byte; width = s.width; o = s.part.o; l = s.part.l }) ≡ in_block at s
        go true e = block_zero at s (zero_is at e)
        go false e = ap (λ w. range_of (kept (unwrap_or w 0) at s.byte) s.part.o s.part.l) (read_from_block image at s.byte s.width (zero_not at e))

    module _ (ats : List ℕ) where
      part_there : (b : Option ℕ) (s : LocatedPart) → kept_of image (part_site sites ats b s) ≡ range_of (kept_at m ws ats b s) s.part.o s.part.l
      part_there None s = root_there (slice_get sites s.word) s.word s.part refl
      part_there (Some b) s = block_there (slice_index ats b) s

      field_there : (ss : List LocatedPart) (path : List ℕ) (j : ℕ) → kept_of image (field_site sites ats ss path j) ≡ field_word m ws ats ss path j
      field_there [] path j = none_there 0
      field_there (s ∷ ss) path j = go (is_field_word s.part.kind path j) (field_there ss path j)
        where
          go : (b : Bool) → kept_of image (field_site sites ats ss path j) ≡ field_word m ws ats ss path j → kept_of image (if b then part_site sites ats s.block s else field_site sites ats ss path j) ≡ if b then bits_at m ws ats s else field_word m ws ats ss path j
          go true rest = part_there s.block s
          go false rest = rest

      sites_there : (ss : List LocatedPart) (path : List ℕ) (j n : ℕ) → map (kept_of image) (sites_from (field_site sites ats ss path) j n) ≡ field_words (field_word m ws ats ss) path j n
      sites_there ss path j zero = refl
      sites_there ss path j (suc n) =
          ap (λ w. w ∷ map (kept_of image) (sites_from (field_site sites ats ss path) (j + 1) n)) (field_there ss path j)
          ∙ ap (λ rest. field_word m ws ats ss path j ∷ rest) (sites_there ss path (j + 1) n)

pub are_sites : (leaf : Leaf) (sites : List Site) (ats path : List ℕ) (count : ℕ) (ss : List LocatedPart) (found : List Site) → ss ≡ order_of leaf
    → found ≡ sites_from (field_site sites ats ss path) 0 count → AreSitesOf leaf sites ats path count found
are_sites leaf sites ats path count ss found same is image placed =
    ap (map (kept_of image)) (is ∙ ap (λ xs. sites_from (field_site sites ats xs path) 0 count) same)
    ∙ sites_there image placed sites ats (order_of leaf) path 0 count

-- Their bits ---------------------------------------------------------------------------------
module _ (sites : List Site) (narrow : AreNarrow sites) (ats : List ℕ) where
  root_narrow : (x : Option Site) (j : ℕ) (p : Part) → slice_get sites j ≡ x → IsNarrow (root_site x p)
  root_narrow None j p is = omega arith
  root_narrow (Some s) j p is =
      let here = narrow j s is in
      let low = lesser_right p.o s.l in
      let high = lesser_right p.l (s.l - lesser p.o s.l) in
      omega (arith, here, low, high)

  block_narrow : (at : ℕ) (s : LocatedPart) → s.part.o + s.part.l ≤ 64 → IsNarrow (block_site at s)
  block_narrow at s le = go (nat_eq at 0)
    where
      go : (b : Bool) → IsNarrow (if b then nowhere s.byte else record { base = at; place = s.byte; width = s.width; o = s.part.o; l = s.part.l })
      go true = omega arith
      go false = le

  part_narrow : (b : Option ℕ) (s : LocatedPart) → s.part.o + s.part.l ≤ 64 → IsNarrow (part_site sites ats b s)
  part_narrow None s le = root_narrow (slice_get sites s.word) s.word s.part refl
  part_narrow (Some b) s le = block_narrow (slice_index ats b) s le

  field_narrow : (ss : List LocatedPart) (path : List ℕ) (j : ℕ) → ((s : LocatedPart) → In s ss → s.part.o + s.part.l ≤ 64) → IsNarrow (field_site sites ats ss path j)
  field_narrow [] path j each = omega arith
  field_narrow (s ∷ ss) path j each = go (is_field_word s.part.kind path j) (field_narrow ss path j (λ x h. each x (inr h)))
    where
      go : (b : Bool) → IsNarrow (field_site sites ats ss path j) → IsNarrow (if b then part_site sites ats s.block s else field_site sites ats ss path j)
      go true rest = part_narrow s.block s (each s (inl refl))
      go false rest = rest

pub from_narrow : (site : ℕ → Site) → ((j : ℕ) → IsNarrow (site j)) → (j n : ℕ) → AreNarrow (sites_from site j n)
from_narrow site each j zero k s e = absurd cc
from_narrow site each j (suc n) zero s e = subst IsNarrow (same_Some (site j) s e) (each j)
from_narrow site each j (suc n) (suc k) s e = from_narrow site each (j + 1) n k s e

order_narrow : (leaf : Leaf) → HasNarrowParts leaf → (s : LocatedPart) → In s (order_of leaf) → s.part.o + s.part.l ≤ 64
order_narrow leaf parts s h = let x = order_spots leaf s h in parts x.ref x.word x.number s.part x.is_word x.is_part

pub are_narrow : (leaf : Leaf) (sites : List Site) (ats path : List ℕ) (count : ℕ) (ss : List LocatedPart) (found : List Site) → HasNarrowParts leaf → AreNarrow sites → ss ≡ order_of leaf
    → found ≡ sites_from (field_site sites ats ss path) 0 count → AreNarrow found
are_narrow leaf sites ats path count ss found parts narrow same is =
    subst AreNarrow (sym (is ∙ ap (λ xs. sites_from (field_site sites ats xs path) 0 count) same))
    (from_narrow (field_site sites ats (order_of leaf) path) (λ j. field_narrow sites narrow ats (order_of leaf) path j (order_narrow leaf parts)) 0 count)

-- one site more
pub sites_more : (site : ℕ → Site) (j n : ℕ) → j < n → sites_from site j (n - j) ≡ site j ∷ sites_from site (j + 1) (n - (j + 1))
sites_more site j n lt = let e : n - j ≡ suc (n - (j + 1)) = omega (arith, lt) in ap (sites_from site j) e
