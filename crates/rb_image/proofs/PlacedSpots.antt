-- The order of a leaf's parts has each part of each word, where it stands, and no others; and it leads to each block before
-- the block's own parts.
use Rattle.std.proofs.Common.{◌≡◌, ℕ, zero, suc, ◌+◌, ◌/◌, ◌<◌, ◌≤◌, ◌⊎◌, inl, inr, List, [], ◌∷◌, ◌++◌, length, Option, Some, None, refl, sym, subst, ap, ◌∙◌, arith}
use Rattle.std.specs.Prelude.{slice_get}
use Rattle.std.specs.List.{flat_map}
use Rattle.std.proofs.lemmas.Option.{same_Some, slice_get_within}
use Rattle.rb_layout.specs.declared.layout.Block.{Block}
use Rattle.rb_layout.specs.declared.layout.FlatWord.{FlatWord}
use Rattle.rb_layout.specs.declared.layout.Kind.{Kind}
use Rattle.rb_layout.specs.declared.layout.Kind.TheVariants.{Const, Bits, Word, Pointer}
use Rattle.rb_layout.specs.declared.layout.Leaf.{Leaf}
use Rattle.rb_layout.specs.declared.layout.Part.{Part}
use Rattle.rb_layout.specs.declared.layout.WordRef.{WordRef}
use Rattle.rb_layout.specs.Flat.{IsAbove, IsFlat}
use Rattle.rb_layout.specs.Words.{words_in, words_of_block, flat_at, begins_at}
use Rattle.rb_image.specs.Orders.{LocatedPart, pointed_parts, block_order, by_offset, order_of, with_inner, word_order, words_order}
use Rattle.rb_image.proofs.PointerLemmas.{points, points_same}
use Rattle.rb_image.proofs.SpotLemmas.{In, in_append, in_left, in_right, in_get, get_in, in_flat_map, flat_map_in, in_beginning, beginning_in}

-- Each part that is there is one of the leaf -------------------------------------------------
-- a part of one of these words, the first of which is word j and begins at a byte
pub record InWords (block : Option ℕ) (j byte : ℕ) (fs : List FlatWord) (s : LocatedPart) : Type 0 where
  pub i : ℕ
  pub word : FlatWord
  pub number : ℕ
  pub is_word : slice_get fs i ≡ Some word
  pub is_part : slice_get word.parts number ≡ Some s.part
  pub same_block : s.block ≡ block
  pub same_word : s.word ≡ j + i
  pub same_byte : s.byte ≡ byte + begins_at fs i
  pub same_width : s.width ≡ word.width

module _ (X : LocatedPart → Type 0) (inner : ℕ → List LocatedPart) (go : (b : ℕ) (s : LocatedPart) → In s (inner b) → X s) where
  behind_in : (k : Kind) (s : LocatedPart) → In s (pointed_parts inner k) → X s
  behind_in (Const c) s h = absurd h
  behind_in (Bits path a) s h = absurd h
  behind_in (Word path j) s h = absurd h
  behind_in (Pointer align b) s h = go b s h

  in_words : (block : Option ℕ) (j byte : ℕ) (fs : List FlatWord) (s : LocatedPart) → In s (words_order inner block j byte fs) → X s ⊎ InWords block j byte fs s
  in_words block j byte [] s h = absurd h
  in_words block j byte (f ∷ fs) s h = elim (in_append s (word_order inner block j byte f) (words_order inner block (j + 1) (byte + f.width / 8) fs) h) [
    | inl a ↦ let r = in_flat_map (with_inner inner block j byte f.width) s (by_offset f) a in
        elim r.2 [
          | inl e ↦ inr (
              let g = in_get r.0 f.parts (in_beginning r.0 f.parts 0 f.width r.1) in
              let zj : j ≡ j + 0 = omega arith in
              let zb : byte ≡ byte + 0 = omega arith in
              record {
                i = 0;
                word = f;
                number = g.0;
                is_word = refl;
                is_part = g.1 ∙ ap Some (sym (ap (λ (x : LocatedPart). x.part) e));
                same_block = ap (λ (x : LocatedPart). x.block) e;
                same_word = ap (λ (x : LocatedPart). x.word) e ∙ zj;
                same_byte = ap (λ (x : LocatedPart). x.byte) e ∙ zb;
                same_width = ap (λ (x : LocatedPart). x.width) e;
              })
          | inr b ↦ inl (behind_in r.0.kind s b)
        ]
    | inr b ↦ elim (in_words block (j + 1) (byte + f.width / 8) fs s b) [
      | inl x ↦ inl x
      | inr y ↦ inr (
          let zj : j + 1 + y.i ≡ j + suc y.i = omega arith in
          let zb : byte + f.width / 8 + begins_at fs y.i ≡ byte + (f.width / 8 + begins_at fs y.i) = omega arith in
          record {
            i = suc y.i;
            word = y.word;
            number = y.number;
            is_word = y.is_word;
            is_part = y.is_part;
            same_block = y.same_block;
            same_word = y.same_word ∙ zj;
            same_byte = y.same_byte ∙ zb;
            same_width = y.same_width;
          })
    ]
  ]

-- a part of a word, where it stands
abbrev pub spot_of : Leaf → WordRef → FlatWord → Part → LocatedPart
spot_of leaf r f p = record { block = r.block; word = r.word; byte = begins_at (words_in leaf r.block) r.word; width = f.width; part = p }

pub record IsSpot (leaf : Leaf) (s : LocatedPart) : Type 0 where
  pub ref : WordRef
  pub word : FlatWord
  pub number : ℕ
  pub is_word : flat_at leaf ref ≡ Some word
  pub is_part : slice_get word.parts number ≡ Some s.part
  pub is : s ≡ spot_of leaf ref word s.part

module _ (leaf : Leaf) where
  as_spot : (block : Option ℕ) (s : LocatedPart) → InWords block 0 0 (words_in leaf block) s → IsSpot leaf s
  as_spot block s h =
      let zj : 0 + h.i ≡ h.i = omega arith in
      let zb : 0 + begins_at (words_in leaf block) h.i ≡ begins_at (words_in leaf block) h.i = omega arith in
      record {
        ref = record { block = block; word = h.i };
        word = h.word;
        number = h.number;
        is_word = h.is_word;
        is_part = h.is_part;
        is = ap (λ (x : Option ℕ). record { block = x; word = s.word; byte = s.byte; width = s.width; part = s.part }) h.same_block
            ∙ ap (λ (x : ℕ). record { block = block; word = x; byte = s.byte; width = s.width; part = s.part }) (h.same_word ∙ zj)
            ∙ ap (λ (x : ℕ). record { block = block; word = h.i; byte = x; width = s.width; part = s.part }) (h.same_byte ∙ zb)
            ∙ ap (λ (x : ℕ). record { block = block; word = h.i; byte = begins_at (words_in leaf block) h.i; width = x; part = s.part }) h.same_width;
      }

  block_spots : (depth b : ℕ) (s : LocatedPart) → In s (block_order leaf depth b) → IsSpot leaf s
  block_spots zero b s h = absurd h
  block_spots (suc depth) b s h = elim (in_words (IsSpot leaf) (block_order leaf depth) (λ c t. block_spots depth c t) (Some b) 0 0 (words_in leaf (Some b)) s h) [
    | inl x ↦ x
    | inr y ↦ as_spot (Some b) s y
  ]

  pub order_spots : (s : LocatedPart) → In s (order_of leaf) → IsSpot leaf s
  order_spots s h = elim (in_words (IsSpot leaf) (block_order leaf (length leaf.blocks)) (λ b t. block_spots (length leaf.blocks) b t) None 0 0 leaf.root s h) [
    | inl x ↦ x
    | inr y ↦ as_spot None s y
  ]

-- Each part of the leaf is there -------------------------------------------------------------
module _ (inner : ℕ → List LocatedPart) (block : Option ℕ) where
  pub words_have : (j byte : ℕ) (fs : List FlatWord) (i : ℕ) (f : FlatWord) (k : ℕ) (p : Part) → slice_get fs i ≡ Some f → slice_get f.parts k ≡ Some p → p.o < f.width
      → (word from : ℕ) → word ≡ j + i → from ≡ byte + begins_at fs i → (s : LocatedPart) → In s (with_inner inner block word from f.width p) → In s (words_order inner block j byte fs)
  words_have j byte [] i f k p is at lt word from is_word is_from s h = absurd cc
  words_have j byte (e ∷ fs) zero f k p is at lt word from is_word is_from s h =
      let same = same_Some e f is in
      let in_parts : In p e.parts = subst (λ (x : FlatWord). In p x.parts) (sym same) (get_in p f.parts k at) in
      let width = ap (λ (x : FlatWord). x.width) same in
      let there : In p (by_offset e) = beginning_in p e.parts 0 e.width in_parts (omega arith) (omega (arith, lt, width)) in
      let a : In s (with_inner inner block word from e.width p) = subst (λ w. In s (with_inner inner block word from w p)) (sym width) h in
      let zj : word ≡ j = omega (arith, is_word) in
      let zb : from ≡ byte = is_from ∙ (let z : byte + 0 ≡ byte = omega arith in z) in
      let b : In s (with_inner inner block j byte e.width p) = subst (λ x. In s (with_inner inner block j x e.width p)) zb (subst (λ x. In s (with_inner inner block x from e.width p)) zj a) in
      in_left s (word_order inner block j byte e) (words_order inner block (j + 1) (byte + e.width / 8) fs) (flat_map_in (with_inner inner block j byte e.width) s p (by_offset e) there b)
  words_have j byte (e ∷ fs) (suc i) f k p is at lt word from is_word is_from s h =
      let zb : byte + (e.width / 8 + begins_at fs i) ≡ byte + e.width / 8 + begins_at fs i = omega arith in
      in_right s (word_order inner block j byte e) (words_order inner block (j + 1) (byte + e.width / 8) fs)
      (words_have (j + 1) (byte + e.width / 8) fs i f k p is at lt word from (omega (arith, is_word)) (is_from ∙ zb) s h)

module _ (leaf : Leaf) (flat : IsFlat leaf) (low : (r : WordRef) (f : FlatWord) (k : ℕ) (p : Part) → flat_at leaf r ≡ Some f → slice_get f.parts k ≡ Some p → p.o < f.width) where
  -- the parts of a block, and of the blocks behind it, are all there
  record Covered (b : ℕ) : Type 0 where
    depth : ℕ
    above : b < depth
    all : (s : LocatedPart) → In s (block_order leaf depth b) → In s (order_of leaf)

  from_root : (b j k align : ℕ) (f : FlatWord) (p : Part) → b < length leaf.blocks → slice_get leaf.root j ≡ Some f → slice_get f.parts k ≡ Some p → p.kind ≡ Pointer align b → Covered b
  from_root b j k align f p lt is at kind = record {
    depth = length leaf.blocks;
    above = lt;
    all = λ s h. words_have (block_order leaf (length leaf.blocks)) None 0 0 leaf.root j f k p is at (low (record { block = None; word = j }) f k p is at) (0 + j) (0 + begins_at leaf.root j) refl refl s
        (inr (subst (λ (x : Kind). In s (pointed_parts (block_order leaf (length leaf.blocks)) x)) (sym kind) h));
  }

  from_block : (b a j k align : ℕ) (f : FlatWord) (p : Part) → b < a → (depth : ℕ) → a < depth → ((s : LocatedPart) → In s (block_order leaf depth a) → In s (order_of leaf))
      → slice_get (words_in leaf (Some a)) j ≡ Some f → slice_get f.parts k ≡ Some p → p.kind ≡ Pointer align b → Covered b
  from_block b a j k align f p lt zero above all is at kind = absurd (omega (arith, above))
  from_block b a j k align f p lt (suc depth) above all is at kind = record {
    depth = depth;
    above = omega (arith, lt, above);
    all = λ s h. all s (words_have (block_order leaf depth) (Some a) 0 0 (words_in leaf (Some a)) j f k p is at (low (record { block = Some a; word = j }) f k p is at)
        (0 + j) (0 + begins_at (words_in leaf (Some a)) j) refl refl s (inr (subst (λ (x : Kind). In s (pointed_parts (block_order leaf depth) x)) (sym kind) h)));
  }

  cover : (fuel b : ℕ) (block : Block) → length leaf.blocks ≤ b + fuel → slice_get leaf.blocks b ≡ Some block → Covered b
  cover zero b block le is = absurd (let lt = slice_get_within leaf.blocks b block is in omega (arith, le, lt))
  cover (suc fuel) b block le is =
      let q = flat.pointed b block is in
      from (λ a y l e. cover fuel a y l e) q.0.block q.0.word q.2.word q.2.number q.2.part q.2.is_word q.2.is_part q.2.is_pointer q.3
    where
      outer : ((a : ℕ) (y : Block) → length leaf.blocks ≤ a + fuel → slice_get leaf.blocks a ≡ Some y → Covered a)
          → (a j k : ℕ) (f : FlatWord) (p : Part) → slice_get f.parts k ≡ Some p → p.kind ≡ Pointer block.align b → b < a → slice_get (words_in leaf (Some a)) j ≡ Some f
          → (x : Option Block) → slice_get leaf.blocks a ≡ x → slice_get (words_of_block x) j ≡ Some f → Covered b
      outer go a j k f p is_part kind above is_word None e h = absurd cc
      outer go a j k f p is_part kind above is_word (Some y) e h =
          let c = go a y (omega (arith, le, above)) e in from_block b a j k block.align f p above c.depth c.above c.all is_word is_part kind

      from : ((a : ℕ) (y : Block) → length leaf.blocks ≤ a + fuel → slice_get leaf.blocks a ≡ Some y → Covered a)
          → (o : Option ℕ) (j : ℕ) (f : FlatWord) (k : ℕ) (p : Part) → slice_get (words_in leaf o) j ≡ Some f → slice_get f.parts k ≡ Some p → p.kind ≡ Pointer block.align b → IsAbove o b → Covered b
      from go None j f k p is_word is_part kind above = from_root b j k block.align f p (slice_get_within leaf.blocks b block is) is_word is_part kind
      from go (Some a) j f k p is_word is_part kind above = outer go a j k f p is_part kind above is_word (slice_get leaf.blocks a) refl is_word

  pub part_in_order : (r : WordRef) (f : FlatWord) (k : ℕ) (p : Part) → flat_at leaf r ≡ Some f → slice_get f.parts k ≡ Some p → In (spot_of leaf r f p) (order_of leaf)
  part_in_order r f k p is at = go r.block r.word is
    where
      there : (b j : ℕ) (depth : ℕ) → b < depth → ((s : LocatedPart) → In s (block_order leaf depth b) → In s (order_of leaf)) → slice_get (words_in leaf (Some b)) j ≡ Some f → In (spot_of leaf (record { block = Some b; word = j }) f p) (order_of leaf)
      there b j zero above all h = absurd (omega (arith, above))
      there b j (suc depth) above all h =
          let zj : j ≡ 0 + j = omega arith in
          let zb : begins_at (words_in leaf (Some b)) j ≡ 0 + begins_at (words_in leaf (Some b)) j = omega arith in
          let s = spot_of leaf (record { block = Some b; word = j }) f p in
          all s (words_have (block_order leaf depth) (Some b) 0 0 (words_in leaf (Some b)) j f k p h at (low (record { block = Some b; word = j }) f k p h at) j (begins_at (words_in leaf (Some b)) j) zj zb s (inl refl))

      go : (o : Option ℕ) (j : ℕ) → slice_get (words_in leaf o) j ≡ Some f → In (spot_of leaf (record { block = o; word = j }) f p) (order_of leaf)
      go None j h =
          let zj : j ≡ 0 + j = omega arith in
          let zb : begins_at leaf.root j ≡ 0 + begins_at leaf.root j = omega arith in
          words_have (block_order leaf (length leaf.blocks)) None 0 0 leaf.root j f k p h at (low (record { block = None; word = j }) f k p h at) j (begins_at leaf.root j) zj zb
          (spot_of leaf (record { block = None; word = j }) f p) (inl refl)
      go (Some b) j h = outer (slice_get leaf.blocks b) refl h
        where
          outer : (x : Option Block) → slice_get leaf.blocks b ≡ x → slice_get (words_of_block x) j ≡ Some f → In (spot_of leaf (record { block = Some b; word = j }) f p) (order_of leaf)
          outer None e g = absurd cc
          outer (Some y) e g = let c = cover (length leaf.blocks) b y (omega arith) e in there b j c.depth c.above c.all h

-- Blocks come behind what points to them -----------------------------------------------------
abbrev pub BlockSeen : (ℕ → ℕ) → Option ℕ → Type 0
BlockSeen seen None = Unit {0}
BlockSeen seen (Some b) = 1 ≤ seen b

-- each part is of the root, or of a block to which a part before it points, or of a block that was seen before
abbrev pub AreLed : (ℕ → ℕ) → List LocatedPart → Type 0
AreLed seen [] = Unit {0}
AreLed seen (s ∷ ss) = BlockSeen seen s.block × AreLed (λ c. points c s.part.kind + seen c) ss

block_more : (seen more : ℕ → ℕ) (o : Option ℕ) → ((c : ℕ) → seen c ≤ more c) → BlockSeen seen o → BlockSeen more o
block_more seen more None le h = tt
block_more seen more (Some b) le h = let a = le b in omega (arith, a, h)

led_more : (seen more : ℕ → ℕ) (ss : List LocatedPart) → ((c : ℕ) → seen c ≤ more c) → AreLed seen ss → AreLed more ss
led_more seen more [] le h = tt
led_more seen more (s ∷ ss) le h =
    (block_more seen more s.block le h.0, led_more (λ c. points c s.part.kind + seen c) (λ c. points c s.part.kind + more c) ss (λ c. (let a = le c in omega (arith, a))) h.1)

led_append : (seen : ℕ → ℕ) (xs ys : List LocatedPart) → AreLed seen xs → AreLed seen ys → AreLed seen (xs ++ ys)
led_append seen [] ys h g = g
led_append seen (x ∷ xs) ys h g =
    (h.0, led_append (λ c. points c x.part.kind + seen c) xs ys h.1 (led_more seen (λ c. points c x.part.kind + seen c) ys (λ c. omega arith) g))

module _ (inner : ℕ → List LocatedPart) (good : (b : ℕ) (seen : ℕ → ℕ) → 1 ≤ seen b → AreLed seen (inner b)) where
  behind_led : (seen : ℕ → ℕ) (k : Kind) → AreLed (λ c. points c k + seen c) (pointed_parts inner k)
  behind_led seen (Const x) = tt
  behind_led seen (Bits path a) = tt
  behind_led seen (Word path j) = tt
  behind_led seen (Pointer align b) = let e = points_same b align in good b (λ c. points c (Pointer align b) + seen c) (omega (arith, e))

  module _ (seen : ℕ → ℕ) (block : Option ℕ) (known : BlockSeen seen block) where
    parts_led : (j byte width : ℕ) (ps : List Part) → AreLed seen (flat_map (with_inner inner block j byte width) ps)
    parts_led j byte width [] = tt
    parts_led j byte width (p ∷ ps) =
        led_append seen (with_inner inner block j byte width p) (flat_map (with_inner inner block j byte width) ps) (known, behind_led seen p.kind) (parts_led j byte width ps)

    words_led : (j byte : ℕ) (fs : List FlatWord) → AreLed seen (words_order inner block j byte fs)
    words_led j byte [] = tt
    words_led j byte (f ∷ fs) =
        led_append seen (word_order inner block j byte f) (words_order inner block (j + 1) (byte + f.width / 8) fs) (parts_led j byte f.width (by_offset f)) (words_led (j + 1) (byte + f.width / 8) fs)

block_led : (leaf : Leaf) (depth b : ℕ) (seen : ℕ → ℕ) → 1 ≤ seen b → AreLed seen (block_order leaf depth b)
block_led leaf zero b seen h = tt
block_led leaf (suc depth) b seen h = words_led (block_order leaf depth) (λ c s g. block_led leaf depth c s g) seen (Some b) h 0 0 (words_in leaf (Some b))

pub order_led : (leaf : Leaf) → AreLed (λ c. 0) (order_of leaf)
order_led leaf = words_led (block_order leaf (length leaf.blocks)) (λ c s g. block_led leaf (length leaf.blocks) c s g) (λ c. 0) None tt 0 0 leaf.root
