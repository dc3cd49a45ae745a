-- Where words represent a value in the memory of an image's blocks and pointers fall, each word of the leaf is read in the
-- image, its pointers are followed, and each location that resolves in the leaf has a range there.
use Rattle.std.proofs.Common.{◌≡◌, ℕ, ◌+◌, ◌*◌, ◌/◌, ◌<◌, ◌==◌, ◌||◌, inl, inr, nat_lt, Bool, true, false, List, [], ◌∷◌, Option, Some, None, Result, Ok, refl, sym, subst, ap, ◌∙◌, arith}
use Rattle.std.specs.Prelude.{slice_get, slice_index, if◌then◌else◌, unwrap_or}
use Rattle.std.proofs.lemmas.Grind.{common_steps}
use Rattle.rb_core.specs.declared.layout_decl.Loc.{Loc}
use Rattle.rb_core.specs.declared.layout_decl.Step.{Step}
use Rattle.rb_bits.specs.Words.{take_of}
use Rattle.rb_bytes.specs.Memory.{Memory, load_of}
use Rattle.rb_bytes.specs.Memory as M
use Rattle.rb_bytes.specs.declared.fault.Trap.{Trap}
use Rattle.rb_bytes.proofs.BlockLemmas.{block_bounds, within_size}
use Rattle.rb_bytes.proofs.MemoryLemmas.{load_ok}
use Rattle.rb_layout.specs.A4.{IsBlockWidth}
use Rattle.rb_layout.specs.Flat.{IsFlat}
use Rattle.rb_layout.specs.Locations.{Reached, pointer_block, block_in, next_ref, range_in, reached_at, ref_in, resolve_from, word_beginning}
use Rattle.rb_layout.specs.Pointers.{PointsTo}
use Rattle.rb_layout.specs.Words.{words_in, words_of_block, flat_at, begins_at, size_of}
use Rattle.rb_layout.specs.declared.layout.Block.{Block}
use Rattle.rb_layout.specs.declared.layout.FlatWord.{FlatWord}
use Rattle.rb_layout.specs.declared.layout.Kind.{Kind}
use Rattle.rb_layout.specs.declared.layout.Leaf.{Leaf}
use Rattle.rb_layout.specs.declared.layout.Part.{Part}
use Rattle.rb_layout.specs.declared.layout.WordRef.{WordRef}
use Rattle.rb_rel.specs.Reading.{WordStands, on_loaded, read_first, read_from, read_loc}
use Rattle.rb_rel.specs.Relation.{HoldsKind, IsFound, LeafStands}
use Rattle.rb_rel.proofs.Lists.{and_true}
use Rattle.rb_rel.proofs.Reading.{IsAt, block_in-is, stands_at, word_beginning-is}
use Rattle.rb_image_text.specs.declared.fault.ImageFault.{ImageFault}
use Rattle.rb_image_text.specs.declared.fault.ImageFault.TheVariants.{BadPointer}
use Rattle.rb_image_text.specs.declared.image.ImageBlock.{ImageBlock}
use Rattle.rb_image.specs.declared.kept.Kept.{Kept}
use Rattle.rb_image.specs.Blocks.{size_at, word_in}
use Rattle.rb_image.specs.Falling.{AddressFalls, PointersFall, base_in}
use Rattle.rb_image.specs.Parts.{block_from, block_size, pointer_lead, if_size, kept_at}
use Rattle.rb_image.specs.Splits.{and_then, kept_in, or_fault, pointed_from, range_at, range_from, range_of, step_over, with_base, word_at}
use Rattle.rb_image.proofs.FoundWords.{in_block}
use Rattle.rb_image.proofs.PlacedSpots.{spot_of}
use Rattle.rb_image.proofs.WholeMemories.{IsWhole}

-- Addresses ----------------------------------------------------------------------------------
lt_true : (a b : ℕ) → a < b → nat_lt a b ≡ true
lt_true a b lt = grind (arith, common_steps)

pub same_is : (a : ℕ) → (a == a) ≡ true
same_is a = grind (arith, common_steps)

or_true : (b : Bool) → (b || true) ≡ true
or_true true = refl
or_true false = refl

falls_or : (base at : ℕ) → AddressFalls base at → ((base == 0) || nat_lt at base) ≡ true
falls_or base at (inl z) = ap (λ t. t || nat_lt at base) (ap (λ k. k == 0) z ∙ same_is 0)
falls_or base at (inr lt) = ap (λ t. (base == 0) || t) (lt_true at base lt) ∙ or_true (base == 0)

pointed : (base at : ℕ) → at < 18446744073709551616 → AddressFalls base at → pointed_from base at ≡ Some at
pointed base at lt f =
    ap (λ t. if t then Some at else None)
    (and_true (nat_lt at 18446744073709551616) ((base == 0) || nat_lt at base) (lt_true at 18446744073709551616 lt) (falls_or base at f))

same_loaded : (a b : ℕ) → ◌≡◌ {A = Result ℕ Trap} (Ok a) (Ok b) → a ≡ b
same_loaded a b e = cc

-- kept words are these numbers, each kept in the block at its `from`
abbrev pub AreKeptAs : List Kept → List ℕ → (ℕ → ℕ) → Type 0
AreKeptAs xs ws from = (j n : ℕ) → slice_get ws j ≡ Some n → ((word_at xs j).number ≡ n) × ((word_at xs j).base ≡ from j)

-- a location has a range in the image, and its bits are read in the memory
pub record HasRange (blocks : List ImageBlock) (xs : List Kept) (ws : List ℕ) (m : Memory) (loc : Loc) : Type 0 where
  pub range : Kept
  pub is_range : ◌≡◌ {A = Result Kept ImageFault} (range_at blocks xs loc) (Ok range)
  pub is_read : read_loc ws m loc ≡ Some range.number

-- the address of a block that is known
abbrev pub IsKnown : (ℕ → ℕ) → List ℕ → Option ℕ → Type 0
IsKnown ats known None = Unit {0}
IsKnown ats known (Some b) = slice_index known b ≡ ats b

module _ (blocks : List ImageBlock) (m : Memory) (is : IsWhole blocks m) where
  small : (at size : ℕ) → M.size_at m.blocks at ≡ Some size → at < 18446744073709551616
  small at size e =
      let b = block_bounds m.blocks at size 64 m.next is.good.blocks e in
      let next = is.good.next in
      let limit = is.good.limit in
      omega (arith, b, next, limit)

  -- what is loaded is a word of the image
  loaded_word : (at byte width w : ℕ) → IsBlockWidth width → ◌≡◌ {A = Result ℕ Trap} (load_of m at byte width) (Ok w) → word_in blocks at byte width ≡ Some w
  loaded_word at byte width w wide e =
      let s = within_size (M.size_at m.blocks at) (byte + width / 8) (load_ok m at byte width w e).0 in
      let x = in_block blocks m is.keeps at byte width s.0 wide s.2 (is.whole at s.0 s.1) in
      x.is_word ∙ ap Some (same_loaded x.w w (sym x.loaded ∙ e))

  module _ (leaf : Leaf) (flat : IsFlat leaf) (wide : (b : ℕ) (block : Block) (j : ℕ) (f : FlatWord) → slice_get leaf.blocks b ≡ Some block → slice_get block.words j ≡ Some f → IsBlockWidth f.width)
      (ws : List ℕ) (subs : List ℕ → List ℕ) (ats from : ℕ → ℕ) (placed : LeafStands leaf ws m false subs ats) (falls : PointersFall leaf from ats)
      (xs : List Kept) (kept : AreKeptAs xs ws from) where
    -- Words --------------------------------------------------------------------------------
    block_width : (b : ℕ) (o : Option Block) (j : ℕ) (f : FlatWord) → slice_get leaf.blocks b ≡ o → slice_get (words_of_block o) j ≡ Some f → IsBlockWidth f.width
    block_width b None j f e h = absurd cc
    block_width b (Some block) j f e h = wide b block j f e h

    image_word : (b j : ℕ) (f : FlatWord) (w : ℕ) → slice_get (words_in leaf (Some b)) j ≡ Some f → ◌≡◌ {A = Result ℕ Trap} (load_of m (ats b) (begins_at (words_in leaf (Some b)) j) f.width) (Ok w)
        → word_in blocks (ats b) (begins_at (words_in leaf (Some b)) j) f.width ≡ Some w
    image_word b j f w e h = loaded_word (ats b) (begins_at (words_in leaf (Some b)) j) f.width w (block_width b (slice_get leaf.blocks b) j f refl e) h

    -- a word of the leaf is kept in its block
    pub kept_is : (o : Option ℕ) (j : ℕ) (f : FlatWord) (w : ℕ) → slice_get (words_in leaf o) j ≡ Some f → IsFound o (words_in leaf o) f j ws ats m w
        → (known : List ℕ) → IsKnown ats known o → (q : Part)
        → ((kept_at blocks xs known o (spot_of leaf (record { block = o; word = j }) f q)).number ≡ w)
        × ((kept_at blocks xs known o (spot_of leaf (record { block = o; word = j }) f q)).base ≡ base_in from ats o j)
    kept_is None j f w e found known k q = kept j w found
    kept_is (Some b) j f w e found known k q =
        (ap (λ a. unwrap_or (word_in blocks a (begins_at (words_in leaf (Some b)) j) f.width) 0) k ∙ ap (λ o. unwrap_or o 0) (image_word b j f w e found), k)

    -- Pointers -----------------------------------------------------------------------------
    module _ (r : WordRef) (l align b : ℕ) (points : PointsTo leaf r l align b) (bits : Kept)
        (number : bits.number * align ≡ ats b) (base : bits.base ≡ base_in from ats r.block r.word) where
      pointer_falls : M.size_at m.blocks (ats b) ≡ Some (size_of (flat.below r l align b points).0.0) → pointed_from bits.base (ats b) ≡ Some (ats b)
      pointer_falls there = pointed bits.base (ats b) (small (ats b) (size_of (flat.below r l align b points).0.0) there) (subst (λ k. AddressFalls k (ats b)) (sym base) (falls r l align b points))

      block_there : M.size_at m.blocks (ats b) ≡ Some (size_of (flat.below r l align b points).0.0)
      block_there = let block = (flat.below r l align b points).0 in placed.blocks b block.0 block.1

      -- a pointer leads to its block
      pub follows : ◌≡◌ {A = Result ℕ ImageFault} (pointer_lead blocks leaf bits align b) (Ok (ats b))
      follows =
          let block = (flat.below r l align b points).0 in
          let size = block_size (slice_get leaf.blocks b) in
          let found : size_at blocks (ats b) ≡ Some size = is.whole (ats b) (size_of block.0) block_there ∙ ap (λ o. Some (block_size o)) (sym block.1) in
          let one : ◌≡◌ {A = Result ℕ ImageFault} (pointer_lead blocks leaf bits align b) (or_fault (block_from blocks (pointed_from bits.base (ats b)) size) (BadPointer bits.base (ats b))) =
          ap (λ a. or_fault (block_from blocks (pointed_from bits.base a) size) (BadPointer bits.base a)) number in
          one
          ∙ ap (λ o. or_fault (block_from blocks o size) (BadPointer bits.base (ats b))) (pointer_falls block_there)
          ∙ ap (λ o. or_fault (if_size (ats b) size o) (BadPointer bits.base (ats b))) found
          ∙ ap (λ t. or_fault (if t then Some (ats b) else None) (BadPointer bits.base (ats b))) (same_is size)

      -- and a step through it to a word there
      steps_over : (t : Step) → bits.number * t.align ≡ ats b → (w : ℕ) → word_in blocks (ats b) t.byte t.width ≡ Some w
          → ◌≡◌ {A = Result Kept ImageFault} (step_over blocks bits t) (Ok (record { number = w; base = ats b; place = t.byte }))
      steps_over t leads w found =
          let one : ◌≡◌ {A = Result Kept ImageFault} (step_over blocks bits t) (or_fault (kept_in blocks (pointed_from bits.base (ats b)) t.byte t.width) (BadPointer bits.base (ats b))) =
          ap (λ a. or_fault (kept_in blocks (pointed_from bits.base a) t.byte t.width) (BadPointer bits.base a)) leads in
          one
          ∙ ap (λ o. or_fault (kept_in blocks o t.byte t.width) (BadPointer bits.base (ats b))) (pointer_falls block_there)
          ∙ ap (λ o. or_fault (with_base (ats b) t.byte o) (BadPointer bits.base (ats b))) found

    -- Locations ----------------------------------------------------------------------------
    abbrev At : WordRef → FlatWord → ℕ → Type 0
    At = WordStands leaf ws m false subs ats

    -- from a range on, the steps lead to what is read in the memory
    record Ranged (range : Kept) (w o l : ℕ) (steps : List Step) : Type 0 where
      k : Kept
      is_range : ◌≡◌ {A = Result Kept ImageFault} (range_from blocks range steps) (Ok k)
      is_read : read_from m w o l steps ≡ Some k.number

    abbrev Rest : List Step → ℕ → ℕ → Reached → Type 0
    Rest steps o l x = (r : WordRef) (f : FlatWord) (w : ℕ) → At r f w → resolve_from leaf (Some r) o l steps ≡ Some x
        → (range : Kept) → range.number ≡ take_of w o l → range.base ≡ base_in from ats r.block r.word → Ranged range w o l steps

    module _ (t : Step) (steps : List Step) (r : WordRef) (f : FlatWord) (w o l : ℕ) (x : Reached) (s : At r f w) (rest : Rest steps t.o t.l x)
        (range : Kept) (number : range.number ≡ take_of w o l) (base : range.base ≡ base_in from ats r.block r.word) where
      by_word : (b : ℕ) → IsAt f.parts o l t.align b → (found : Option ℕ) → word_beginning (words_in leaf (Some b)) 0 t.byte t.width 0 ≡ found
          → resolve_from leaf (ref_in b found) t.o t.l steps ≡ Some x → Ranged range w o l (t ∷ steps)
      by_word b q None at e = absurd cc
      by_word b q (Some j) at e =
          let h = word_beginning-is (words_in leaf (Some b)) 0 t.byte t.width 0 j at in
          let here : h.number ≡ j = omega (arith, h.is_number) in
          let next : WordRef = record { block = Some b; word = j } in
          let there : slice_get (words_in leaf (Some b)) j ≡ Some h.word = ap (slice_get (words_in leaf (Some b))) (sym here) ∙ h.is_word in
          let y = stands_at leaf ws m false subs ats placed next h.word there in
          let holds = s.holds.parts q.number q.part q.is_part in
          let leads : take_of w o l * t.align ≡ ats b =
          subst (λ (k : Kind). HoldsKind subs ats (take_of w o l) l k) q.is_kind
          (subst (λ k. HoldsKind subs ats (take_of w o k) k q.part.kind) q.long
          (subst (λ k. HoldsKind subs ats (take_of w k q.part.l) q.part.l q.part.kind) q.first holds)) in
          let begins : begins_at (words_in leaf (Some b)) j ≡ t.byte = ap (begins_at (words_in leaf (Some b))) (sym here) ∙ (let z = h.is_byte in omega arith) in
          let reads : load_of m (take_of w o l * t.align) t.byte t.width ≡ Ok y.0 =
          ap (λ k. load_of m k t.byte t.width) leads ∙ ap (λ k. load_of m (ats b) k t.width) (sym begins)
          ∙ ap (load_of m (ats b) (begins_at (words_in leaf (Some b)) j)) (sym h.is_width) ∙ y.1.is_found in
          let found : word_in blocks (ats b) t.byte t.width ≡ Some y.0 =
          ap (λ k. word_in blocks (ats b) k t.width) (sym begins)
          ∙ ap (word_in blocks (ats b) (begins_at (words_in leaf (Some b)) j)) (sym h.is_width) ∙ image_word b j h.word y.0 there y.1.is_found in
          let points : PointsTo leaf r q.part.l t.align b = record { word = f; number = q.number; part = q.part; is_word = s.is_flat; is_part = q.is_part; is_length = refl; is_pointer = q.is_kind } in
          let k : Kept = record { number = y.0; base = ats b; place = t.byte } in
          let pointed : range.number * t.align ≡ ats b = ap (λ n. n * t.align) number ∙ leads in
          let over : ◌≡◌ {A = Result Kept ImageFault} (step_over blocks range t) (Ok k) = steps_over r q.part.l t.align b points range pointed base t pointed y.0 found in
          let go = rest next h.word y.0 y.1 e (range_of k t.o t.l) refl refl in
          record {
            k = go.k;
            is_range = ap (λ z. and_then z (λ u. range_from blocks (range_of u t.o t.l) steps)) over ∙ go.is_range;
            is_read = ap (λ z. on_loaded z (λ u. read_from m u t.o t.l steps)) reads ∙ go.is_read;
          }

      by_block : (found : Option ℕ) → block_in f.parts o l t.align ≡ found → resolve_from leaf (next_ref leaf found t) t.o t.l steps ≡ Some x → Ranged range w o l (t ∷ steps)
      by_block None at e = absurd cc
      by_block (Some b) at e = by_word b (block_in-is f.parts o l t.align b at) (word_beginning (words_in leaf (Some b)) 0 t.byte t.width 0) refl e

    ranged : (steps : List Step) (o l : ℕ) (x : Reached) → Rest steps o l x
    ranged [] o l x r f w s e range number base = record { k = range; is_range = refl; is_read = ap Some (sym number) }
    ranged (t ∷ steps) o l x r f w s e range number base =
        by_block t steps r f w o l x s (ranged steps t.o t.l x) range number base (block_in f.parts o l t.align) refl
        (ap (λ y. resolve_from leaf (next_ref leaf (pointer_block y o l t.align) t) t.o t.l steps) (sym s.is_flat) ∙ e)

    none_resolves : (steps : List Step) (r : WordRef) (o l : ℕ) (x : Reached) → flat_at leaf r ≡ None → resolve_from leaf (Some r) o l steps ≡ Some x → ⊥
    none_resolves [] r o l x at e = let h = ap (λ y. range_in y r o l) (sym at) ∙ e in cc
    none_resolves (t ∷ steps) r o l x at e = let h = ap (λ y. resolve_from leaf (next_ref leaf (pointer_block y o l t.align) t) t.o t.l steps) (sym at) ∙ e in cc

    pub read_at : (loc : Loc) (x : Reached) → reached_at leaf loc ≡ Some x → HasRange blocks xs ws m loc
    read_at loc x e = go (flat_at leaf root) refl
      where
        root : WordRef
        root = record { block = None; word = loc.word }

        go : (f : Option FlatWord) → flat_at leaf root ≡ f → HasRange blocks xs ws m loc
        go None at = absurd (none_resolves loc.steps root loc.o loc.l x at e)
        go (Some f) at =
            let y = stands_at leaf ws m false subs ats placed root f at in
            let k = kept loc.word y.0 y.1.is_found in
            let last = ranged loc.steps loc.o loc.l x root f y.0 y.1 e (range_of (word_at xs loc.word) loc.o loc.l) (ap (λ n. take_of n loc.o loc.l) k.0) k.1 in
            record { range = last.k; is_range = last.is_range; is_read = ap (λ n. read_first m n loc) y.1.is_found ∙ last.is_read }
