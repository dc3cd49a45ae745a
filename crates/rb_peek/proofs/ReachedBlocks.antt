-- Where words represent a value in the memory of an image's blocks and pointers fall, the blocks that are reached in its leaf are at
-- their addresses.
use Rattle.std.proofs.Common.{◌≡◌, ℕ, zero, suc, ◌+◌, ◌<◌, ◌≤◌, ◌==◌, ◌⊎◌, inl, inr, Bool, true, false, List, [], ◌∷◌, length, replicate, Option, Some, None, Result, Ok, refl, sym, subst, ap, ◌∙◌, arith}
use Rattle.std.specs.Prelude.{slice_get, slice_index, slice_set, if◌then◌else◌}
use Rattle.std.proofs.lemmas.Bool.{cases_eq}
use Rattle.std.proofs.lemmas.List.{length-replicate, length-set, get_or-set_same, get_or-set_other}
use Rattle.std.proofs.lemmas.Option.{slice_get_within}
use Rattle.rb_bits.specs.Words.{take_of}
use Rattle.rb_bytes.specs.Memory.{Memory}
use Rattle.rb_layout.specs.A4.{IsBlockWidth}
use Rattle.rb_layout.specs.Flat.{IsFlat}
use Rattle.rb_layout.specs.Pointers.{PointsTo}
use Rattle.rb_layout.specs.Words.{words_of_block, words_in, flat_at}
use Rattle.rb_layout.specs.declared.layout.Block.{Block}
use Rattle.rb_layout.specs.declared.layout.FlatWord.{FlatWord}
use Rattle.rb_layout.specs.declared.layout.Kind.{Kind}
use Rattle.rb_layout.specs.declared.layout.Kind.TheVariants.{Const, Bits, Word, Pointer}
use Rattle.rb_layout.specs.declared.layout.Leaf.{Leaf}
use Rattle.rb_layout.specs.declared.layout.Part.{Part}
use Rattle.rb_layout.specs.declared.layout.WordRef.{WordRef}
use Rattle.rb_rel.specs.Relation.{HoldsKind, LeafStands}
use Rattle.rb_image_text.specs.declared.fault.ImageFault.{ImageFault}
use Rattle.rb_image_text.specs.declared.image.ImageBlock.{ImageBlock}
use Rattle.rb_image.specs.declared.kept.Kept.{Kept}
use Rattle.rb_image.specs.Falling.{PointersFall, base_in}
use Rattle.rb_image.specs.LeafWords.{follow, follow_kind, follow_part, block_addresses, with_found}
use Rattle.rb_image.specs.Orders.{LocatedPart, order_of}
use Rattle.rb_image.specs.Parts.{bits_at, pointer_lead}
use Rattle.rb_image.proofs.FallingParts.{pointer_counts}
use Rattle.rb_image.proofs.FallingWords.{AreKeptAs, IsKnown, follows, kept_is, same_is}
use Rattle.rb_image.proofs.PlacedSpots.{AreLed, BlockSeen, IsSpot, order_led, order_spots, part_in_order, spot_of}
use Rattle.rb_image.proofs.PointerLemmas.{points, points_other, pointing}
use Rattle.rb_image.proofs.SpotLemmas.{In}
use Rattle.rb_image.proofs.WholeMemories.{IsWhole}

module _ (blocks : List ImageBlock) (m : Memory) (is : IsWhole blocks m)
    (leaf : Leaf) (flat : IsFlat leaf) (wide : (b : ℕ) (block : Block) (j : ℕ) (f : FlatWord) → slice_get leaf.blocks b ≡ Some block → slice_get block.words j ≡ Some f → IsBlockWidth f.width)
    (ws : List ℕ) (subs : List ℕ → List ℕ) (ats from : ℕ → ℕ) (placed : LeafStands leaf ws m false subs ats) (falls : PointersFall leaf from ats)
    (xs : List Kept) (kept : AreKeptAs xs ws from) where
  -- the blocks that were seen have their addresses, and others none or theirs
  record AreKnown (seen : ℕ → ℕ) (known : List ℕ) : Type 0 where
    long : length known ≡ length leaf.blocks
    all : (c : ℕ) → 1 ≤ seen c → slice_index known c ≡ ats c
    none : (c : ℕ) → (slice_index known c ≡ 0) ⊎ (slice_index known c ≡ ats c)

  known_block : (seen : ℕ → ℕ) (known : List ℕ) → AreKnown seen known → (o : Option ℕ) → BlockSeen seen o → IsKnown ats known o
  known_block seen known k None h = tt
  known_block seen known k (Some b) h = k.all b h

  more : (seen : ℕ → ℕ) (known : List ℕ) (kind : Kind) → ((c : ℕ) → points c kind ≡ 0) → AreKnown seen known → AreKnown (λ c. points c kind + seen c) known
  more seen known kind zeros k = record { long = k.long; all = λ c some. k.all c (let z = zeros c in omega (arith, some, z)); none = k.none }

  -- One part ---------------------------------------------------------------------------------
  module _ (known : List ℕ) (seen : ℕ → ℕ) (k : AreKnown seen known) (align b : ℕ) (lt : b < length leaf.blocks) where
    set_known : AreKnown (λ c. points c (Pointer align b) + seen c) (slice_set known b (ats b))
    set_known = record {
      long = length-set known b (ats b) ∙ k.long;
      all = λ c some. elim (cases_eq c b) [
        | inl same ↦ same_set c same
        | inr ne ↦ let no = points_other c align b (λ h. ne (sym h)) in get_or-set_other known b c (ats b) 0 ne ∙ k.all c (omega (arith, some, no))
      ];
      none = λ c. elim (cases_eq c b) [
        | inl same ↦ inr (same_set c same)
        | inr ne ↦ elim (k.none c) [
          | inl z ↦ inl (get_or-set_other known b c (ats b) 0 ne ∙ z)
          | inr a ↦ inr (get_or-set_other known b c (ats b) 0 ne ∙ a)
        ]
      ];
    }
      where
        same_set : (c : ℕ) → c ≡ b → slice_index (slice_set known b (ats b)) c ≡ ats c
        same_set c same = let long = k.long in ap (slice_index (slice_set known b (ats b))) same ∙ get_or-set_same known b (ats b) 0 (omega (arith, long, lt)) ∙ ap ats (sym same)

    kept_known : (slice_index known b == 0) ≡ false → AreKnown (λ c. points c (Pointer align b) + seen c) known
    kept_known other = record {
      long = k.long;
      all = λ c some. elim (cases_eq c b) [
        | inl same ↦ ap (slice_index known) same ∙ here ∙ ap ats (sym same)
        | inr ne ↦ let no = points_other c align b (λ h. ne (sym h)) in k.all c (omega (arith, some, no))
      ];
      none = k.none;
    }
      where
        here : slice_index known b ≡ ats b
        here = elim (k.none b) [
          | inl z ↦ absurd (let no = sym other ∙ ap (λ n. n == 0) z ∙ same_is 0 in cc)
          | inr a ↦ a
        ]

    pointer_known : (r : Result ℕ ImageFault) → ◌≡◌ {A = Result ℕ ImageFault} r (Ok (ats b))
        → AreKnown (λ c. points c (Pointer align b) + seen c) (if slice_index known b == 0 then with_found known b r else known)
    pointer_known r e = subst (λ (x : Result ℕ ImageFault). AreKnown (λ c. points c (Pointer align b) + seen c) (if slice_index known b == 0 then with_found known b x else known)) (sym e) (go (slice_index known b == 0) refl)
      where
        go : (t : Bool) → (slice_index known b == 0) ≡ t → AreKnown (λ c. points c (Pointer align b) + seen c) (if slice_index known b == 0 then slice_set known b (ats b) else known)
        go true is = subst (λ (t : Bool). AreKnown (λ c. points c (Pointer align b) + seen c) (if t then slice_set known b (ats b) else known)) (sym is) set_known
        go false is = subst (λ (t : Bool). AreKnown (λ c. points c (Pointer align b) + seen c) (if t then slice_set known b (ats b) else known)) (sym is) (kept_known is)

  module _ (r : WordRef) (f : FlatWord) (n : ℕ) (q : Part) (is_word : flat_at leaf r ≡ Some f) (is_part : slice_get f.parts n ≡ Some q) (known : List ℕ) (seen : ℕ → ℕ) (k : AreKnown seen known) where
    kind_followed : (bits : Kept) → bits.base ≡ base_in from ats r.block r.word → (kind : Kind) → q.kind ≡ kind → HoldsKind subs ats bits.number q.l kind
        → AreKnown (λ c. points c kind + seen c) (follow_kind blocks leaf known bits kind)
    kind_followed bits base (Const c) e h = more seen known (Const c) (λ b. refl) k
    kind_followed bits base (Bits path a) e h = more seen known (Bits path a) (λ b. refl) k
    kind_followed bits base (Word path j) e h = more seen known (Word path j) (λ b. refl) k
    kind_followed bits base (Pointer align b) e h =
        let to : PointsTo leaf r q.l align b = record { word = f; number = n; part = q; is_word = is_word; is_part = is_part; is_length = refl; is_pointer = e } in
        let block = (flat.below r q.l align b to).0 in
        pointer_known known seen k align b (slice_get_within leaf.blocks b block.0 block.1) (pointer_lead blocks leaf bits align b)
        (follows blocks m is leaf flat wide ws subs ats from placed falls xs kept r q.l align b to bits h base)

    spot_followed : BlockSeen seen r.block → AreKnown (λ c. points c q.kind + seen c) (follow_part blocks leaf xs known (spot_of leaf r f q))
    spot_followed led =
        let x = placed.words r f is_word in
        let spot = spot_of leaf r f q in
        let at = kept_is blocks m is leaf flat wide ws subs ats from placed falls xs kept r.block r.word f x.0 is_word x.1 known (known_block seen known k r.block led) q in
        kind_followed (bits_at blocks xs known spot) at.1 q.kind refl
        (subst (λ w. HoldsKind subs ats (take_of w q.o q.l) q.l q.kind) (sym at.0) (x.2.parts n q is_part))

  -- All parts --------------------------------------------------------------------------------
  all_followed : (ss : List LocatedPart) (known : List ℕ) (seen : ℕ → ℕ) → AreKnown seen known → AreLed seen ss → ((s : LocatedPart) → In s ss → IsSpot leaf s)
      → (c : ℕ) → 1 ≤ seen c + pointing c ss → slice_index (follow blocks leaf xs known ss) c ≡ ats c
  all_followed [] known seen k led spots c some = k.all c (omega (arith, some))
  all_followed (s ∷ ss) known seen k led spots c some =
      let x = spots s (inl refl) in
      let seen_block : BlockSeen seen x.ref.block = subst (BlockSeen seen) (ap (λ (y : LocatedPart). y.block) x.is) led.0 in
      let e : AreKnown (λ c. points c s.part.kind + seen c) (follow_part blocks leaf xs known s) =
      subst (λ (y : LocatedPart). AreKnown (λ c. points c s.part.kind + seen c) (follow_part blocks leaf xs known y)) (sym x.is) (spot_followed x.ref x.word x.number s.part x.is_word x.is_part known seen k seen_block) in
      all_followed ss (follow_part blocks leaf xs known s) (λ c. points c s.part.kind + seen c) e led.1 (λ y h. spots y (inr h)) c (omega (arith, some))

  none_known : AreKnown (λ c. 0) (replicate (length leaf.blocks) 0)
  none_known = record {
    long = length-replicate (length leaf.blocks) 0;
    all = λ c some. absurd (omega (arith, some));
    none = λ c. inl (zero_at (length leaf.blocks) c);
  }
    where
      zero_at : (n c : ℕ) → slice_index (replicate n 0) c ≡ 0
      zero_at zero c = refl
      zero_at (suc n) zero = refl
      zero_at (suc n) (suc c) = zero_at n c

  module _ (low : (r : WordRef) (f : FlatWord) (k : ℕ) (q : Part) → flat_at leaf r ≡ Some f → slice_get f.parts k ≡ Some q → q.o < f.width) where
    block_reached : (b : ℕ) (o : Option Block) (j : ℕ) (f : FlatWord) → slice_get leaf.blocks b ≡ o → slice_get (words_of_block o) j ≡ Some f → slice_index (block_addresses blocks leaf xs) b ≡ ats b
    block_reached b None j f e h = absurd cc
    block_reached b (Some block) j f e h =
        let q = flat.pointed b block e in
        let pt = q.2 in
        let there = part_in_order leaf flat low q.0 pt.word pt.number pt.part pt.is_word pt.is_part in
        let some = pointer_counts b block.align (order_of leaf) (spot_of leaf q.0 pt.word pt.part) there pt.is_pointer in
        all_followed (order_of leaf) (replicate (length leaf.blocks) 0) (λ c. 0) none_known (order_led leaf) (order_spots leaf) b (omega (arith, some))

    ref_reached : (o : Option ℕ) (j : ℕ) (f : FlatWord) → slice_get (words_in leaf o) j ≡ Some f → IsKnown ats (block_addresses blocks leaf xs) o
    ref_reached None j f e = tt
    ref_reached (Some b) j f e = block_reached b (slice_get leaf.blocks b) j f refl e

    -- the blocks that are reached in a leaf that is placed are at their addresses
    pub blocks_reached : (r : WordRef) (f : FlatWord) → flat_at leaf r ≡ Some f → IsKnown ats (block_addresses blocks leaf xs) r.block
    blocks_reached r f e = ref_reached r.block r.word f e
