-- Where words represent a value in the memory of an image's blocks and pointers fall, all parts of the leaf are examined without
-- fault, and its blocks are found where they are.
use Rattle.std.proofs.Common.{◌≡◌, ℕ, ◌+◌, ◌<◌, ◌≤◌, ◌==◌, inl, inr, false, List, [], ◌∷◌, length, replicate, Option, Some, None, Result, Ok, Err, refl, sym, subst, ap, ◌∙◌, arith}
use Rattle.std.specs.Prelude.{slice_get, slice_index, slice_set, if◌then◌else◌}
use Rattle.std.proofs.lemmas.Bool.{cases_eq}
use Rattle.std.proofs.lemmas.List.{length-replicate, length-set, get_or-set_same, get_or-set_other}
use Rattle.std.proofs.lemmas.Option.{slice_get_within}
use Rattle.rb_bits.specs.Words.{take_of}
use Rattle.rb_bytes.specs.Memory.{Memory}
use Rattle.rb_layout.specs.A4.{IsBlockWidth}
use Rattle.rb_layout.specs.Flat.{IsFlat}
use Rattle.rb_layout.specs.Pointers.{PointsTo}
use Rattle.rb_layout.specs.Words.{words_of_block, words_in, flat_at}
use Rattle.rb_layout.specs.declared.layout.Block.{Block}
use Rattle.rb_layout.specs.declared.layout.FlatWord.{FlatWord}
use Rattle.rb_layout.specs.declared.layout.Kind.{Kind}
use Rattle.rb_layout.specs.declared.layout.Kind.TheVariants.{Const, Bits, Word, Pointer}
use Rattle.rb_layout.specs.declared.layout.Leaf.{Leaf}
use Rattle.rb_layout.specs.declared.layout.Part.{Part}
use Rattle.rb_layout.specs.declared.layout.WordRef.{WordRef}
use Rattle.rb_rel.specs.Relation.{HoldsKind, LeafStands}
use Rattle.rb_image_text.specs.declared.fault.ImageFault.{ImageFault}
use Rattle.rb_image_text.specs.declared.fault.ImageFault.TheVariants.{BadBits}
use Rattle.rb_image_text.specs.declared.image.ImageBlock.{ImageBlock}
use Rattle.rb_image.specs.declared.kept.Kept.{Kept}
use Rattle.rb_image.specs.Falling.{PointersFall, base_in}
use Rattle.rb_image.specs.Orders.{LocatedPart, order_of}
use Rattle.rb_image.specs.Parts.{addresses_of, bits_at, examine, examine_kind, examine_part}
use Rattle.rb_image.specs.Splits.{and_then}
use Rattle.rb_image.proofs.FallingWords.{AreKeptAs, IsKnown, follows, kept_is, same_is}
use Rattle.rb_image.proofs.PlacedSpots.{AreLed, BlockSeen, IsSpot, order_led, order_spots, part_in_order, spot_of}
use Rattle.rb_image.proofs.PointerLemmas.{points, points_other, points_same, pointing}
use Rattle.rb_image.proofs.SpotLemmas.{In}
use Rattle.rb_image.proofs.WholeMemories.{IsWhole}

-- a pointer among parts
pub pointer_counts : (c align : ℕ) (ss : List LocatedPart) (s : LocatedPart) → In s ss → s.part.kind ≡ Pointer align c → 1 ≤ pointing c ss
pointer_counts c align [] s h e = absurd h
pointer_counts c align (x ∷ ss) s (inl same) e =
    let one : points c x.part.kind ≡ 1 = ap (λ (y : LocatedPart). points c y.part.kind) (sym same) ∙ ap (points c) e ∙ points_same c align in
    omega (arith, one)
pointer_counts c align (x ∷ ss) s (inr h) e = let more = pointer_counts c align ss s h e in omega (arith, more)

module _ (blocks : List ImageBlock) (m : Memory) (is : IsWhole blocks m)
    (leaf : Leaf) (flat : IsFlat leaf) (wide : (b : ℕ) (block : Block) (j : ℕ) (f : FlatWord) → slice_get leaf.blocks b ≡ Some block → slice_get block.words j ≡ Some f → IsBlockWidth f.width)
    (ws : List ℕ) (subs : List ℕ → List ℕ) (ats from : ℕ → ℕ) (placed : LeafStands leaf ws m false subs ats) (falls : PointersFall leaf from ats)
    (xs : List Kept) (kept : AreKeptAs xs ws from) where
  -- the blocks that were seen have their addresses
  abbrev AreKnown : (ℕ → ℕ) → List ℕ → Type 0
  AreKnown seen known = (c : ℕ) → 1 ≤ seen c → slice_index known c ≡ ats c

  known_block : (seen : ℕ → ℕ) (known : List ℕ) → AreKnown seen known → (o : Option ℕ) → BlockSeen seen o → IsKnown ats known o
  known_block seen known all None h = tt
  known_block seen known all (Some b) h = all b h

  -- One part ---------------------------------------------------------------------------------
  record Examined (seen : ℕ → ℕ) (kind : Kind) (r : Result (List ℕ) ImageFault) : Type 0 where
    next : List ℕ
    is_next : ◌≡◌ {A = Result (List ℕ) ImageFault} r (Ok next)
    long : length next ≡ length leaf.blocks
    all : AreKnown (λ c. points c kind + seen c) next

  module _ (r : WordRef) (f : FlatWord) (k : ℕ) (q : Part) (is_word : flat_at leaf r ≡ Some f) (is_part : slice_get f.parts k ≡ Some q)
      (known : List ℕ) (seen : ℕ → ℕ) (long : length known ≡ length leaf.blocks) (all : AreKnown seen known) where
    kind_examined : (bits : Kept) → bits.base ≡ base_in from ats r.block r.word → (kind : Kind) → q.kind ≡ kind → HoldsKind subs ats bits.number q.l kind
        → Examined seen kind (examine_kind blocks leaf known bits kind)
    kind_examined bits base (Const c) e h = record {
      next = known;
      is_next = ap (λ t. if t then Ok known else Err (BadBits bits.base bits.place)) (ap (λ n. n == c) h ∙ same_is c);
      long = long;
      all = λ b some. all b (omega (arith, some));
    }
    kind_examined bits base (Bits path a) e h = record { next = known; is_next = refl; long = long; all = λ b some. all b (omega (arith, some)) }
    kind_examined bits base (Word path j) e h = record { next = known; is_next = refl; long = long; all = λ b some. all b (omega (arith, some)) }
    kind_examined bits base (Pointer align b) e h =
        let to : PointsTo leaf r q.l align b = record { word = f; number = k; part = q; is_word = is_word; is_part = is_part; is_length = refl; is_pointer = e } in
        let block = (flat.below r q.l align b to).0 in
        let lt = slice_get_within leaf.blocks b block.0 block.1 in
        record {
          next = slice_set known b (ats b);
          is_next = ap (λ z. and_then z (λ at. Ok (slice_set known b at))) (follows blocks m is leaf flat wide ws subs ats from placed falls xs kept r q.l align b to bits h base);
          long = length-set known b (ats b) ∙ long;
          all = λ c some. elim (cases_eq c b) [
            | inl same ↦ ap (slice_index (slice_set known b (ats b))) same ∙ get_or-set_same known b (ats b) 0 (omega (arith, long, lt)) ∙ ap ats (sym same)
            | inr ne ↦ let none = points_other c align b (λ h. ne (sym h)) in
                get_or-set_other known b c (ats b) 0 ne ∙ all c (omega (arith, some, none))
          ];
        }

    spot_examined : BlockSeen seen r.block → Examined seen q.kind (examine_part blocks leaf xs known (spot_of leaf r f q))
    spot_examined led =
        let x = placed.words r f is_word in
        let spot = spot_of leaf r f q in
        let at = kept_is blocks m is leaf flat wide ws subs ats from placed falls xs kept r.block r.word f x.0 is_word x.1 known (known_block seen known all r.block led) q in
        kind_examined (bits_at blocks xs known spot) at.1 q.kind refl
        (subst (λ n. HoldsKind subs ats (take_of n q.o q.l) q.l q.kind) (sym at.0) (x.2.parts k q is_part))

  -- All parts --------------------------------------------------------------------------------
  record Found (seen : ℕ → ℕ) (known : List ℕ) (ss : List LocatedPart) : Type 0 where
    found : List ℕ
    is_found : ◌≡◌ {A = Result (List ℕ) ImageFault} (examine blocks leaf xs known ss) (Ok found)
    all : AreKnown (λ c. seen c + pointing c ss) found

  all_examined : (ss : List LocatedPart) (known : List ℕ) (seen : ℕ → ℕ) → length known ≡ length leaf.blocks → AreKnown seen known → AreLed seen ss
      → ((s : LocatedPart) → In s ss → IsSpot leaf s) → Found seen known ss
  all_examined [] known seen long all led spots = record { found = known; is_found = refl; all = λ c some. all c (omega (arith, some)) }
  all_examined (s ∷ ss) known seen long all led spots =
      let x = spots s (inl refl) in
      let seen_block : BlockSeen seen x.ref.block = subst (BlockSeen seen) (ap (λ (y : LocatedPart). y.block) x.is) led.0 in
      let e : Examined seen s.part.kind (examine_part blocks leaf xs known s) =
      subst (λ (y : LocatedPart). Examined seen s.part.kind (examine_part blocks leaf xs known y)) (sym x.is)
      (spot_examined x.ref x.word x.number s.part x.is_word x.is_part known seen long all seen_block) in
      let rest = all_examined ss e.next (λ c. points c s.part.kind + seen c) e.long e.all led.1 (λ y h. spots y (inr h)) in
      record {
        found = rest.found;
        is_found = ap (λ z. and_then z (λ next. examine blocks leaf xs next ss)) e.is_next ∙ rest.is_found;
        all = λ c some. rest.all c (omega (arith, some));
      }

  -- Addresses --------------------------------------------------------------------------------
  pub record HasAddresses : Type 0 where
    pub found : List ℕ
    pub is_found : ◌≡◌ {A = Result (List ℕ) ImageFault} (addresses_of blocks leaf xs) (Ok found)
    pub known : (r : WordRef) (f : FlatWord) → flat_at leaf r ≡ Some f → IsKnown ats found r.block

  module _ (low : (r : WordRef) (f : FlatWord) (k : ℕ) (q : Part) → flat_at leaf r ≡ Some f → slice_get f.parts k ≡ Some q → q.o < f.width)
      (x : Found (λ c. 0) (replicate (length leaf.blocks) 0) (order_of leaf)) where
    block_known : (b : ℕ) (o : Option Block) (j : ℕ) (f : FlatWord) → slice_get leaf.blocks b ≡ o → slice_get (words_of_block o) j ≡ Some f → slice_index x.found b ≡ ats b
    block_known b None j f e h = absurd cc
    block_known b (Some block) j f e h =
        let q = flat.pointed b block e in
        let pt = q.2 in
        let there = part_in_order leaf flat low q.0 pt.word pt.number pt.part pt.is_word pt.is_part in
        let some = pointer_counts b block.align (order_of leaf) (spot_of leaf q.0 pt.word pt.part) there pt.is_pointer in
        x.all b (omega (arith, some))

    ref_known : (o : Option ℕ) (j : ℕ) (f : FlatWord) → slice_get (words_in leaf o) j ≡ Some f → IsKnown ats x.found o
    ref_known None j f e = tt
    ref_known (Some b) j f e = block_known b (slice_get leaf.blocks b) j f refl e

  none_known : AreKnown (λ c. 0) (replicate (length leaf.blocks) 0)
  none_known c some = absurd (omega (arith, some))

  pub addresses : ((r : WordRef) (f : FlatWord) (k : ℕ) (q : Part) → flat_at leaf r ≡ Some f → slice_get f.parts k ≡ Some q → q.o < f.width) → HasAddresses
  addresses low =
      let x = all_examined (order_of leaf) (replicate (length leaf.blocks) 0) (λ c. 0) (length-replicate (length leaf.blocks) 0) none_known (order_led leaf) (order_spots leaf) in
      record { found = x.found; is_found = x.is_found; known = λ r f e. ref_known low x r.block r.word f e }
