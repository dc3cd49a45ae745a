-- The words of a leaf whose blocks are known are found in a memory that keeps the image.
use Rattle.std.proofs.Common.{◌≡◌, ℕ, zero, suc, ◌+◌, ◌*◌, ◌/◌, ◌^◌, ◌<◌, ◌≤◌, inl, inr, nat_le, true, List, length, map, Option, Some, None, Result, Ok, Err, refl, sym, subst, ap, ◌∙◌, arith}
use Rattle.std.specs.Prelude.{slice_get, slice_index, slice_range, unwrap_or}
use Rattle.std.proofs.lemmas.Grind.{common_steps}
use Rattle.std.proofs.lemmas.Nat.{pow-add}
use Rattle.std.proofs.lemmas.Option.{same_Some, slice_get_within, get_or_from_slice_get}
use Rattle.rb_bits.specs.LittleEndian.{from_le_bytes}
use Rattle.rb_bytes.specs.Memory.{Memory, byte_at, load_of, read_le, then_byte}
use Rattle.rb_bytes.specs.declared.fault.Trap.{Trap}
use Rattle.rb_bytes.proofs.MemoryLemmas.{load_ok}
use Rattle.rb_layout.specs.A4.{IsBlockWidth}
use Rattle.rb_layout.specs.declared.layout.Block.{Block}
use Rattle.rb_layout.specs.declared.layout.FlatWord.{FlatWord}
use Rattle.rb_layout.specs.declared.layout.Leaf.{Leaf}
use Rattle.rb_layout.specs.declared.layout.Part.{Part}
use Rattle.rb_layout.specs.declared.layout.WordRef.{WordRef}
use Rattle.rb_layout.specs.Words.{words_in, words_of_block, flat_at, begins_at, size_of}
use Rattle.rb_rel.specs.Relation.{IsFound}
use Rattle.rb_rel.proofs.Lists.{got, get-mapped}
use Rattle.rb_rel.proofs.Storing.{begins_within}
use Rattle.rb_image_text.specs.declared.image.ImageBlock.{ImageBlock}
use Rattle.rb_image.specs.declared.kept.Kept.{Kept}
use Rattle.rb_image.specs.Blocks.{block_at, size_at, size_in, is_width, word_in, block_word}
use Rattle.rb_image.specs.Parts.{kept_at}
use Rattle.rb_image.specs.Splits.{nothing, word_at}
use Rattle.rb_image.specs.Values.{KeepsImage}
use Rattle.rb_image.proofs.BlockLemmas.{word_found}
use Rattle.rb_image.proofs.PlacedSpots.{spot_of}

-- Words are small ----------------------------------------------------------------------------
read_small : (bytes : List (Option ℕ)) (n at r : ℕ) → ((a b : ℕ) → byte_at bytes a ≡ Some b → b < 256) → ◌≡◌ {A = Result ℕ Trap} (read_le bytes n at) (Ok r) → r < 2 ^ (8 * n)
read_small bytes zero at r small e = let same : 0 ≡ r = (let z : ◌≡◌ {A = Result ℕ Trap} (Ok 0) (Ok r) = e in cc) in omega (arith, same)
read_small bytes (suc n) at r small e = go (byte_at bytes at) refl (read_le bytes n (at + 1)) refl e (λ q h. read_small bytes n (at + 1) q small h)
  where
    go : (o : Option ℕ) → byte_at bytes at ≡ o → (rest : Result ℕ Trap) → read_le bytes n (at + 1) ≡ rest → ◌≡◌ {A = Result ℕ Trap} (then_byte at o rest) (Ok r)
        → ((q : ℕ) → ◌≡◌ {A = Result ℕ Trap} (read_le bytes n (at + 1)) (Ok q) → q < 2 ^ (8 * n)) → r < 2 ^ (8 * suc n)
    go None x rest y h ih = absurd cc
    go (Some b) x (Err t) y h ih = absurd cc
    go (Some b) x (Ok q) y h ih =
        let lt = ih q y in
        let byte = small at b x in
        let is : b + 256 * q ≡ r = (let z : ◌≡◌ {A = Result ℕ Trap} (Ok (b + 256 * q)) (Ok r) = h in cc) in
        let p : 2 ^ (8 * suc n) ≡ 256 * 2 ^ (8 * n) = (let z : 8 * suc n ≡ 8 + 8 * n = omega arith in ap (λ k. 2 ^ k) z ∙ pow-add 2 8 (8 * n)) in
        omega (arith, lt, byte, is, p)

whole_bytes : (w : ℕ) → IsBlockWidth w → 8 * (w / 8) ≡ w
whole_bytes w (inl e) = omega (arith, e)
whole_bytes w (inr (inl e)) = omega (arith, e)
whole_bytes w (inr (inr (inl e))) = omega (arith, e)
whole_bytes w (inr (inr (inr e))) = omega (arith, e)

width_true : (w : ℕ) → IsBlockWidth w → is_width w ≡ true
width_true w (inl e) = ap is_width e
width_true w (inr (inl e)) = ap is_width e
width_true w (inr (inr (inl e))) = ap is_width e
width_true w (inr (inr (inr e))) = ap is_width e

le_true : (a b : ℕ) → a ≤ b → nat_le a b ≡ true
le_true a b le = grind (arith, common_steps)

-- the numbers of words
abbrev pub numbers : List Kept → List ℕ
numbers ws = map (λ (w : Kept). w.number) ws

module _ (blocks : List ImageBlock) (m : Memory) (keeps : KeepsImage blocks m) where
  -- a word that lies in a block of a known size
  pub record InBlock (at byte width : ℕ) : Type 0 where
    pub w : ℕ
    pub is_word : word_in blocks at byte width ≡ Some w
    pub loaded : ◌≡◌ {A = Result ℕ Trap} (load_of m at byte width) (Ok w)
    pub small : w < 2 ^ width

  pub in_block : (at byte width size : ℕ) → IsBlockWidth width → byte + width / 8 ≤ size → size_at blocks at ≡ Some size → InBlock at byte width
  in_block at byte width size wide le is = go (block_at blocks at) refl is
    where
      go : (o : Option ImageBlock) → block_at blocks at ≡ o → size_in o ≡ Some size → InBlock at byte width
      go None e h = absurd cc
      go (Some b) e h =
          let long : length b.bytes ≡ size = same_Some (length b.bytes) size h in
          let n = from_le_bytes (slice_range b.bytes byte (byte + width / 8)) in
          let there : word_in blocks at byte width ≡ Some n =
          ap (λ o. block_word o byte width) e ∙ sym (word_found b byte width n (width_true width wide) (le_true (byte + width / 8) (length b.bytes) (omega (arith, long, le))) refl) in
          let loaded = keeps.words at byte width n there in
          record {
            w = n;
            is_word = there;
            loaded = loaded;
            small = subst (λ k. n < 2 ^ k) (whole_bytes width wide) (read_small m.bytes (width / 8) (at + byte) n keeps.bytes (load_ok m at byte width n loaded).1);
          }

  module _ (leaf : Leaf) (ws : List Kept) (ats : List ℕ) (count : length ws ≡ length leaf.root)
      (fit : (j : ℕ) (f : FlatWord) → slice_get leaf.root j ≡ Some f → slice_index (numbers ws) j < 2 ^ f.width)
      (sized : (b : ℕ) (block : Block) → slice_get leaf.blocks b ≡ Some block → size_at blocks (slice_index ats b) ≡ Some (size_of block))
      (wide : (b : ℕ) (block : Block) (j : ℕ) (f : FlatWord) → slice_get leaf.blocks b ≡ Some block → slice_get block.words j ≡ Some f → IsBlockWidth f.width) where
    -- a word is found, is of its width, and is the word of the parts that stand in it
    pub record FoundWord (r : WordRef) (f : FlatWord) : Type 0 where
      pub w : ℕ
      pub found : IsFound r.block (words_in leaf r.block) f r.word (numbers ws) (slice_index ats) m w
      pub fits : w < 2 ^ f.width
      pub kept : (p : Part) → (kept_at blocks ws ats r.block (spot_of leaf r f p)).number ≡ w

    root_found : (j : ℕ) (f : FlatWord) → slice_get leaf.root j ≡ Some f → FoundWord (record { block = None; word = j }) f
    root_found j f e =
        let lt = slice_get_within leaf.root j f e in
        let g = got ws j (omega (arith, count, lt)) in
        let there : slice_get (numbers ws) j ≡ Some g.0.number = get-mapped (λ (w : Kept). w.number) ws j g.0 g.1 in
        let number : slice_index (numbers ws) j ≡ g.0.number = get_or_from_slice_get (numbers ws) j g.0.number 0 there in
        let word : word_at ws j ≡ g.0 = get_or_from_slice_get ws j g.0 nothing g.1 in
        record {
          w = g.0.number;
          found = there;
          fits = subst (λ n. n < 2 ^ f.width) number (fit j f e);
          kept = λ p. ap (λ (w : Kept). w.number) word;
        }

    block_found : (b j : ℕ) (f : FlatWord) (o : Option Block) → slice_get leaf.blocks b ≡ o → slice_get (words_of_block o) j ≡ Some f → FoundWord (record { block = Some b; word = j }) f
    block_found b j f None e h = absurd cc
    block_found b j f (Some block) e h =
        let at = slice_index ats b in
        let byte = begins_at block.words j in
        let place : begins_at (words_in leaf (Some b)) j ≡ byte = ap (λ o. begins_at (words_of_block o) j) e in
        let x = in_block at byte f.width (size_of block) (wide b block j f e h) (begins_within block.words j f h) (sized b block e) in
        record {
          w = x.w;
          found = ap (λ k. load_of m at k f.width) place ∙ x.loaded;
          fits = x.small;
          kept = λ p. ap (λ k. unwrap_or (word_in blocks at k f.width) 0) place ∙ ap (λ o. unwrap_or o 0) x.is_word;
        }

    pub found_word : (r : WordRef) (f : FlatWord) → flat_at leaf r ≡ Some f → FoundWord r f
    found_word r f e = go r.block r.word e
      where
        go : (o : Option ℕ) (j : ℕ) → slice_get (words_in leaf o) j ≡ Some f → FoundWord (record { block = o; word = j }) f
        go None j h = root_found j f h
        go (Some b) j h = block_found b j f (slice_get leaf.blocks b) refl h
