-- Placing and filling blocks in turn.
use Rattle.std.proofs.Common.{◌≡◌, ℕ, zero, suc, ◌+◌, ◌/◌, ◌<◌, ◌≤◌, length, map, take, get_or, List, [], ◌∷◌, ◌++◌, true, Option, Some, Result, Ok, Err, refl, sym, subst, ap, ◌∙◌, arith}
use Rattle.std.specs.Prelude.{slice_get, slice_index, if◌then◌else◌}
use Rattle.std.proofs.lemmas.List.{map-append, length-append}
use Rattle.std.proofs.lemmas.Nat.{pow_pos}
use Rattle.rb_bytes.specs.Memory.{Memory, IsGood, IsAlign, least_multiple, store_of, write_le, size_at, lies_within}
use Rattle.rb_bytes.specs.declared.fault.Trap.{Trap}
use Rattle.rb_bytes.specs.declared.fault.Trap.TheVariants.{Astray}
use Rattle.rb_bytes.proofs.BlockLemmas.{size_at-push, aligned_from}
use Rattle.rb_bytes.specs.declared.fault.Full.{Full}
use Rattle.rb_layout.specs.declared.layout.Block.{Block}
use Rattle.rb_layout.specs.declared.layout.FlatWord.{FlatWord}
use Rattle.rb_layout.specs.Words.{size_of, bytes_taken, begins_at}
use Rattle.rb_rel.specs.Placing.{Request, request_of}
use Rattle.rb_rel.proofs.Storing.{IsBlock, begins_within, within_yes}
use Rattle.rb_rel.specs.Storing.{with_words, with_block, with_blocks, address_at}
use Rattle.rb_coding.specs.inner.Filling.{Progress, Stopped, ArePlaceable}
use Rattle.rb_coding.specs.Packing.{word_made}
use Rattle.rb_coding.proofs.GrowLemmas.{IsPlace, IsNoPlace, progress_none, progress_one, progress_trans, stop_one, stop_after, stop_wider, fill_more, filled_same, made_same, written_more, requests_more, address_is_index, index_before, take_whole}

-- Storing a word -----------------------------------------------------------------------------------
pub got : {A : Type 0} (xs : List A) (i : ℕ) (x : A) → i < length xs → x ≡ get_or xs i x → slice_get xs i ≡ Some x
got [] i x lt is = absurd (omega (arith, lt))
got (y ∷ xs) zero x lt is = ap Some (sym is)
got (y ∷ xs) (suc i) x lt is = got xs i x (omega (arith, lt)) is

module _ (m : Memory) (base : ℕ) (fs : List FlatWord) (placed : size_at m.blocks base ≡ Some (bytes_taken fs)) (number : FlatWord → ℕ) where
  abbrev pub stored : ℕ → Memory
  stored i = record m { bytes = with_words number (take i fs) base m.bytes }

  inside : (i : ℕ) (f : FlatWord) → slice_get fs i ≡ Some f → lies_within (size_at m.blocks base) (begins_at fs i + f.width / 8) ≡ true
  inside i f is = ap (λ o. lies_within o (begins_at fs i + f.width / 8)) placed ∙ within_yes (bytes_taken fs) (begins_at fs i + f.width / 8) (begins_within fs i f is)

  pub store_is : (i : ℕ) (f : FlatWord) → slice_get fs i ≡ Some f → store_of (stored i) base (begins_at fs i) f.width (number f) ≡ (Ok tt, stored (i + 1))
  unfolding store_of
  store_is i f is =
      ap (λ b. if b then (Ok tt, record (stored i) { bytes = write_le (stored i).bytes (f.width / 8) (base + begins_at fs i) (number f) }) else (Err (Astray base (begins_at fs i)), stored i)) (inside i f is)
      ∙ ap (λ (bytes : List (Option ℕ)). after (record m { bytes = bytes })) (sym (written_more number fs i f base m.bytes is))
    where
      after : Memory → Result (Unit {0}) Trap × Memory
      after x = (Ok tt, x)

  pub store_goes : (i : ℕ) (f : FlatWord) → slice_get fs i ≡ Some f → (m' : Memory) (offset n : ℕ) → m' ≡ stored i → offset ≡ begins_at fs i → n ≡ number f
      → store_of m' base offset f.width n ≡ (Ok tt, stored (i + 1))
  store_goes i f is m' offset n em eo en =
      ap (λ (x : Memory). store_of x base offset f.width n) em ∙ ap (λ o. store_of (stored i) base o f.width n) eo ∙ ap (store_of (stored i) base (begins_at fs i) f.width) en ∙ store_is i f is

  pub store_fits : (i : ℕ) (f : FlatWord) → slice_get fs i ≡ Some f → begins_at fs i + f.width / 8 ≤ bytes_taken fs
  store_fits i f is = begins_within fs i f is

-- Placing blocks -----------------------------------------------------------------------------------
pub record Placing (subs : List ℕ → List ℕ) (blocks : List Block) (old new : Memory) (addresses : List ℕ) (i : ℕ) : Type 0 where
  pub bs : List (ℕ × ℕ)
  pub is_addresses : addresses ≡ map (λ (b : ℕ × ℕ). b.0) bs
  pub count : length addresses ≡ i
  pub progress : Progress old new (map request_of (take i blocks)) bs
  pub filled : (ats : ℕ → ℕ) → ((b : ℕ) → b < i → ats b ≡ slice_index addresses b) → new ≡ with_blocks (word_made subs ats) old (take i blocks)

pub placing_none : (subs : List ℕ → List ℕ) (blocks : List Block) (m : Memory) → IsGood m → Placing subs blocks m m [] 0
placing_none subs blocks m good = record { bs = []; is_addresses = refl; count = refl; progress = progress_none m good; filled = λ ats h. refl }

align_some : (align : ℕ) → IsAlign align → 0 < align
align_some align a = let q = pow_pos a.0 in omega (arith, q, a.2)

pub block_is : (blocks : List Block) → ArePlaceable blocks → (i : ℕ) (block : Block) → slice_get blocks i ≡ Some block → IsBlock block
block_is blocks can i block is = record { some = (can.sizes i block is).0; widths = can.widths i block is; align = align_some block.align (can.aligns i block is) }

module _ (subs : List ℕ → List ℕ) (blocks : List Block) (can : ArePlaceable blocks) (old m : Memory) (addresses : List ℕ) (i : ℕ) (block : Block) (is : slice_get blocks i ≡ Some block) (p : Placing subs blocks old m addresses i) where
  -- the number that a word of the block is made of, by the addresses so far
  pub placing_next : (m1 m2 : Memory) (base : ℕ) → IsPlace m (size_of block) block.align m1 base
      → m2 ≡ record m1 { bytes = with_words (word_made subs (slice_index addresses)) block.words base m1.bytes }
      → Placing subs blocks old m2 (addresses ++ base ∷ []) (i + 1)
  placing_next m1 m2 base place stored =
      let a = least_multiple m.next block.align in
      let number = word_made subs (slice_index addresses) in
      let e1 : record m1 { bytes = with_words number block.words base m1.bytes } ≡ with_block number m block =
      ap (λ (x : Memory). record x { bytes = with_words number block.words base x.bytes }) place.is_memory
      ∙ ap (λ b. record m { next = a + size_of block; blocks = m.blocks ++ (a, size_of block) ∷ []; bytes = with_words number block.words b m.bytes }) place.is_base in
      let e : m2 ≡ with_block number m block = stored ∙ e1 in
      let one = progress_one m p.progress.grown.good block (block_is blocks can i block is) number place.fits place.room in
      let both = progress_trans old m (with_block number m block) (map request_of (take i blocks)) (request_of block ∷ []) p.bs ((a, size_of block) ∷ []) p.progress one in
      record {
        bs = p.bs ++ (a, size_of block) ∷ [];
        is_addresses = ap (λ x. addresses ++ x ∷ []) place.is_base ∙ ap (λ xs. xs ++ a ∷ []) p.is_addresses ∙ sym (map-append (λ (b : ℕ × ℕ). b.0) p.bs ((a, size_of block) ∷ []));
        count = (let l = length-append addresses (base ∷ []) in let c = p.count in omega (arith, l, c));
        progress = subst (λ (x : Memory). Progress old x (map request_of (take (i + 1) blocks)) (p.bs ++ (a, size_of block) ∷ [])) (sym e)
            (subst (λ rs. Progress old (with_block number m block) rs (p.bs ++ (a, size_of block) ∷ [])) (sym (requests_more blocks i block is)) both);
        filled = λ ats h.
            (let c = p.count in
            let earlier : (b : ℕ) → b < i → ats b ≡ slice_index addresses b = λ b lt. h b (omega (arith, lt)) ∙ index_before addresses base b (omega (arith, lt, c)) in
            let words = filled_same number (word_made subs ats) m block
            (λ j f at. made_same subs (slice_index addresses) ats f.parts (λ k q kat align b pointer. sym (earlier b (can.below i block is j f at k q kat align b pointer)))) in
            e ∙ words ∙ ap (λ (x : Memory). with_block (word_made subs ats) x block) (p.filled ats earlier) ∙ sym (fill_more (word_made subs ats) old blocks i block is));
      }

  -- where it does not fit
  pub placing_stops : (m1 : Memory) (full : Full) → IsNoPlace m (size_of block) block.align m1 full → (rest : List Request)
      → map request_of blocks ≡ (map request_of (take i blocks) ++ request_of block ∷ []) ++ rest → Stopped old m1 (map request_of blocks) full
  placing_stops m1 full none rest all =
      let one = stop_one m p.progress.grown.good (request_of block) none.over in
      let here = stop_after old m m (map request_of (take i blocks)) (request_of block ∷ []) p.bs (record { next = m.next; size = size_of block; align = block.align; limit = m.limit }) p.progress one in
      let wide = stop_wider old m (map request_of (take i blocks) ++ request_of block ∷ []) rest (record { next = m.next; size = size_of block; align = block.align; limit = m.limit }) here in
      subst (λ rs. Stopped old m1 rs full) (sym all)
      (subst (λ (x : Memory). Stopped old x ((map request_of (take i blocks) ++ request_of block ∷ []) ++ rest) full) (sym none.is_memory)
      (subst (λ (x : Full). Stopped old m ((map request_of (take i blocks) ++ request_of block ∷ []) ++ rest) x) (sym none.is_full) wide))

pub rest_of : (blocks : List Block) (i : ℕ) (block : Block) → slice_get blocks i ≡ Some block → (rest : List Request) × (map request_of blocks ≡ (map request_of (take i blocks) ++ request_of block ∷ []) ++ rest)
rest_of [] i block is = absurd cc
rest_of (x ∷ blocks) zero block is = let s = same_some x block is in (map request_of blocks, ap (λ (y : Block). request_of y ∷ map request_of blocks) s)
  where
    same_some : (x y : Block) → Some x ≡ Some y → x ≡ y
    same_some x y e = cc
rest_of (x ∷ blocks) (suc i) block is = let r = rest_of blocks i block is in (r.0, ap (λ rs. request_of x ∷ rs) r.1)

-- all are placed
pub placing_all : (subs : List ℕ → List ℕ) (blocks : List Block) (old m : Memory) (addresses : List ℕ) (i : ℕ) → length blocks ≤ i → Placing subs blocks old m addresses i
    → (bs : List (ℕ × ℕ)) × (addresses ≡ map (λ (b : ℕ × ℕ). b.0) bs) × Progress old m (map request_of blocks) bs × (m ≡ with_blocks (word_made subs (address_at bs)) old blocks)
placing_all subs blocks old m addresses i le p =
    let w = take_whole blocks i le in (
      p.bs,
      p.is_addresses,
      subst (λ (xs : List Block). Progress old m (map request_of xs) p.bs) w p.progress,
      p.filled (address_at p.bs) (λ b lt. address_is_index p.bs b ∙ ap (λ xs. slice_index xs b) (sym p.is_addresses)) ∙ ap (with_blocks (word_made subs (address_at p.bs)) old) w,
    )

pub placed_found : (m m' : Memory) (block : Block) (base : ℕ) → IsGood m → IsBlock block → IsPlace m (size_of block) block.align m' base → size_at m'.blocks base ≡ Some (size_of block)
placed_found m m' block base good is place =
    ap (λ (x : Memory). size_at x.blocks base) place.is_memory
    ∙ ap (λ a. size_at (m.blocks ++ (least_multiple m.next block.align, size_of block) ∷ []) a) place.is_base
    ∙ size_at-push m.blocks 64 m.next (least_multiple m.next block.align) (size_of block) good.blocks (aligned_from m.next block.align is.align)

pub placed_room : (m m' : Memory) (block : Block) (base : ℕ) → IsGood m → IsPlace m (size_of block) block.align m' base → base + size_of block ≤ 16777216
placed_room m m' block base good place = let r = place.room in let e = place.is_base in let l = good.limit in omega (arith, r, e, l)

pub root_same : (subs : List ℕ → List ℕ) (addresses : List ℕ) (bs : List (ℕ × ℕ)) (fs : List FlatWord) → addresses ≡ map (λ (b : ℕ × ℕ). b.0) bs
    → map (word_made subs (slice_index addresses)) fs ≡ map (word_made subs (address_at bs)) fs
root_same subs addresses bs [] e = refl
root_same subs addresses bs (f ∷ fs) e =
    let here = made_same subs (slice_index addresses) (address_at bs) f.parts (λ k p is align c pointer. ap (λ xs. slice_index xs c) e ∙ sym (address_is_index bs c)) in
    ap (λ w. w ∷ map (word_made subs (slice_index addresses)) fs) here ∙ ap (λ ws. word_made subs (address_at bs) f ∷ ws) (root_same subs addresses bs fs e)
