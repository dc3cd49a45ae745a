-- Every text of an image is read to its end.
use Rattle.std.proofs.Common.{◌≡◌, ℕ, ◌+◌, ◌*◌, ◌/◌, ◌%◌, ◌^◌, ◌<◌, ◌≤◌, List, [], ◌∷◌, ◌++◌, length, nat_lt, nat_le, true, false, codes, Option, Some, None, refl, sym, ◌∙◌, ap, arith, append_assoc, append-nil, length-append}
use Rattle.std.specs.Fmt.{decimal}
use Rattle.std.proofs.lemmas.Fmt.{decimal_by_steps}
use Rattle.std.proofs.lemmas.Grind.{common_steps}
use Rattle.rb_image_text.specs.Images.{AreBelow, IsImageBlock, AreImageBlocks, IsImage}
use Rattle.rb_image_text.specs.Text.{hex_digit, hexadecimal, words_text, bytes_text, root_text, block_text, blocks_text, image_text}
use Rattle.rb_image_text.specs.inner.Reading.{empty_at, with_byte, start, feed, then_feed, run}
use Rattle.rb_image_text.specs.declared.image.ImageBlock.{ImageBlock}
use Rattle.rb_image_text.specs.declared.image.Image.{Image}
use Rattle.rb_image_text.specs.declared.spot.Spot.{Spot}
use Rattle.rb_image_text.specs.declared.spot.Spot.TheVariants.{Root, Prefix, Word, Line, Address, Sizing, Size, Bytes, Half}
use Rattle.rb_image_text.specs.declared.step.Reader.{Reader}
use Rattle.rb_image_text.proofs.DigitLemmas.{hex_by_digits, hex_of-digit, hex_no_gap, digit_of-digit, digit_no_gap}

abbrev pub at : List ℕ → List ImageBlock → Spot → Reader
at root blocks spot = record { root = root; blocks = blocks; spot = spot }

-- what has been refused stays so
pub run_none : (bs : List ℕ) → run None bs ≡ None
run_none [] = refl
run_none (b ∷ bs) = run_none bs

pub run_append : (o : Option Reader) (xs ys : List ℕ) → run o (xs ++ ys) ≡ run (run o xs) ys
run_append o [] ys = refl
run_append o (x ∷ xs) ys = run_append (then_feed o x) xs ys

-- bytes, and what is read behind them
pub follow : (o p : Option Reader) (xs ys : List ℕ) → run o xs ≡ p → run o (xs ++ ys) ≡ run p ys
follow o p xs ys e = run_append o xs ys ∙ ap (λ q. run q ys) e

-- Root words ---------------------------------------------------------------------------------------

module _ (root : List ℕ) where
  first_hex_fed : (d : ℕ) → d < 16 → feed (at root [] (Prefix 2)) (hex_digit d) ≡ Some (at root [] (Word d))
  first_hex_fed d h = rw (hex_of-digit d h) refl

  more_hex_fed : (n d : ℕ) → 0 < n → d < 16 → n < 2 ^ 60 → feed (at root [] (Word n)) (hex_digit d) ≡ Some (at root [] (Word (n * 16 + d)))
  more_hex_fed n d some h small =
      let none = hex_no_gap d h in
      let first : nat_lt 0 n ≡ true = grind (arith, common_steps) in
      let last : nat_lt n (2 ^ 60) ≡ true = grind (arith, common_steps) in
      rw (none.0, none.1, hex_of-digit d h, first, last) refl

  abbrev ReadsWord : ℕ → List ℕ → Type 0
  ReadsWord n t = n < 2 ^ 64 → run (Some (at root [] (Prefix 2))) t ≡ Some (at root [] (Word n))

  more_word : (n d : ℕ) (t : List ℕ) → 0 < n → d < 16 → ReadsWord n t → ReadsWord (n * 16 + d) (t ++ hex_digit d ∷ [])
  more_word n d t some h read small =
      follow (Some (at root [] (Prefix 2))) (Some (at root [] (Word n))) t (hex_digit d ∷ []) (read (omega (arith, small)))
      ∙ more_hex_fed n d some h (omega (arith, small))

  word_run : (n : ℕ) → n < 2 ^ 64 → run (Some (at root [] (Prefix 2))) (hexadecimal n) ≡ Some (at root [] (Word n))
  word_run n small = hex_by_digits ReadsWord (λ d h _. first_hex_fed d h) more_word n n (omega arith) small small

-- these are the root words where a blank or the line's end follows
abbrev Ends : Reader → List ℕ → Type 0
Ends r root = (feed r 32 ≡ Some (at root [] (Prefix 0))) × (feed r 10 ≡ Some (at root [] (Line 0)))

words_run : (r : Reader) (root ws : List ℕ) → Ends r root → AreBelow (2 ^ 64) ws → run (Some r) (words_text ws ++ codes "\n") ≡ Some (at (root ++ ws) [] (Line 0))
words_run r root [] e h = e.1 ∙ ap (λ ws. Some (at ws [] (Line 0))) (sym (append-nil root))
words_run r root (w ∷ ws) e h =
    ap (λ o. run o (48 ∷ 120 ∷ ((hexadecimal w ++ words_text ws) ++ codes "\n"))) e.0
    ∙ ap (λ t. run (Some (at root [] (Prefix 2))) t) (append_assoc (hexadecimal w) (words_text ws) (codes "\n"))
    ∙ follow (Some (at root [] (Prefix 2))) (Some (at root [] (Word w))) (hexadecimal w) (words_text ws ++ codes "\n") (word_run root w h.0)
    ∙ words_run (at root [] (Word w)) (root ++ w ∷ []) ws (refl, refl) h.1
    ∙ ap (λ vs. Some (at vs [] (Line 0))) (append_assoc root (w ∷ []) ws)

root_run : (ws : List ℕ) → AreBelow (2 ^ 64) ws → run (Some start) (root_text ws) ≡ Some (at ws [] (Line 0))
root_run ws h = words_run (at [] [] (Root 4)) [] ws (refl, refl) h

-- Blocks -------------------------------------------------------------------------------------------

module _ (root : List ℕ) (blocks : List ImageBlock) where
  first_address_fed : (d : ℕ) → d < 10 → feed (at root blocks (Line 6)) (48 + d) ≡ Some (at root blocks (Address d))
  first_address_fed d h = rw (digit_of-digit d h) refl

  more_address_fed : (n d : ℕ) → 0 < n → d < 10 → n * 10 + d < 2 ^ 64 → feed (at root blocks (Address n)) (48 + d) ≡ Some (at root blocks (Address (n * 10 + d)))
  more_address_fed n d some h small =
      let first : nat_lt 0 n ≡ true = grind (arith, common_steps) in
      let last : nat_lt (n * 10 + d) (2 ^ 64) ≡ true = grind (arith, common_steps) in
      rw (digit_no_gap d h, digit_of-digit d h, first, last) refl

  abbrev ReadsAddress : ℕ → List ℕ → Type 0
  ReadsAddress n t = n < 2 ^ 64 → run (Some (at root blocks (Line 6))) t ≡ Some (at root blocks (Address n))

  more_address_run : (n : ℕ) (t : List ℕ) → 10 ≤ n → ReadsAddress (n / 10) t → ReadsAddress n (t ++ (48 + n % 10) ∷ [])
  more_address_run n t big read small =
      let low : n % 10 < 10 = omega arith in
      let whole : n / 10 * 10 + n % 10 ≡ n = omega arith in
      let high : 0 < n / 10 = omega (arith, big) in
      follow (Some (at root blocks (Line 6))) (Some (at root blocks (Address (n / 10)))) t ((48 + n % 10) ∷ []) (read (omega (arith, small)))
      ∙ more_address_fed (n / 10) (n % 10) high low (omega (arith, whole, small))
      ∙ ap (λ m. Some (at root blocks (Address m))) whole

  address_run : (n : ℕ) → n < 2 ^ 64 → run (Some (at root blocks (Line 6))) (decimal n) ≡ Some (at root blocks (Address n))
  address_run n small = decimal_by_steps ReadsAddress (λ d h _. first_address_fed d h) more_address_run n small small

  first_size_fed : (n d : ℕ) → d < 10 → 0 < d → feed (at root blocks (Sizing n)) (48 + d) ≡ Some (at root blocks (Size n d))
  first_size_fed n d h some =
      let first : nat_lt 0 d ≡ true = grind (arith, common_steps) in
      rw (digit_of-digit d h, first) refl

  more_size_fed : (n s d : ℕ) → d < 10 → s * 10 + d ≤ 512 → feed (at root blocks (Size n s)) (48 + d) ≡ Some (at root blocks (Size n (s * 10 + d)))
  more_size_fed n s d h few =
      let last : nat_le (s * 10 + d) 512 ≡ true = grind (arith, common_steps) in
      rw (digit_no_gap d h, digit_of-digit d h, last) refl

  abbrev ReadsSize : ℕ → ℕ → List ℕ → Type 0
  ReadsSize n s t = 1 ≤ s → s ≤ 512 → run (Some (at root blocks (Sizing n))) t ≡ Some (at root blocks (Size n s))

  more_size_run : (n s : ℕ) (t : List ℕ) → 10 ≤ s → ReadsSize n (s / 10) t → ReadsSize n s (t ++ (48 + s % 10) ∷ [])
  more_size_run n s t big read some few =
      let low : s % 10 < 10 = omega arith in
      let whole : s / 10 * 10 + s % 10 ≡ s = omega arith in
      follow (Some (at root blocks (Sizing n))) (Some (at root blocks (Size n (s / 10)))) t ((48 + s % 10) ∷ []) (read (omega (arith, big)) (omega (arith, few)))
      ∙ more_size_fed n (s / 10) (s % 10) low (omega (arith, whole, few))
      ∙ ap (λ m. Some (at root blocks (Size n m))) whole

  size_run : (n s : ℕ) → 1 ≤ s → s ≤ 512 → run (Some (at root blocks (Sizing n))) (decimal s) ≡ Some (at root blocks (Size n s))
  size_run n s some few = decimal_by_steps (ReadsSize n) (λ d h some _. first_size_fed n d h some) (more_size_run n) s (omega (arith, few)) some few

  byte_fed : (block : ImageBlock) (s b : ℕ) (rest : List ℕ) → length block.bytes < s → b < 256
      → run (Some (at root blocks (Bytes block s))) (hex_digit (b / 16) ∷ hex_digit (b % 16) ∷ rest) ≡ run (Some (at root blocks (Bytes (with_byte block b) s))) rest
  byte_fed block s b rest room small =
      let open_end : nat_lt (length block.bytes) s ≡ true = grind (arith, common_steps) in
      let upper : feed (at root blocks (Bytes block s)) (hex_digit (b / 16)) ≡ Some (at root blocks (Half block s (b / 16))) = rw (open_end, hex_of-digit (b / 16) (omega (arith, small))) refl in
      let lower : feed (at root blocks (Half block s (b / 16))) (hex_digit (b % 16)) ≡ Some (at root blocks (Bytes (with_byte block (b / 16 * 16 + b % 16)) s)) = rw (hex_of-digit (b % 16) (omega arith)) refl in
      ap (λ o. run o (hex_digit (b % 16) ∷ rest)) upper ∙ ap (λ o. run o rest) lower
      ∙ ap (λ x. run (Some (at root blocks (Bytes (with_byte block x) s))) rest) (let e : b / 16 * 16 + b % 16 ≡ b = omega arith in e)

  abbrev pub with_bytes : ImageBlock → List ℕ → ImageBlock
  with_bytes block bs = record block { bytes = block.bytes ++ bs }

  pub bytes_run : (block : ImageBlock) (s : ℕ) (bs : List ℕ) → length block.bytes + length bs ≤ s → AreBelow 256 bs
      → run (Some (at root blocks (Bytes block s))) (bytes_text bs) ≡ Some (at root blocks (Bytes (with_bytes block bs) s))
  bytes_run block s [] room h = ap (λ bs. Some (at root blocks (Bytes (record block { bytes = bs }) s))) (sym (append-nil block.bytes))
  bytes_run block s (b ∷ bs) room h =
      byte_fed block s b (bytes_text bs) (omega (arith, room)) h.0
      ∙ bytes_run (with_byte block b) s bs (omega (arith, room, length-append block.bytes (b ∷ []))) h.1
      ∙ ap (λ cs. Some (at root blocks (Bytes (record block { bytes = cs }) s))) (append_assoc block.bytes (b ∷ []) bs)

  pub block_closed : (block : ImageBlock) → feed (at root blocks (Bytes block (length block.bytes))) 10 ≡ Some (at root (blocks ++ block ∷ []) (Line 0))
  block_closed block =
      let full : nat_lt (length block.bytes) (length block.bytes) ≡ false = grind (arith, common_steps) in
      rw full refl

  block_run : (b : ImageBlock) → IsImageBlock b → run (Some (at root blocks (Line 0))) (block_text b) ≡ Some (at root (blocks ++ b ∷ []) (Line 0))
  block_run b h =
      let s : ℕ = length b.bytes in
      let end : List ℕ = bytes_text b.bytes ++ codes "\n" in
      follow (Some (at root blocks (Line 6))) (Some (at root blocks (Address b.at))) (decimal b.at) (codes " " ++ (decimal s ++ (codes " " ++ end))) (address_run b.at h.at)
      ∙ follow (Some (at root blocks (Sizing b.at))) (Some (at root blocks (Size b.at s))) (decimal s) (codes " " ++ end) (size_run b.at s h.some h.few)
      ∙ follow (Some (at root blocks (Bytes (empty_at b.at) s))) (Some (at root blocks (Bytes b s))) (bytes_text b.bytes) (codes "\n") (bytes_run (empty_at b.at) s b.bytes (omega arith) h.bytes)
      ∙ block_closed b

blocks_run : (root : List ℕ) (blocks bs : List ImageBlock) → AreImageBlocks bs → run (Some (at root blocks (Line 0))) (blocks_text bs) ≡ Some (at root (blocks ++ bs) (Line 0))
blocks_run root blocks [] h = ap (λ (cs : List ImageBlock). Some (at root cs (Line 0))) (sym (append-nil blocks))
blocks_run root blocks (b ∷ bs) h =
    follow (Some (at root blocks (Line 0))) (Some (at root (blocks ++ b ∷ []) (Line 0))) (block_text b) (blocks_text bs) (block_run root blocks b h.0)
    ∙ blocks_run root (blocks ++ b ∷ []) bs h.1
    ∙ ap (λ (cs : List ImageBlock). Some (at root cs (Line 0))) (append_assoc blocks (b ∷ []) bs)

abbrev pub done : Image → Reader
done i = at i.root i.blocks (Line 0)

pub reads_image : (i : Image) → IsImage i → run (Some start) (image_text i) ≡ Some (done i)
reads_image i h =
    follow (Some start) (Some (at i.root [] (Line 0))) (root_text i.root) (blocks_text i.blocks) (root_run i.root h.root)
    ∙ blocks_run i.root [] i.blocks h.blocks
