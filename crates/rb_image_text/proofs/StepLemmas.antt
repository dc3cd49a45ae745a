-- What is read so far is a text, and one byte more is one byte more of it.
use Rattle.std.proofs.Common.{◌≡◌, ℕ, ◌+◌, ◌*◌, ◌/◌, ◌%◌, ◌^◌, ◌<◌, ◌≤◌, List, [], ◌∷◌, ◌++◌, length, take, get_or, nat_lt, nat_le, Bool, true, false, ◌&&◌, ◌==◌, if◌then◌else◌, codes, Option, Some, None, refl, sym, ◌∙◌, ap, subst, arith, append_assoc, append-nil, length-append, eqb-true}
use Rattle.std.specs.Fmt.{decimal}
use Rattle.std.proofs.lemmas.Fmt.{decimal_digit}
use Rattle.std.proofs.lemmas.List.{take_more}
use Rattle.std.proofs.lemmas.Grind.{common_steps}
use Rattle.rb_image_text.specs.Images.{AreBelow, IsImageBlock, AreImageBlocks}
use Rattle.rb_image_text.specs.Text.{hex_digit, hexadecimal, words_text, bytes_text, root_text, block_text, blocks_text}
use Rattle.rb_image_text.specs.inner.Reading.{hex_of, digit_of, key_move, root_end, root_step, first_hex, prefix_step, more_hex, word_step, first_address, line_step, more_address, address_step, first_size, sizing_step, more_size, empty_at, size_step, upper_half, bytes_step, with_byte, lower_half, half_step, reader_behind, step, feed, run}
use Rattle.rb_image_text.specs.declared.image.ImageBlock.{ImageBlock}
use Rattle.rb_image_text.specs.declared.spot.Spot.{Spot}
use Rattle.rb_image_text.specs.declared.spot.Spot.TheVariants.{Root, Prefix, Word, Line, Address, Sizing, Size, Bytes, Half}
use Rattle.rb_image_text.specs.declared.spot.Move.{Move}
use Rattle.rb_image_text.specs.declared.spot.Move.TheVariants as move
use Rattle.rb_image_text.specs.declared.step.Reader.{Reader}
use Rattle.rb_image_text.proofs.DigitLemmas.{hex_one, hex_push, IsHex, hex_told, decimal_push, IsDigit, digit_told}
use Rattle.rb_image_text.proofs.RunLemmas.{at, run_none}

-- What is read ---------------------------------------------------------------------------------------

abbrev rooted : List ℕ → List ℕ
rooted root = codes "root" ++ words_text root

abbrev pub whole : List ℕ → List ImageBlock → List ℕ
whole root blocks = root_text root ++ blocks_text blocks

abbrev opened : List ℕ → ℕ → List ℕ
opened w n = (w ++ codes "block ") ++ decimal n

abbrev sized : List ℕ → ℕ → ℕ → List ℕ
sized w n s = (opened w n ++ codes " ") ++ decimal s

abbrev filled : List ℕ → ImageBlock → ℕ → List ℕ
filled w b s = (sized w b.at s ++ codes " ") ++ bytes_text b.bytes

-- behind the root words and behind whole blocks
abbrev spot_text : List ℕ → List ℕ → Spot → List ℕ
spot_text r w (Root k) = take k (codes "root")
spot_text r w (Prefix k) = (r ++ codes " ") ++ take k (codes "0x")
spot_text r w (Word x) = (r ++ codes " 0x") ++ hexadecimal x
spot_text r w (Line k) = w ++ take k (codes "block ")
spot_text r w (Address n) = opened w n
spot_text r w (Sizing n) = opened w n ++ codes " "
spot_text r w (Size n s) = sized w n s
spot_text r w (Bytes b s) = filled w b s
spot_text r w (Half b s u) = filled w b s ++ hex_digit u ∷ []

abbrev pub text_of : Reader → List ℕ
text_of p = spot_text (rooted p.root) (whole p.root p.blocks) p.spot

-- a block that is read in part
pub record IsPart (b : ImageBlock) (s : ℕ) : Type 0 where
  pub at : b.at < 2 ^ 64
  pub some : 1 ≤ s
  pub few : s ≤ 512
  pub room : length b.bytes ≤ s
  pub bytes : AreBelow 256 b.bytes

abbrev pub IsGoodAt : List ℕ → List ImageBlock → Spot → Type 0
IsGoodAt root blocks (Root k) = (k ≤ 4) × (root ≡ []) × (blocks ≡ [])
IsGoodAt root blocks (Prefix k) = (k ≤ 2) × (blocks ≡ [])
IsGoodAt root blocks (Word x) = (x < 2 ^ 64) × (blocks ≡ [])
IsGoodAt root blocks (Line k) = k ≤ 6
IsGoodAt root blocks (Address n) = n < 2 ^ 64
IsGoodAt root blocks (Sizing n) = n < 2 ^ 64
IsGoodAt root blocks (Size n s) = (n < 2 ^ 64) × (1 ≤ s) × (s ≤ 512)
IsGoodAt root blocks (Bytes b s) = IsPart b s
IsGoodAt root blocks (Half b s u) = IsPart b s × (length b.bytes < s) × (u < 16)

pub record IsGood (p : Reader) : Type 0 where
  pub root : AreBelow (2 ^ 64) p.root
  pub blocks : AreImageBlocks p.blocks
  pub spot : IsGoodAt p.root p.blocks p.spot

-- what is read of these bytes
pub record Fed (t : List ℕ) (q : Reader) : Type 0 where
  pub text : text_of q ≡ t
  pub good : IsGood q

abbrev Leaves : List ℕ → Option Reader → Type 0
Leaves t None = Unit {0}
Leaves t (Some q) = Fed t q

if_leaves : (t : List ℕ) (p : Reader) (c : Bool) (x y : Move) → (c ≡ true → Leaves t (reader_behind p x)) → (c ≡ false → Leaves t (reader_behind p y)) → Leaves t (reader_behind p (if c then x else y))
if_leaves t p c x y held lost = elim c as (λ (b : Bool). c ≡ b → Leaves t (reader_behind p (if b then x else y))) [ true ↦ held | false ↦ lost ] refl

-- Texts that grow ------------------------------------------------------------------------------------

below_push : (high : ℕ) (xs : List ℕ) (x : ℕ) → AreBelow high xs → x < high → AreBelow high (xs ++ x ∷ [])
below_push high [] x h lt = (lt, tt)
below_push high (y ∷ xs) x h lt = (h.0, below_push high xs x h.1 lt)

blocks_push : (bs : List ImageBlock) (b : ImageBlock) → AreImageBlocks bs → IsImageBlock b → AreImageBlocks (bs ++ b ∷ [])
blocks_push [] b h is = (is, tt)
blocks_push (c ∷ bs) b h is = (h.0, blocks_push bs b h.1 is)

words_text-push : (ws : List ℕ) (w : ℕ) → words_text (ws ++ w ∷ []) ≡ words_text ws ++ (codes " 0x" ++ hexadecimal w)
words_text-push [] w = ap (λ t. codes " 0x" ++ t) (append-nil (hexadecimal w))
words_text-push (v ∷ ws) w = ap (λ t. codes " 0x" ++ (hexadecimal v ++ t)) (words_text-push ws w) ∙ ap (λ t. codes " 0x" ++ t) (sym (append_assoc (hexadecimal v) (words_text ws) (codes " 0x" ++ hexadecimal w)))

bytes_text-push : (bs : List ℕ) (u d : ℕ) → d < 16 → bytes_text (bs ++ (u * 16 + d) ∷ []) ≡ (bytes_text bs ++ hex_digit u ∷ []) ++ hex_digit d ∷ []
bytes_text-push [] u d h =
    let q : (u * 16 + d) / 16 ≡ u = omega (arith, h) in
    let r : (u * 16 + d) % 16 ≡ d = omega (arith, h) in
    ap (λ x. hex_digit x ∷ hex_digit ((u * 16 + d) % 16) ∷ []) q ∙ ap (λ x. hex_digit u ∷ hex_digit x ∷ []) r
bytes_text-push (b ∷ bs) u d h = ap (λ t. hex_digit (b / 16) ∷ hex_digit (b % 16) ∷ t) (bytes_text-push bs u d h)

blocks_text-push : (bs : List ImageBlock) (b : ImageBlock) → blocks_text (bs ++ b ∷ []) ≡ blocks_text bs ++ block_text b
blocks_text-push [] b = append-nil (block_text b)
blocks_text-push (c ∷ bs) b = ap (λ t. block_text c ++ t) (blocks_text-push bs b) ∙ sym (append_assoc (block_text c) (blocks_text bs) (block_text b))

-- the next byte of a word that is always the same
key_more : (key : List ℕ) (k b : ℕ) → k < length key → (b == get_or key k 0) ≡ true → take (k + 1) key ≡ take k key ++ b ∷ []
key_more key k b lt e = take_more key k 0 lt ∙ ap (λ x. take k key ++ x ∷ []) (sym (eqb-true b (get_or key k 0) e))

-- a last digit
last_hex : (t : List ℕ) (b d : ℕ) → IsHex b d → t ++ hex_digit d ∷ [] ≡ t ++ b ∷ []
last_hex t b d h = ap (λ x. t ++ x ∷ []) (sym h.is)

last_digit : (t : List ℕ) (b d : ℕ) → IsDigit b d → t ++ (48 + d) ∷ [] ≡ t ++ b ∷ []
last_digit t b d h = ap (λ x. t ++ x ∷ []) (sym h.is)

last_byte : (t : List ℕ) (b g : ℕ) → (b == g) ≡ true → t ++ g ∷ [] ≡ t ++ b ∷ []
last_byte t b g e = ap (λ x. t ++ x ∷ []) (sym (eqb-true b g e))

-- One byte more --------------------------------------------------------------------------------------

root_leaves : (k b : ℕ) → k ≤ 4 → Leaves (take k (codes "root") ++ b ∷ []) (reader_behind (at [] [] (Root k)) (root_step k b))
root_leaves k b le =
    if_leaves _ (at [] [] (Root k)) (nat_lt k 4) (key_move (codes "root") k b (Root (k + 1))) (root_end b)
    (λ e.
    let lt : k < 4 = grind (arith, common_steps) in
    if_leaves _ (at [] [] (Root k)) (b == get_or (codes "root") k 0) (move.To (Root (k + 1))) move.Refused
    (λ is. record { text = key_more (codes "root") k b lt is; good = record { root = tt; blocks = tt; spot = (omega (arith, lt), refl, refl) } }) (λ _. tt))
    (λ e.
    let all : k ≡ 4 = grind (arith, common_steps) in
    subst (λ n. Leaves (take n (codes "root") ++ b ∷ []) (reader_behind (at [] [] (Root n)) (root_end b))) (sym all)
    (if_leaves _ (at [] [] (Root 4)) (b == 32) (move.To (Prefix 0)) (if b == 10 then move.To (Line 0) else move.Refused)
    (λ is. record { text = last_byte (codes "root") b 32 is; good = record { root = tt; blocks = tt; spot = (omega arith, refl) } })
    (λ _. if_leaves _ (at [] [] (Root 4)) (b == 10) (move.To (Line 0)) move.Refused
    (λ is. record { text = last_byte (codes "root") b 10 is; good = record { root = tt; blocks = tt; spot = omega arith } }) (λ _. tt))))

module _ (root : List ℕ) (hr : AreBelow (2 ^ 64) root) where
  abbrev r : List ℕ
  r = rooted root

  prefix_leaves : (k b : ℕ) → k ≤ 2 → Leaves (spot_text r (whole root []) (Prefix k) ++ b ∷ []) (reader_behind (at root [] (Prefix k)) (prefix_step k b))
  prefix_leaves k b le =
      if_leaves _ (at root [] (Prefix k)) (nat_lt k 2) (key_move (codes "0x") k b (Prefix (k + 1))) (first_hex (hex_of b))
      (λ e.
      let lt : k < 2 = grind (arith, common_steps) in
      if_leaves _ (at root [] (Prefix k)) (b == get_or (codes "0x") k 0) (move.To (Prefix (k + 1))) move.Refused
      (λ is. record {
        text = ap (λ t. (r ++ codes " ") ++ t) (key_more (codes "0x") k b lt is) ∙ sym (append_assoc (r ++ codes " ") (take k (codes "0x")) (b ∷ []));
        good = record { root = hr; blocks = tt; spot = (omega (arith, lt), refl) };
      }) (λ _. tt))
      (λ e.
      let all : k ≡ 2 = grind (arith, common_steps) in
      subst (λ n. Leaves (spot_text r (whole root []) (Prefix n) ++ b ∷ []) (reader_behind (at root [] (Prefix n)) (first_hex (hex_of b)))) (sym all) (digit (hex_of b) refl))
    where
      digit : (o : Option ℕ) → hex_of b ≡ o → Leaves (spot_text r (whole root []) (Prefix 2) ++ b ∷ []) (reader_behind (at root [] (Prefix 2)) (first_hex o))
      digit None e = tt
      digit (Some d) e =
          let told = hex_told b d e in
          record {
            text = ap (λ t. (r ++ codes " 0x") ++ t) (hex_one d told.small) ∙ last_hex (r ++ codes " 0x") b d told ∙ ap (λ t. t ++ b ∷ []) (sym (append_assoc r (codes " ") (codes "0x")));
            good = record { root = hr; blocks = tt; spot = (omega (arith, told.small), refl) };
          }

  word_leaves : (x b : ℕ) → x < 2 ^ 64 → Leaves (((r ++ codes " 0x") ++ hexadecimal x) ++ b ∷ []) (reader_behind (at root [] (Word x)) (word_step x b))
  word_leaves x b small =
      if_leaves _ (at root [] (Word x)) (b == 32) (move.Word x (Prefix 0)) (if b == 10 then move.Word x (Line 0) else more_hex x (hex_of b))
      (λ is. record {
        text = append-nil (rooted (root ++ x ∷ []) ++ codes " ") ∙ ap (λ t. t ++ codes " ") pushed ∙ last_byte ((r ++ codes " 0x") ++ hexadecimal x) b 32 is;
        good = record { root = below_push (2 ^ 64) root x hr small; blocks = tt; spot = (omega arith, refl) };
      })
      (λ _. if_leaves _ (at root [] (Word x)) (b == 10) (move.Word x (Line 0)) (more_hex x (hex_of b))
      (λ is. record {
        text = append-nil (whole (root ++ x ∷ []) []) ∙ append-nil (root_text (root ++ x ∷ []))
            ∙ sym (append_assoc (codes "root") (words_text (root ++ x ∷ [])) (codes "\n")) ∙ ap (λ t. t ++ codes "\n") pushed ∙ last_byte ((r ++ codes " 0x") ++ hexadecimal x) b 10 is;
        good = record { root = below_push (2 ^ 64) root x hr small; blocks = tt; spot = omega arith };
      })
      (λ _. digit (hex_of b) refl))
    where
      pushed : rooted (root ++ x ∷ []) ≡ (r ++ codes " 0x") ++ hexadecimal x
      pushed = ap (λ t. codes "root" ++ t) (words_text-push root x) ∙ sym (append_assoc (codes "root") (words_text root) (codes " 0x" ++ hexadecimal x)) ∙ sym (append_assoc r (codes " 0x") (hexadecimal x))

      digit : (o : Option ℕ) → hex_of b ≡ o → Leaves (((r ++ codes " 0x") ++ hexadecimal x) ++ b ∷ []) (reader_behind (at root [] (Word x)) (more_hex x o))
      digit None e = tt
      digit (Some d) e =
          if_leaves _ (at root [] (Word x)) (nat_lt 0 x && nat_lt x (2 ^ 60)) (move.To (Word (x * 16 + d))) move.Refused
          (λ c.
          let told = hex_told b d e in
          let some : 0 < x = grind (arith, common_steps) in
          let few : x < 2 ^ 60 = grind (arith, common_steps) in
          record {
            text = ap (λ t. (r ++ codes " 0x") ++ t) (hex_push x d some told.small (omega (arith, few, told.small))) ∙ sym (append_assoc (r ++ codes " 0x") (hexadecimal x) (hex_digit d ∷ [])) ∙ last_hex ((r ++ codes " 0x") ++ hexadecimal x) b d told;
            good = record { root = hr; blocks = tt; spot = (omega (arith, few, told.small), refl) };
          }) (λ _. tt)

module _ (root : List ℕ) (blocks : List ImageBlock) (hr : AreBelow (2 ^ 64) root) (hb : AreImageBlocks blocks) where
  abbrev w : List ℕ
  w = whole root blocks

  to_spot : (t : List ℕ) (spot next : Spot) → spot_text (rooted root) w next ≡ t → IsGoodAt root blocks next → Leaves t (reader_behind (at root blocks spot) (move.To next))
  to_spot t spot next e good = record { text = e; good = record { root = hr; blocks = hb; spot = good } }

  line_leaves : (k b : ℕ) → k ≤ 6 → Leaves ((w ++ take k (codes "block ")) ++ b ∷ []) (reader_behind (at root blocks (Line k)) (line_step k b))
  line_leaves k b le =
      if_leaves _ (at root blocks (Line k)) (nat_lt k 6) (key_move (codes "block ") k b (Line (k + 1))) (first_address (digit_of b))
      (λ e.
      let lt : k < 6 = grind (arith, common_steps) in
      if_leaves _ (at root blocks (Line k)) (b == get_or (codes "block ") k 0) (move.To (Line (k + 1))) move.Refused
      (λ is. to_spot _ (Line k) (Line (k + 1)) (ap (λ t. w ++ t) (key_more (codes "block ") k b lt is) ∙ sym (append_assoc w (take k (codes "block ")) (b ∷ []))) (omega (arith, lt))) (λ _. tt))
      (λ e.
      let all : k ≡ 6 = grind (arith, common_steps) in
      subst (λ n. Leaves ((w ++ take n (codes "block ")) ++ b ∷ []) (reader_behind (at root blocks (Line n)) (first_address (digit_of b)))) (sym all) (digit (digit_of b) refl))
    where
      digit : (o : Option ℕ) → digit_of b ≡ o → Leaves ((w ++ codes "block ") ++ b ∷ []) (reader_behind (at root blocks (Line 6)) (first_address o))
      digit None e = tt
      digit (Some d) e =
          let told = digit_told b d e in
          to_spot _ (Line 6) (Address d) (ap (λ t. (w ++ codes "block ") ++ t) (decimal_digit d told.small) ∙ last_digit (w ++ codes "block ") b d told) (omega (arith, told.small))

  address_leaves : (n b : ℕ) → n < 2 ^ 64 → Leaves (opened w n ++ b ∷ []) (reader_behind (at root blocks (Address n)) (address_step n b))
  address_leaves n b small =
      if_leaves _ (at root blocks (Address n)) (b == 32) (move.To (Sizing n)) (more_address n (digit_of b))
      (λ is. to_spot _ (Address n) (Sizing n) (last_byte (opened w n) b 32 is) small)
      (λ _. digit (digit_of b) refl)
    where
      digit : (o : Option ℕ) → digit_of b ≡ o → Leaves (opened w n ++ b ∷ []) (reader_behind (at root blocks (Address n)) (more_address n o))
      digit None e = tt
      digit (Some d) e =
          if_leaves _ (at root blocks (Address n)) (nat_lt 0 n && nat_lt (n * 10 + d) (2 ^ 64)) (move.To (Address (n * 10 + d))) move.Refused
          (λ c.
          let told = digit_told b d e in
          let some : 0 < n = grind (arith, common_steps) in
          let few : n * 10 + d < 2 ^ 64 = grind (arith, common_steps) in
          to_spot _ (Address n) (Address (n * 10 + d)) (ap (λ t. (w ++ codes "block ") ++ t) (decimal_push n d some told.small few) ∙ sym (append_assoc (w ++ codes "block ") (decimal n) ((48 + d) ∷ [])) ∙ last_digit (opened w n) b d told) few)
          (λ _. tt)

  sizing_leaves : (n b : ℕ) → n < 2 ^ 64 → Leaves ((opened w n ++ codes " ") ++ b ∷ []) (reader_behind (at root blocks (Sizing n)) (sizing_step n b))
  sizing_leaves n b small = digit (digit_of b) refl
    where
      digit : (o : Option ℕ) → digit_of b ≡ o → Leaves ((opened w n ++ codes " ") ++ b ∷ []) (reader_behind (at root blocks (Sizing n)) (first_size n o))
      digit None e = tt
      digit (Some d) e =
          if_leaves _ (at root blocks (Sizing n)) (nat_lt 0 d) (move.To (Size n d)) move.Refused
          (λ c.
          let told = digit_told b d e in
          let some : 1 ≤ d = grind (arith, common_steps) in
          to_spot _ (Sizing n) (Size n d) (ap (λ t. (opened w n ++ codes " ") ++ t) (decimal_digit d told.small) ∙ last_digit (opened w n ++ codes " ") b d told) (small, some, omega (arith, told.small)))
          (λ _. tt)

  size_leaves : (n s b : ℕ) → n < 2 ^ 64 → 1 ≤ s → s ≤ 512 → Leaves (sized w n s ++ b ∷ []) (reader_behind (at root blocks (Size n s)) (size_step n s b))
  size_leaves n s b small some few =
      if_leaves _ (at root blocks (Size n s)) (b == 32) (move.To (Bytes (empty_at n) s)) (more_size n s (digit_of b))
      (λ is. to_spot _ (Size n s) (Bytes (empty_at n) s) (append-nil (sized w n s ++ codes " ") ∙ last_byte (sized w n s) b 32 is)
      (record { at = small; some = some; few = few; room = omega arith; bytes = tt }))
      (λ _. digit (digit_of b) refl)
    where
      digit : (o : Option ℕ) → digit_of b ≡ o → Leaves (sized w n s ++ b ∷ []) (reader_behind (at root blocks (Size n s)) (more_size n s o))
      digit None e = tt
      digit (Some d) e =
          if_leaves _ (at root blocks (Size n s)) (nat_le (s * 10 + d) 512) (move.To (Size n (s * 10 + d))) move.Refused
          (λ c.
          let told = digit_told b d e in
          let high : s * 10 + d ≤ 512 = grind (arith, common_steps) in
          to_spot _ (Size n s) (Size n (s * 10 + d))
          (ap (λ t. (opened w n ++ codes " ") ++ t) (decimal_push s d some told.small (omega (arith, high))) ∙ sym (append_assoc (opened w n ++ codes " ") (decimal s) ((48 + d) ∷ [])) ∙ last_digit (sized w n s) b d told)
          (small, omega (arith, some), high))
          (λ _. tt)

  -- a block behind whole blocks
  block_whole : (b : ImageBlock) → whole root (blocks ++ b ∷ []) ≡ filled w b (length b.bytes) ++ codes "\n"
  block_whole b =
      ap (λ t. root_text root ++ t) (blocks_text-push blocks b) ∙ sym (append_assoc (root_text root) (blocks_text blocks) (block_text b))
      ∙ sym (append_assoc w (codes "block ") (decimal b.at ++ (codes " " ++ (decimal (length b.bytes) ++ (codes " " ++ (bytes_text b.bytes ++ codes "\n"))))))
      ∙ sym (append_assoc (w ++ codes "block ") (decimal b.at) (codes " " ++ (decimal (length b.bytes) ++ (codes " " ++ (bytes_text b.bytes ++ codes "\n")))))
      ∙ sym (append_assoc (opened w b.at) (codes " ") (decimal (length b.bytes) ++ (codes " " ++ (bytes_text b.bytes ++ codes "\n"))))
      ∙ sym (append_assoc (opened w b.at ++ codes " ") (decimal (length b.bytes)) (codes " " ++ (bytes_text b.bytes ++ codes "\n")))
      ∙ sym (append_assoc (sized w b.at (length b.bytes)) (codes " ") (bytes_text b.bytes ++ codes "\n"))
      ∙ sym (append_assoc (sized w b.at (length b.bytes) ++ codes " ") (bytes_text b.bytes) (codes "\n"))

  bytes_leaves : (block : ImageBlock) (s b : ℕ) → IsPart block s → Leaves (filled w block s ++ b ∷ []) (reader_behind (at root blocks (Bytes block s)) (bytes_step block s b))
  bytes_leaves block s b part =
      if_leaves _ (at root blocks (Bytes block s)) (nat_lt (length block.bytes) s) (upper_half block s (hex_of b)) (if b == 10 then move.Block block else move.Refused)
      (λ e. digit (let lt : length block.bytes < s = grind (arith, common_steps) in lt) (hex_of b) refl)
      (λ e. if_leaves _ (at root blocks (Bytes block s)) (b == 10) (move.Block block) move.Refused
      (λ is.
      let full : length block.bytes ≡ s = let ge : s ≤ length block.bytes = grind (arith, common_steps) in omega (arith, ge, part.room) in
      record {
        text = append-nil (whole root (blocks ++ block ∷ [])) ∙ block_whole block ∙ ap (λ n. filled w block n ++ codes "\n") full ∙ last_byte (filled w block s) b 10 is;
        good = record {
          root = hr;
          blocks = blocks_push blocks block hb (record { at = part.at; some = omega (arith, full, part.some); few = omega (arith, full, part.few); bytes = part.bytes });
          spot = omega arith;
        };
      }) (λ _. tt))
    where
      digit : length block.bytes < s → (o : Option ℕ) → hex_of b ≡ o → Leaves (filled w block s ++ b ∷ []) (reader_behind (at root blocks (Bytes block s)) (upper_half block s o))
      digit lt None e = tt
      digit lt (Some d) e =
          let told = hex_told b d e in
          to_spot _ (Bytes block s) (Half block s d) (last_hex (filled w block s) b d told) (part, lt, told.small)

  half_leaves : (block : ImageBlock) (s u b : ℕ) → IsPart block s → length block.bytes < s → u < 16
      → Leaves ((filled w block s ++ hex_digit u ∷ []) ++ b ∷ []) (reader_behind (at root blocks (Half block s u)) (half_step block s u b))
  half_leaves block s u b part lt small = digit (hex_of b) refl
    where
      front : List ℕ
      front = sized w block.at s ++ codes " "

      digit : (o : Option ℕ) → hex_of b ≡ o → Leaves ((filled w block s ++ hex_digit u ∷ []) ++ b ∷ []) (reader_behind (at root blocks (Half block s u)) (lower_half block s u o))
      digit None e = tt
      digit (Some d) e =
          let told = hex_told b d e in
          to_spot _ (Half block s u) (Bytes (with_byte block (u * 16 + d)) s)
          (ap (λ t. (sized w block.at s ++ codes " ") ++ t) (bytes_text-push block.bytes u d told.small)
          ∙ sym (append_assoc (sized w block.at s ++ codes " ") (bytes_text block.bytes ++ hex_digit u ∷ []) (hex_digit d ∷ []))
          ∙ ap (λ t. t ++ hex_digit d ∷ []) (sym (append_assoc (sized w block.at s ++ codes " ") (bytes_text block.bytes) (hex_digit u ∷ [])))
          ∙ last_hex (filled w block s ++ hex_digit u ∷ []) b d told)
          (record {
            at = part.at;
            some = part.some;
            few = part.few;
            room = omega (arith, lt, length-append block.bytes ((u * 16 + d) ∷ []));
            bytes = below_push 256 block.bytes (u * 16 + d) part.bytes (omega (arith, small, told.small));
          })

step_leaves : (root : List ℕ) (blocks : List ImageBlock) (spot : Spot) (b : ℕ) → AreBelow (2 ^ 64) root → AreImageBlocks blocks → IsGoodAt root blocks spot
    → Leaves (text_of (at root blocks spot) ++ b ∷ []) (reader_behind (at root blocks spot) (step spot b))
step_leaves [] [] (Root k) b hr hb h = root_leaves k b h.0
step_leaves (x ∷ root) blocks (Root k) b hr hb h = absurd (cc h.1)
step_leaves [] (c ∷ blocks) (Root k) b hr hb h = absurd (cc h.2)
step_leaves root [] (Prefix k) b hr hb h = prefix_leaves root hr k b h.0
step_leaves root (c ∷ blocks) (Prefix k) b hr hb h = absurd (cc h.1)
step_leaves root [] (Word x) b hr hb h = word_leaves root hr x b h.0
step_leaves root (c ∷ blocks) (Word x) b hr hb h = absurd (cc h.1)
step_leaves root blocks (Line k) b hr hb h = line_leaves root blocks hr hb k b h
step_leaves root blocks (Address n) b hr hb h = address_leaves root blocks hr hb n b h
step_leaves root blocks (Sizing n) b hr hb h = sizing_leaves root blocks hr hb n b h
step_leaves root blocks (Size n s) b hr hb h = size_leaves root blocks hr hb n s b h.0 h.1 h.2
step_leaves root blocks (Bytes block s) b hr hb h = bytes_leaves root blocks hr hb block s b h
step_leaves root blocks (Half block s u) b hr hb h = half_leaves root blocks hr hb block s u b h.0 h.1 h.2

-- All bytes ------------------------------------------------------------------------------------------

feed_fed : (p : Reader) (b : ℕ) (o : Option Reader) → IsGood p → feed p b ≡ o → Leaves (text_of p ++ b ∷ []) o
feed_fed p b o h e = subst (Leaves (text_of p ++ b ∷ [])) e (step_leaves p.root p.blocks p.spot b h.root h.blocks h.spot)

fed_more : (p : Reader) (b : ℕ) (bs : List ℕ) (q : Reader) (o : Option Reader) → IsGood p → feed p b ≡ o → run o bs ≡ Some q
    → ((r : Reader) → IsGood r → run (Some r) bs ≡ Some q → Fed (text_of r ++ bs) q) → Fed (text_of p ++ b ∷ bs) q
fed_more p b bs q None h is k rest = absurd (cc (sym (run_none bs) ∙ k))
fed_more p b bs q (Some r) h is k rest =
    let one : Fed (text_of p ++ b ∷ []) r = feed_fed p b (Some r) h is in
    let all = rest r one.good k in
    record { text = all.text ∙ ap (λ t. t ++ bs) one.text ∙ append_assoc (text_of p) (b ∷ []) bs; good = all.good }

same_reader : (p q : Reader) → Some p ≡ Some q → p ≡ q
same_reader p q e = cc

pub run_fed : (p : Reader) (bs : List ℕ) (q : Reader) → IsGood p → run (Some p) bs ≡ Some q → Fed (text_of p ++ bs) q
run_fed p [] q h e = subst (λ r. Fed (text_of p ++ []) r) (same_reader p q e) (record { text = sym (append-nil (text_of p)); good = h })
run_fed p (b ∷ bs) q h e = fed_more p b bs q (feed p b) h refl e (λ r s k. run_fed r bs q s k)
