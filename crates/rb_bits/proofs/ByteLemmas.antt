-- Numbers as bytes: each of the two directions undoes the other, and what n bytes hold is below 2 ^ (8 * n).
use Rattle.std.proofs.Common.{◌≡◌, ℕ, zero, suc, ◌+◌, ◌-◌, ◌*◌, ◌/◌, ◌%◌, ◌^◌, ◌<◌, ◌≤◌, inl, inr, List, [], ◌∷◌, length, get_or, drop, refl, ap, ◌∙◌, arith}
use Rattle.std.proofs.lemmas.Nat.{pow-add}
use Rattle.std.proofs.Math.Pow.{pow_mono}
use Rattle.std.proofs.Math.Seq.{drop-cons}
use Rattle.rb_bits.specs.LittleEndian.{IsByteCount, from_le_bytes, to_le_bytes}

pub count_is_few : (n : ℕ) → IsByteCount n → n ≤ 8
count_is_few n (inl e) = omega arith
count_is_few n (inr (inl e)) = omega arith
count_is_few n (inr (inr (inl e))) = omega arith
count_is_few n (inr (inr (inr e))) = omega arith

pow_byte : (n : ℕ) → 0 < n → 2 ^ (8 * n) ≡ 256 * 2 ^ (8 * (n - 1))
pow_byte n pos =
    let e : 8 * n ≡ 8 + 8 * (n - 1) = omega arith in
    ap (λ k. 2 ^ k) e ∙ pow-add 2 8 (8 * (n - 1))

-- one more byte below n - 1 of them
pub more_bytes : (n rest byte : ℕ) → 0 < n → rest < 2 ^ (8 * (n - 1)) → byte < 256 → 256 * rest + byte < 2 ^ (8 * n)
more_bytes n rest byte pos fits small = omega (arith, pow_byte n pos)

pub bytes_fit : (n rest byte : ℕ) → 0 < n → n ≤ 8 → rest < 2 ^ (8 * (n - 1)) → byte < 256 → 256 * rest + byte < 2 ^ 64
bytes_fit n rest byte pos few fits small =
    let most : 8 * n ≤ 64 = omega arith in
    omega (arith, more_bytes n rest byte pos fits small, pow_mono most)

pub from_le_bytes-drop : (bytes : List ℕ) (i : ℕ) → i < length bytes → from_le_bytes (drop i bytes) ≡ get_or bytes i 0 + 256 * from_le_bytes (drop (i + 1) bytes)
from_le_bytes-drop bytes i lt =
    let e : suc i ≡ i + 1 = omega arith in
    ap from_le_bytes (drop-cons bytes i 0 lt) ∙ ap (λ k. get_or bytes i 0 + 256 * from_le_bytes (drop k bytes)) e

pub to_le_bytes-from_le_bytes : (bytes : List ℕ) → ((k : ℕ) → get_or bytes k 0 < 256) → to_le_bytes (length bytes) (from_le_bytes bytes) ≡ bytes
to_le_bytes-from_le_bytes [] small = refl
to_le_bytes-from_le_bytes (byte ∷ bytes) small =
    let here : byte < 256 = small 0 in
    let low : (byte + 256 * from_le_bytes bytes) % 256 ≡ byte = omega arith in
    let high : (byte + 256 * from_le_bytes bytes) / 256 ≡ from_le_bytes bytes = omega arith in
    rw (low, high) (ap (λ xs. byte ∷ xs) (to_le_bytes-from_le_bytes bytes (λ k. small (suc k))))

pub from_le_bytes-to_le_bytes : (n w : ℕ) → w < 2 ^ (8 * n) → from_le_bytes (to_le_bytes n w) ≡ w
from_le_bytes-to_le_bytes zero w fits = omega arith
from_le_bytes-to_le_bytes (suc n) w fits =
    let e : suc n - 1 ≡ n = omega arith in
    let step : 2 ^ (8 * suc n) ≡ 256 * 2 ^ (8 * n) = pow_byte (suc n) (omega arith) ∙ ap (λ k. 256 * 2 ^ (8 * k)) e in
    let rest = from_le_bytes-to_le_bytes n (w / 256) (omega arith) in
    omega (arith, rest)

pub length-to_le_bytes : (n w : ℕ) → length (to_le_bytes n w) ≡ n
length-to_le_bytes zero w = refl
length-to_le_bytes (suc n) w = ap suc (length-to_le_bytes n (w / 256))

-- the lowest byte, and then those of the rest
pub to_le_bytes-more : (n w : ℕ) → 0 < n → to_le_bytes n w ≡ w % 256 ∷ to_le_bytes (n - 1) (w / 256)
to_le_bytes-more zero w pos = absurd (omega arith)
to_le_bytes-more (suc n) w pos = let e : n ≡ suc n - 1 = omega arith in ap (λ k. w % 256 ∷ to_le_bytes k (w / 256)) e
