-- Operations on 64 bits, then modulo a smaller power of two.
use Rattle.std.proofs.Common.{◌≡◌, ℕ, ◌+◌, ◌-◌, ◌*◌, ◌/◌, ◌%◌, ◌^◌, ◌<◌, ◌≤◌, ap, ◌∙◌, arith}
use Rattle.std.proofs.Math.Pow.{mod-mod-pow, shr_lt}
use Rattle.std.proofs.Math.Nat.{add-mul-mod_self_right, mod-lt}
use Rattle.std.proofs.lemmas.Nat.{pow-add, pow_pos, shr_split}

pub narrow : (a n : ℕ) → n ≤ 64 → a % 2 ^ 64 % 2 ^ n ≡ a % 2 ^ n
narrow a n le =
    let e : 64 ≡ 64 - n + n = omega arith in
    ap (λ k. a % 2 ^ k % 2 ^ n) e ∙ mod-mod-pow a (64 - n) n

above : (x y p r jp qp whole : ℕ) → whole ≡ jp + qp + p → qp + r ≡ y → r < p → x + (whole - y) ≡ x + (p - r) + jp
above x y p r jp qp whole e split lt = omega arith

difference : (x y n : ℕ) → n ≤ 64 → y < 2 ^ 64 → (x + (2 ^ 64 - y)) % 2 ^ n ≡ (x + (2 ^ n - y % 2 ^ n)) % 2 ^ n
difference x y n le small =
    let p = 2 ^ n in
    let k = 2 ^ (64 - n) in
    let q = y / p in
    let e : 64 ≡ 64 - n + n = omega arith in
    let whole : 2 ^ 64 ≡ k * p = ap (λ z. 2 ^ z) e ∙ pow-add 2 (64 - n) n in
    let below : q < k = shr_lt (64 - n) n (rw (← e) small) in
    let split : q * p + y % p ≡ y = shr_split y n in
    let j = k - q - 1 in
    let parts : k ≡ j + q + 1 = omega (arith, below) in
    let all : k * p ≡ j * p + q * p + p = ap (λ z. z * p) parts ∙ omega arith in
    let same : x + (2 ^ 64 - y) ≡ x + (p - y % p) + j * p = above x y p (y % p) (j * p) (q * p) (2 ^ 64) (whole ∙ all) split (mod-lt y (pow_pos n)) in
    ap (λ z. z % p) same ∙ add-mul-mod_self_right (x + (p - y % p)) j p

pub wrapped_sub : (x y n : ℕ) → n ≤ 64 → y < 2 ^ 64 → (x + (2 ^ 64 - y)) % 2 ^ 64 % 2 ^ n ≡ (x + (2 ^ n - y % 2 ^ n)) % 2 ^ n
wrapped_sub x y n le small = narrow (x + (2 ^ 64 - y)) n le ∙ difference x y n le small
