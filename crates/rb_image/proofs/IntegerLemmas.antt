-- Integers that are gathered bit by bit, from the highest.
use Rattle.std.proofs.Common.{◌≡◌, ℕ, zero, suc, ◌+◌, ◌-◌, ◌*◌, ◌%◌, ◌^◌, ◌<◌, ◌≤◌, Bool, true, false, List, drop, Some, refl, sym, ap, ◌∙◌, arith}
use Rattle.std.specs.Prelude.{slice_get, if◌then◌else◌}
use Rattle.std.specs.Int.{bit_at}
use Rattle.std.proofs.Math.Nat.{pow-le-pow_right}
use Rattle.std.proofs.lemmas.Nat.{pow-add}
use Rattle.std.proofs.lemmas.Nat.Bits.{bit_at_lowest}
use Rattle.rb_bits.specs.Words.{take_of}
use Rattle.rb_bits.proofs.WordLemmas.{bit_at_take, take_fits}
use Rattle.rb_core.specs.declared.types.Ty.{Ty}
use Rattle.rb_layout.specs.A6.{holds_unit}
use Rattle.rb_image.specs.declared.order.Spot.{Spot}
use Rattle.rb_image.specs.Integers.{bit_in, field_bit, number_of_bits}
use Rattle.rb_image.specs.Orders.{LocatedPart, spot_part, spots_of}
use Rattle.rb_image.proofs.DropLemmas.{drop_item}

small_mod : (n : ℕ) → n < 2 → n % 2 ≡ n
small_mod n lt = omega (arith, lt)

-- a range of one bit
pub take_bit : (v k : ℕ) → take_of v k 1 ≡ bit_at v k
take_bit v k =
    let z : k + 0 ≡ k = omega arith in
    sym (small_mod (take_of v k 1) (take_fits v k 1)) ∙ sym (bit_at_lowest (take_of v k 1)) ∙ bit_at_take v k 1 0 (omega arith) ∙ ap (bit_at v) z

numbered_same : (n : ℕ) (f g : ℕ → ℕ) → ((i : ℕ) → f i ≡ g i) → number_of_bits n f ≡ number_of_bits n g
numbered_same zero f g same = refl
numbered_same (suc n) f g same = ap (λ a. a + 2 * number_of_bits n (λ i. f (suc i))) (same 0) ∙ ap (λ a. g 0 + 2 * a) (numbered_same n (λ i. f (suc i)) (λ i. g (suc i)) (λ i. same (suc i)))

-- the highest bits of a number, so many of them
abbrev pub highest : (ℕ → ℕ) → ℕ → ℕ → ℕ
highest f bits done = number_of_bits done (λ i. f (bits - done + i))

pub highest_all : (f : ℕ → ℕ) (bits : ℕ) → highest f bits bits ≡ number_of_bits bits f
highest_all f bits = numbered_same bits (λ i. f (bits - bits + i)) f (λ i. (let z : bits - bits + i ≡ i = omega arith in ap f z))

-- one bit more
pub highest_more : (f : ℕ → ℕ) (bits done : ℕ) → done < bits → highest f bits done * 2 + f (bits - 1 - done) ≡ highest f bits (done + 1)
highest_more f bits done lt =
    let up : suc done ≡ done + 1 = omega arith in
    let low : bits - 1 - done ≡ bits - suc done + 0 = omega (arith, lt) in
    let first = ap f low in
    let rest = numbered_same done (λ i. f (bits - done + i)) (λ i. f (bits - suc done + suc i)) (λ i. (let z : bits - done + i ≡ bits - suc done + suc i = omega (arith, lt) in ap f z)) in
    let is : highest f bits done * 2 + f (bits - 1 - done) ≡ highest f bits (suc done) = omega (arith, first, rest) in
    is ∙ ap (highest f bits) up

pub highest_fits : (f : ℕ → ℕ) → ((i : ℕ) → f i < 2) → (bits done : ℕ) → highest f bits done < 2 ^ done
highest_fits f small bits done = fits done (λ i. f (bits - done + i)) (λ i. small (bits - done + i))
  where
    fits : (n : ℕ) (g : ℕ → ℕ) → ((i : ℕ) → g i < 2) → number_of_bits n g < 2 ^ n
    fits zero g s = let z : 2 ^ 0 ≡ 1 = refl in omega (arith, z)
    fits (suc n) g s =
        let rest = fits n (λ i. g (suc i)) (λ i. s (suc i)) in
        let first = s 0 in
        let p : 2 ^ (suc n) ≡ 2 * 2 ^ n = omega (arith, pow-add 2 1 n) in
        omega (arith, rest, first, p)

-- with one bit more they are those of a word
pub highest_narrow : (f : ℕ → ℕ) → ((i : ℕ) → f i < 2) → (bits done b : ℕ) → done < bits → bits ≤ 64 → b < 2 → highest f bits done * 2 + b < 2 ^ 64
highest_narrow f small bits done b lt narrow one =
    let fits = highest_fits f small bits done in
    let two : 0 < 2 = omega arith in
    let low : done ≤ 63 = omega (arith, lt, narrow) in
    let up : 2 ^ done ≤ 2 ^ 63 = pow-le-pow_right two low in
    let p : 2 ^ 64 ≡ 2 * 2 ^ 63 = refl in
    omega (arith, fits, up, p, one)

-- One part -----------------------------------------------------------------------------------
module _ (value : LocatedPart → ℕ) (ty : Ty) (items : List Spot) (k : ℕ) (spot : Spot) (is : slice_get items k ≡ Some spot) (path : List ℕ) (i : ℕ) where
  abbrev bit_on : Bool → ℕ
  bit_on t = if t then bit_in (value (spot_part spot)) i spot.part.now.kind else field_bit value ty (spots_of (drop (k + 1) items)) path i

  first : field_bit value ty (spots_of (drop k items)) path i ≡ bit_on (holds_unit ty path i spot.part.now.l spot.part.now.kind)
  first = ap (λ ss. field_bit value ty (spots_of ss) path i) (drop_item items k spot is)

  pub bit_found : holds_unit ty path i spot.part.now.l spot.part.now.kind ≡ true → field_bit value ty (spots_of (drop k items)) path i ≡ bit_in (value (spot_part spot)) i spot.part.now.kind
  bit_found holds = first ∙ ap bit_on holds

  pub bit_passed : holds_unit ty path i spot.part.now.l spot.part.now.kind ≡ false → field_bit value ty (spots_of (drop k items)) path i ≡ field_bit value ty (spots_of (drop (k + 1) items)) path i
  bit_passed holds = first ∙ ap bit_on holds
