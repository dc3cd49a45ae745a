-- Parts put one after another into disjoint ranges of a word: each stands where it was put, and all else stays.
use Rattle.std.proofs.Common.{◌≡◌, ℕ, suc, ◌+◌, ◌-◌, ◌*◌, ◌^◌, ◌<◌, ◌≤◌, inl, inr, List, [], ◌∷◌, get_or, refl, sym, subst, ap, ◌∙◌, arith}
use Rattle.std.specs.Prelude.{All, AllPairs, sum_by}
use Rattle.std.specs.Int.{bit_at}
use Rattle.std.proofs.lemmas.List.Elements.{All-nil, All-cons, All-head, All-tail}
use Rattle.std.proofs.lemmas.List.Kept.{AllPairs-cons}
use Rattle.std.proofs.lemmas.List.Sums.{sum_by-cons}
use Rattle.std.proofs.lemmas.Nat.{pow_pos}
use Rattle.std.proofs.lemmas.Nat.Bits.{bit_at-zero}
use Rattle.rb_bits.specs.Words.{IsRange, IsOutside, AreDisjoint, take_of, put_of}
use Rattle.rb_bits.specs.Slices.{AreSlices, gather_of, scatter_of, named_bits_of, IsGathered, IsScattered, HasNamedBits}
use Rattle.rb_bits.specs.declared.slices.Slice.{Slice}
use Rattle.rb_bits.proofs.WordLemmas.{take_fits, bit_at_take, bit_at_put_inside, bit_at_put_outside, take_put, take_put_elsewhere, put_adds}

-- ---- lists of slices
AllPairs-head : (R : Slice → Slice → Type 0) (s : Slice) (slices : List Slice) → AllPairs R (s ∷ slices) → All (R s) slices
AllPairs-head R s slices h = λ k d lt. h 0 (suc k) d (omega arith) (omega arith)

AllPairs-tail : (R : Slice → Slice → Type 0) (s : Slice) (slices : List Slice) → AllPairs R (s ∷ slices) → AllPairs R slices
AllPairs-tail R s slices h = λ i j d lt within. h (suc i) (suc j) d (omega arith) (omega arith)

sum_by_same : (f g : Slice → ℕ) (slices : List Slice) → All (λ s. f s ≡ g s) slices → sum_by f slices ≡ sum_by g slices
sum_by_same f g [] same = refl
sum_by_same f g (s ∷ slices) same =
    let here = All-head (λ (x : Slice). f x ≡ g x) s slices same in
    let rest = sum_by_same f g slices (All-tail (λ (x : Slice). f x ≡ g x) s slices same) in
    sum_by-cons f s slices ∙ omega (arith, here, rest) ∙ sym (sum_by-cons g s slices)

apart_from : (o l b m i : ℕ) → AreDisjoint o l b m → i < l → IsOutside b m (o + i)
apart_from o l b m i (inl le) lt = inl (omega arith)
apart_from o l b m i (inr le) lt = inr (omega arith)

turned : (o l b m : ℕ) → AreDisjoint o l b m → AreDisjoint b m o l
turned o l b m (inl le) = inr le
turned o l b m (inr le) = inl le

-- one more slice before others, apart from each of them
pub AreSlices-cons : (s : Slice) (slices : List Slice) → IsRange s.o s.l × IsRange s.a s.l → All (λ (t : Slice). AreDisjoint s.o s.l t.o t.l × AreDisjoint s.a s.l t.a t.l) slices → AreSlices slices → AreSlices (s ∷ slices)
AreSlices-cons s slices range apart are = record {
  ranges = All-cons (λ (t : Slice). IsRange t.o t.l × IsRange t.a t.l) s slices range are.ranges;
  apart_in_word = AllPairs-cons (λ (x t : Slice). AreDisjoint x.o x.l t.o t.l) s slices (λ k d lt. (apart k d lt).0) are.apart_in_word;
  apart_in_number = AllPairs-cons (λ (x t : Slice). AreDisjoint x.a x.l t.a t.l) s slices (λ k d lt. (apart k d lt).1) are.apart_in_number;
}

pub AreSlices-nil : AreSlices []
AreSlices-nil = record {
  ranges = λ k d lt. absurd (omega arith);
  apart_in_word = λ i j d lt within. absurd (omega arith);
  apart_in_number = λ i j d lt within. absurd (omega arith);
}

-- ---- each slice's part put into its range, which begins at `at` of the slice
module _ (at : Slice → ℕ) (part : Slice → ℕ) where
  abbrev pub puts : ℕ → List Slice → ℕ
  puts w [] = w
  puts w (s ∷ slices) = puts (put_of w (at s) s.l (part s)) slices

-- the parts are as long as their ranges, which are disjoint
module _ (at : Slice → ℕ) (part : Slice → ℕ) (fits : (s : Slice) → part s < 2 ^ s.l) where
  abbrev pub ArePlaces : List Slice → Type 0
  ArePlaces slices = AllPairs (λ (s t : Slice). AreDisjoint (at s) s.l (at t) t.l) slices

  places_head : (s : Slice) (slices : List Slice) → ArePlaces (s ∷ slices) → All (λ (t : Slice). AreDisjoint (at s) s.l (at t) t.l) slices
  places_head s slices apart = AllPairs-head (λ (x t : Slice). AreDisjoint (at x) x.l (at t) t.l) s slices apart

  places_tail : (s : Slice) (slices : List Slice) → ArePlaces (s ∷ slices) → ArePlaces slices
  places_tail s slices apart = AllPairs-tail (λ (x t : Slice). AreDisjoint (at x) x.l (at t) t.l) s slices apart

  pub bit_at_puts_outside : (w : ℕ) (slices : List Slice) (i : ℕ) → All (λ (s : Slice). IsOutside (at s) s.l i) slices → bit_at (puts at part w slices) i ≡ bit_at w i
  bit_at_puts_outside w [] i out = refl
  bit_at_puts_outside w (s ∷ slices) i out =
      bit_at_puts_outside (put_of w (at s) s.l (part s)) slices i (All-tail (λ (x : Slice). IsOutside (at x) x.l i) s slices out)
      ∙ bit_at_put_outside w (at s) s.l (part s) i (fits s) (All-head (λ (x : Slice). IsOutside (at x) x.l i) s slices out)

  pub bit_at_puts_inside : (w : ℕ) (slices : List Slice) → ArePlaces slices → All (λ (s : Slice). (i : ℕ) → i < s.l → bit_at (puts at part w slices) (at s + i) ≡ bit_at (part s) i) slices
  bit_at_puts_inside w [] apart = All-nil (λ (s : Slice). (i : ℕ) → i < s.l → bit_at (puts at part w []) (at s + i) ≡ bit_at (part s) i)
  bit_at_puts_inside w (s ∷ slices) apart =
      let word = put_of w (at s) s.l (part s) in
      All-cons (λ (x : Slice). (i : ℕ) → i < x.l → bit_at (puts at part word slices) (at x + i) ≡ bit_at (part x) i) s slices
      (λ i lt.
      bit_at_puts_outside word slices (at s + i) (λ k d within. apart_from (at s) s.l (at _) _ i (places_head s slices apart k d within) lt)
      ∙ bit_at_put_inside w (at s) s.l (part s) i (fits s) lt)
      (bit_at_puts_inside word slices (places_tail s slices apart))

  -- what stands in a range that is disjoint from all of them stays
  pub take_puts_elsewhere : (w : ℕ) (slices : List Slice) (o l : ℕ) → All (λ (s : Slice). AreDisjoint o l (at s) s.l) slices → take_of (puts at part w slices) o l ≡ take_of w o l
  take_puts_elsewhere w [] o l apart = refl
  take_puts_elsewhere w (s ∷ slices) o l apart =
      take_puts_elsewhere (put_of w (at s) s.l (part s)) slices o l (All-tail (λ (x : Slice). AreDisjoint o l (at x) x.l) s slices apart)
      ∙ take_put_elsewhere w (at s) s.l (part s) o l (fits s) (turned o l (at s) s.l (All-head (λ (x : Slice). AreDisjoint o l (at x) x.l) s slices apart))

  -- each part is taken again from its range
  pub take_puts : (w : ℕ) (slices : List Slice) → ArePlaces slices → All (λ (s : Slice). take_of (puts at part w slices) (at s) s.l ≡ part s) slices
  take_puts w [] apart = All-nil (λ (s : Slice). take_of w (at s) s.l ≡ part s)
  take_puts w (s ∷ slices) apart =
      let word = put_of w (at s) s.l (part s) in
      All-cons (λ (x : Slice). take_of (puts at part word slices) (at x) x.l ≡ part x) s slices
      (take_puts_elsewhere word slices (at s) s.l (places_head s slices apart) ∙ take_put w (at s) s.l (part s) (fits s))
      (take_puts word slices (places_tail s slices apart))

  -- what stands in the ranges
  abbrev pub held : ℕ → List Slice → ℕ
  held w slices = sum_by (λ s. take_of w (at s) s.l * 2 ^ at s) slices

  abbrev pub placed : List Slice → ℕ
  placed slices = sum_by (λ s. part s * 2 ^ at s) slices

  -- a part put into a range that is disjoint from the others changes nothing there
  held_elsewhere : (w o l p : ℕ) (slices : List Slice) → p < 2 ^ l → All (λ (s : Slice). AreDisjoint o l (at s) s.l) slices → held (put_of w o l p) slices ≡ held w slices
  held_elsewhere w o l p slices small apart =
      sum_by_same (λ s. take_of (put_of w o l p) (at s) s.l * 2 ^ at s) (λ s. take_of w (at s) s.l * 2 ^ at s) slices
      (λ k d within.
      let t = get_or slices k d in
      ap (λ n. n * 2 ^ at t) (take_put_elsewhere w o l p (at t) t.l small (apart k d within)))

  -- the parts added up
  pub puts_add : (w : ℕ) (slices : List Slice) → ArePlaces slices → puts at part w slices + held w slices ≡ w + placed slices
  puts_add w [] apart = refl
  puts_add w (s ∷ slices) apart =
      let word = put_of w (at s) s.l (part s) in
      let rest = puts_add word slices (places_tail s slices apart) in
      let same = held_elsewhere w (at s) s.l (part s) slices (fits s) (places_head s slices apart) in
      let here = put_adds w (at s) s.l (part s) in
      let old = sum_by-cons (λ (x : Slice). take_of w (at x) x.l * 2 ^ at x) s slices in
      let new = sum_by-cons (λ (x : Slice). part x * 2 ^ at x) s slices in
      omega (arith, rest, same, here, old, new)

  -- what stands in disjoint ranges is a part of the word
  held_below : (w : ℕ) (slices : List Slice) → ArePlaces slices → held w slices ≤ w
  held_below w [] apart = omega arith
  held_below w (s ∷ slices) apart =
      let none : 0 < 2 ^ s.l = pow_pos s.l in
      let without = put_of w (at s) s.l 0 in
      let rest = held_below without slices (places_tail s slices apart) in
      let same = held_elsewhere w (at s) s.l 0 slices none (places_head s slices apart) in
      let here = put_adds w (at s) s.l 0 in
      let all = sum_by-cons (λ (x : Slice). take_of w (at x) x.l * 2 ^ at x) s slices in
      omega (arith, rest, same, here, all)

  pub puts_is : (w : ℕ) (slices : List Slice) → ArePlaces slices → puts at part w slices ≡ w - held w slices + placed slices
  puts_is w slices apart = omega (arith, puts_add w slices apart, held_below w slices apart)

  pub puts_onto_zero : (slices : List Slice) → ArePlaces slices → puts at part 0 slices ≡ placed slices
  puts_onto_zero slices apart = omega (arith, puts_add 0 slices apart, held_below 0 slices apart)

-- ---- gathering and scattering
abbrev pub gathered : ℕ → ℕ → List Slice → ℕ
gathered w number slices = puts (λ s. s.a) (λ s. take_of w s.o s.l) number slices

abbrev pub scattered : ℕ → ℕ → List Slice → ℕ
scattered number w slices = puts (λ s. s.o) (λ s. take_of number s.a s.l) w slices

module _ (w : ℕ) (slices : List Slice) (are : AreSlices slices) where
  pub gathered_is : gathered w 0 slices ≡ gather_of w slices
  gathered_is = puts_onto_zero (λ s. s.a) (λ s. take_of w s.o s.l) (λ s. take_fits w s.o s.l) slices are.apart_in_number

  pub gathered_bits : IsGathered w slices (gather_of w slices)
  gathered_bits =
      let inside = bit_at_puts_inside (λ s. s.a) (λ s. take_of w s.o s.l) (λ s. take_fits w s.o s.l) 0 slices are.apart_in_number in
      let outside = bit_at_puts_outside (λ s. s.a) (λ s. take_of w s.o s.l) (λ s. take_fits w s.o s.l) 0 slices in
      subst (IsGathered w slices) gathered_is
      (record {
        inside = λ k d within i lt. let t = get_or slices k d in inside k d within i lt ∙ bit_at_take w t.o t.l i lt;
        outside = λ i out. outside i out ∙ bit_at-zero i;
      })

module _ (w : ℕ) (slices : List Slice) (number : ℕ) (are : AreSlices slices) where
  pub scattered_is : scattered number w slices ≡ scatter_of w slices number
  scattered_is = puts_is (λ s. s.o) (λ s. take_of number s.a s.l) (λ s. take_fits number s.a s.l) w slices are.apart_in_word

  pub scattered_bits : IsScattered w slices number (scatter_of w slices number)
  scattered_bits =
      let inside = bit_at_puts_inside (λ s. s.o) (λ s. take_of number s.a s.l) (λ s. take_fits number s.a s.l) w slices are.apart_in_word in
      subst (IsScattered w slices number) scattered_is
      (record {
        inside = λ k d within i lt. let t = get_or slices k d in inside k d within i lt ∙ bit_at_take number t.a t.l i lt;
        outside = bit_at_puts_outside (λ s. s.o) (λ s. take_of number s.a s.l) (λ s. take_fits number s.a s.l) w slices;
      })

  -- to gather what was scattered gives the number's bits back
  pub gather-scatter : gather_of (scatter_of w slices number) slices ≡ named_bits_of number slices
  gather-scatter =
      let word = scatter_of w slices number in
      let back = take_puts (λ s. s.o) (λ s. take_of number s.a s.l) (λ s. take_fits number s.a s.l) w slices are.apart_in_word in
      sum_by_same (λ s. take_of word s.o s.l * 2 ^ s.a) (λ s. take_of number s.a s.l * 2 ^ s.a) slices
      (λ k d within.
      let t = get_or slices k d in
      ap (λ n. n * 2 ^ t.a) (ap (λ x. take_of x t.o t.l) (sym scattered_is) ∙ back k d within))

  pub gather-scatter-bits : HasNamedBits number slices (gather_of (scatter_of w slices number) slices)
  gather-scatter-bits =
      let word = scatter_of w slices number in
      let back = gathered_bits word slices are in
      record {
        inside = λ k d within i lt. back.inside k d within i lt ∙ scattered_bits.inside k d within i lt;
        outside = back.outside;
      }
