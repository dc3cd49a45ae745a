-- A program's function names are names of code, and the other way round.
use Rattle.std.proofs.Common.{◌≡◌, ℕ, ◌≤◌, ◌⊎◌, inl, inr, Bool, true, false, ◌&&◌, List, [], ◌∷◌, All, refl, ap, arith, eqb-true}
use Rattle.std.proofs.lemmas.Bool.Decides.{nat_tests}
use Rattle.std.proofs.lemmas.List.Elements.{All-nil, All-cons, All-head, All-tail}
use Rattle.std.specs.Prelude.{nat_le}
use Rattle.std.specs.List.{list_all}
use Rattle.std.proofs.lemmas.Bool.{and_parts}
use Rattle.rb_core.specs.WellNumbered.{is_between, is_capital, is_small, either, is_word_byte, is_lower}
use Rattle.rb_target.specs.Validity.{IsNameByte, IsLower}

and_also : (a b : Bool) → a ≡ true → b ≡ true → (a && b) ≡ true
and_also true b e f = f
and_also false b e f = cc

pub between : (a b n : ℕ) → is_between a b n ≡ true → (a ≤ n) × (n ≤ b)
between a b n e =
    let h = and_parts (nat_le a n) (nat_le n b) e in
    let lo : a ≤ n = grind (arith, nat_tests, h.0) in let hi : n ≤ b = grind (arith, nat_tests, h.1) in (lo, hi)

pub from_between : (a b n : ℕ) → a ≤ n → n ≤ b → is_between a b n ≡ true
from_between a b n lo hi =
    let first : nat_le a n ≡ true = grind (arith, nat_tests, lo) in let last : nat_le n b ≡ true = grind (arith, nat_tests, hi) in
    and_also (nat_le a n) (nat_le n b) first last

or_else : (a b : Bool) → either a b ≡ true → (a ≡ true) ⊎ (b ≡ true)
or_else true b e = inl refl
or_else false b e = inr e

or_left : (a b : Bool) → a ≡ true → either a b ≡ true
or_left true b e = refl
or_left false b e = cc

or_right : (a b : Bool) → b ≡ true → either a b ≡ true
or_right true b e = refl
or_right false b e = e

pub name_byte : (n : ℕ) → is_word_byte n ≡ true → IsNameByte n
name_byte n e = elim (or_else (is_capital n) _ e) [
  | inl cap ↦ inr (inl (between 65 90 n cap))
  | inr more ↦ elim (or_else (is_small n) _ more) [
    | inl small ↦ inl (between 97 122 n small)
    | inr rest ↦ elim (or_else (is_between 48 57 n) _ rest) [
      | inl digit ↦ inr (inr (inl (between 48 57 n digit)))
      | inr line ↦ inr (inr (inr (eqb-true n 95 line)))
    ]
  ]
]

pub from_name_byte : (n : ℕ) → IsNameByte n → is_word_byte n ≡ true
from_name_byte n (inl small) = or_right (is_capital n) _ (or_left (is_small n) _ (from_between 97 122 n small.0 small.1))
from_name_byte n (inr (inl cap)) = or_left (is_capital n) _ (from_between 65 90 n cap.0 cap.1)
from_name_byte n (inr (inr (inl digit))) = or_right (is_capital n) _ (or_right (is_small n) _ (or_left (is_between 48 57 n) _ (from_between 48 57 n digit.0 digit.1)))
from_name_byte n (inr (inr (inr line))) = ap is_word_byte line

name_bytes : (bs : List ℕ) → list_all is_word_byte bs ≡ true → All IsNameByte bs
name_bytes [] e = All-nil IsNameByte
name_bytes (b ∷ bs) e = let h = and_parts (is_word_byte b) (list_all is_word_byte bs) e in All-cons IsNameByte b bs (name_byte b h.0) (name_bytes bs h.1)

from_name_bytes : (bs : List ℕ) → All IsNameByte bs → list_all is_word_byte bs ≡ true
from_name_bytes [] h = refl
from_name_bytes (b ∷ bs) h = and_also (is_word_byte b) (list_all is_word_byte bs) (from_name_byte b (All-head IsNameByte b bs h)) (from_name_bytes bs (All-tail IsNameByte b bs h))

pub lower_name : (bs : List ℕ) → is_lower bs ≡ true → IsLower bs
lower_name [] e = cc
lower_name (b ∷ bs) e = let h = and_parts (is_small b) (list_all is_word_byte bs) e in (between 97 122 b h.0, name_bytes bs h.1)

pub name_is_lower : (bs : List ℕ) → IsLower bs → is_lower bs ≡ true
name_is_lower [] h = absurd h
name_is_lower (b ∷ bs) h = and_also (is_small b) (list_all is_word_byte bs) (from_between 97 122 b h.0.0 h.0.1) (from_name_bytes bs h.1)
