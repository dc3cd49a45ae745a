-- The least width of a number is the least that holds it.
use Rattle.std.proofs.Common.{◌≡◌, ◌≢◌, ℕ, zero, suc, ◌+◌, ◌^◌, ◌<◌, ◌≤◌, ◌⊎◌, inl, inr, Bool, true, false, refl, arith}
use Rattle.std.specs.Prelude.{nat_lt, if◌then◌else◌}
use Rattle.std.proofs.lemmas.Bool.Decides.{nat_tests}
use Rattle.rb_core.specs.Typing.{width_from, least_width}
use Rattle.rb_core.specs.TypingLaws.{IsLeastWidth}

-- no width below this one holds the number
abbrev NoneBelow : ℕ → ℕ → Type 0
NoneBelow n width = (v : ℕ) → 1 ≤ v → v < width → 2 ^ v ≤ n

here : (n width : ℕ) → 1 ≤ width → n < 2 ^ width → NoneBelow n width → IsLeastWidth n width
here n width positive lt below = record {
  positive = positive;
  holds = lt;
  least = λ v low fits. not_below v low fits (split v width);
}
  where
    split : (a b : ℕ) → (a < b) ⊎ (b ≤ a)
    split a b = grind arith

    not_below : (v : ℕ) → 1 ≤ v → n < 2 ^ v → (v < width) ⊎ (width ≤ v) → width ≤ v
    not_below v low fits (inl less) = let no = below v low less in absurd (omega arith)
    not_below v low fits (inr le) = le

next : (n width : ℕ) → 2 ^ width ≤ n → NoneBelow n width → NoneBelow n (suc width)
next n width le below v low lt = by_place (split v width)
  where
    split : (a b : ℕ) → (a ≡ b) ⊎ (a ≢ b)
    split a b = grind arith

    by_place : (v ≡ width) ⊎ (v ≢ width) → 2 ^ v ≤ n
    by_place (inl same) = rw same le
    by_place (inr other) = let less : v < width = omega arith in below v low less

by_test : (more width n : ℕ) (b : Bool) → nat_lt n (2 ^ width) ≡ b → 1 ≤ width → NoneBelow n width
    → (2 ^ width ≤ n → IsLeastWidth n (width_from more (suc width) n)) → IsLeastWidth n (if b then width else width_from more (suc width) n)
by_test more width n true h positive below wider = let less : n < 2 ^ width = grind (arith, nat_tests) in here n width positive less below
by_test more width n false h positive below wider = let le : 2 ^ width ≤ n = grind (arith, nat_tests) in wider le

from : (more width n : ℕ) → 1 ≤ width → n < 2 ^ (width + more) → NoneBelow n width → IsLeastWidth n (width_from more width n)
unfolding width_from
from zero width n positive lt below = let same : width + 0 ≡ width = omega arith in here n width positive (rw same at lt) below
from (suc more) width n positive lt below =
    let same : width + suc more ≡ suc width + more = omega arith in
    let wider : n < 2 ^ (suc width + more) = rw same at lt in
    by_test more width n (nat_lt n (2 ^ width)) refl positive below (λ le. from more (suc width) n (omega arith) wider (next n width le below))

pub least_width-least : (n : ℕ) → n < 2 ^ 64 → IsLeastWidth n (least_width n)
unfolding least_width
least_width-least n lt = from 63 1 n (omega arith) lt (λ v low less. absurd (omega arith))
