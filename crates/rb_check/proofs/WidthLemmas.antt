-- The search for the least width, width by width.
use Rattle.std.proofs.Common.{◌≡◌, ℕ, ◌+◌, ◌-◌, ◌^◌, ◌<◌, ◌≤◌, suc, arith, refl, add-one}
use Rattle.std.proofs.lemmas.Bool.Decides.{nat_tests}
use Rattle.rb_core.specs.Typing.{width_from}

from_wider : (k width n : ℕ) → 2 ^ width ≤ n → width_from (suc k) width n ≡ width_from k (suc width) n
unfolding width_from
from_wider k width n le = grind (arith, nat_tests)

from_here : (k width n : ℕ) → n < 2 ^ width → width_from (suc k) width n ≡ width
unfolding width_from
from_here k width n lt = grind (arith, nat_tests)

pub width_from-wider : (width n : ℕ) → width < 64 → 2 ^ width ≤ n → width_from (64 - width) width n ≡ width_from (64 - (width + 1)) (width + 1) n
width_from-wider width n lt le =
    let k : 64 - width ≡ suc (64 - (width + 1)) = omega arith in rw (k, add-one width) (from_wider (64 - suc width) width n le)

pub width_from-here : (width n : ℕ) → width < 64 → n < 2 ^ width → width_from (64 - width) width n ≡ width
width_from-here width n lt le = let k : 64 - width ≡ suc (63 - width) = omega arith in rw k (from_here (63 - width) width n le)

pub width_from-last : (width n : ℕ) → 64 ≤ width → width_from (64 - width) width n ≡ width
unfolding width_from
width_from-last width n le = let k : 64 - width ≡ 0 = omega arith in rw k refl

pub ruleset width_rules = (width_from-wider, width_from-here, width_from-last)
