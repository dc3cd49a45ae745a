-- Lists from a place on.
use Rattle.std.proofs.Common.{◌≡◌, ℕ, zero, suc, ◌<◌, List, [], ◌∷◌, drop, length, get_or, refl, arith}

pub drop-here : {A : Type 0} (xs : List A) (i : ℕ) (x : A) → i < length xs → x ≡ get_or xs i x → drop i xs ≡ x ∷ drop (suc i) xs
drop-here [] i x lt is = absurd (omega arith)
drop-here (y ∷ xs) zero x lt is = rw is refl
drop-here (y ∷ xs) (suc i) x lt is = drop-here xs i x (omega arith) is
