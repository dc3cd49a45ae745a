-- Pieces of a text, one after the other.
use Rattle.std.proofs.Common.{◌≡◌, ℕ, zero, suc, ◌+◌, List, [], ◌∷◌, ◌++◌, take, drop, refl, ap, arith, zero-add, ◌-◌, length, length-drop}
use Rattle.std.proofs.Math.Seq.{take-nil, take-length}

pub take-more : (n m : ℕ) (xs : List ℕ) → take n xs ++ take m (drop n xs) ≡ take (n + m) xs
take-more zero m xs = rw zero-add refl
take-more (suc n) m [] = let h : suc n + m ≡ suc (n + m) = omega arith in rw (h, take-nil) refl
take-more (suc n) m (x ∷ xs) = let h : suc n + m ≡ suc (n + m) = omega arith in rw h (ap (λ ys. x ∷ ys) (take-more n m xs))

pub rest_after : (n : ℕ) (xs : List ℕ) → take (length xs - n) (drop n xs) ≡ drop n xs
rest_after n xs = rw (← length-drop n xs) (take-length (drop n xs))
