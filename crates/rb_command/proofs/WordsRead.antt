-- Numbers of words one after the other.
use Rattle.std.proofs.Common.{refl, sym, ap, ◌≡◌, ℕ, List, [], ◌∷◌, ◌++◌, append_assoc, Some, Result, Ok, Err}
use Rattle.rb_command.specs.inner.Parsing.{first_number}

-- these numbers, and then the others
abbrev pub prepended : List ℕ → Result (List ℕ) ℕ → Result (List ℕ) ℕ
prepended ns (Ok ms) = Ok (ns ++ ms)
prepended ns (Err n) = Err n

pub prepended-first : (ns : List ℕ) (at n : ℕ) (rest : Result (List ℕ) ℕ) → prepended ns (first_number at (Some n) rest) ≡ prepended (ns ++ n ∷ []) rest
prepended-first ns at n (Ok ms) = ap Ok (sym (append_assoc ns (n ∷ []) ms))
prepended-first ns at n (Err m) = refl

pub prepended-nil : (rest : Result (List ℕ) ℕ) → prepended [] rest ≡ rest
prepended-nil (Ok ms) = refl
prepended-nil (Err n) = refl
