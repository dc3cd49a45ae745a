-- What the searches for an absent number and for an absent constructor answer. A head is a number or a constructor with
-- which a value begins.
use Rattle.std.specs.Prelude.{◌≡◌, ℕ, ◌<◌, ◌≤◌, List, [], true, Option, Some, None}
use Rattle.rb_core.specs.declared.value.Value.TheOpen as V
use Rattle.rb_matrix.specs.declared.matrix.Head.{Head}
use Rattle.rb_matrix.specs.Heads.{any_begins}
use Rattle.rb_matrix.specs.Signature.{IsFirstOut}

-- what is answered of the numbers up to `most`: None where each of them is one of the heads, and else the least
-- number that is none of them, which is one of these
abbrev pub IsNumberAnswer : List Head → ℕ → Option ℕ → Type 0
IsNumberAnswer hs most None = (m : ℕ) → m ≤ most → any_begins hs (V.Num m) ≡ true
IsNumberAnswer hs most (Some n) = (n ≤ most) × IsFirstOut (λ m. any_begins hs (V.Num m)) n

-- what is answered of the constructors with numbers below `count`: None where each of them is one of the heads, and
-- else the number of the first constructor that is none of them, which is one of these
abbrev pub IsConAnswer : List Head → ℕ → Option ℕ → Type 0
IsConAnswer hs count None = (c : ℕ) → c < count → any_begins hs (V.Con c []) ≡ true
IsConAnswer hs count (Some k) = (k < count) × IsFirstOut (λ c. any_begins hs (V.Con c [])) k
