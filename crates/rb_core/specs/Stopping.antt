-- Where pieces that are read one by one stop being the beginning of something whole. The pieces of a text are
-- its bytes, tokens or words, and `IsWhole` says which lists of them are whole.
use Rattle.std.specs.Prelude.{◌≡◌, ℕ, suc, ◌<◌, ◌≤◌, List, ◌++◌, length, take}

-- some whole list begins with the list xs; xs itself is such a list where it is whole
abbrev pub BeginsSome : {A : Type 0} → (List A → Type 0) → List A → Type 0
BeginsSome {A} IsWhole xs = (more : List A) × IsWhole (xs ++ more)

-- reading xs stops at `at`, counted from 0: the pieces before `at` begin something whole, and with the piece
-- there they do not, or no piece is there and they are not whole
pub record StopsAtIn {A : Type 0} (IsWhole : List A → Type 0) (xs : List A) (at : ℕ) : Type 0 where
  pub within : at ≤ length xs
  pub before : BeginsSome IsWhole (take at xs)
  pub here : at < length xs → BeginsSome IsWhole (take (suc at) xs) → ⊥
  pub at_end : at ≡ length xs → IsWhole xs → ⊥
