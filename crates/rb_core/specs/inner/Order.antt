-- Binders in the order of their numbers.
use Rattle.std.specs.Prelude.{ℕ, ◌-◌, ◌≤◌, List, length, slice_get, take, IfSome}
use Rattle.std.specs.List.Sorted.{IsNonDecreasingBy}
use Rattle.rb_core.specs.declared.typing.Binder.{Binder}

-- no number is below one that stands before it
abbrev pub AreInOrder : List Binder → Type 0
AreInOrder = IsNonDecreasingBy (λ b. b.var)

-- there are as many as n, and the first n of them are in order
abbrev pub HasOrderedHead : ℕ → List Binder → Type 0
HasOrderedHead n bs = (n ≤ length bs) × AreInOrder (take n bs)

-- a number is not below the last of these, where there is one
abbrev pub Follows : ℕ → List Binder → Type 0
Follows x bs = IfSome (slice_get bs (length bs - 1)) (λ b. b.var ≤ x)
