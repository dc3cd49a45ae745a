-- Groups: numbers by their keys. The rows of a matrix are grouped so by the heads that they begin with: a row's key is
-- the number that its first pattern is, or that of the constructor with which it begins, and a row that begins with a
-- wildcard or a variable, or is empty, is without one. A row that has another key than a head has no specialised row
-- for it.
use Rattle.std.specs.Prelude.{◌≡◌, ℕ, List, [], ◌∷◌, ◌++◌, map, nat_lt, if◌then◌else◌, Option, Some, None, option_map, unwrap_or, slice_index_or}
use Rattle.std.specs.Ordering.{nat_cmp}
use Rattle.std.specs.BTreeMap as tree
use Rattle.rb_core.specs.declared.pattern.Pat.{Pat}
use Rattle.rb_matrix.specs.declared.matrix.Head.{Head}
use Rattle.rb_matrix.specs.declared.matrix.Head.TheVariants as H
use Rattle.rb_matrix.specs.declared.groups.Groups.{Groups}
use Rattle.rb_matrix.specs.Heads.{row_head}
use Rattle.rb_matrix.specs.Specialize.{special}

-- the number n in its place in an ascending list, where `rest` says what becomes of the numbers behind it: the
-- numbers up to n, then n, and then what `rest` makes of those above n
abbrev pub insertion : ℕ → (List ℕ → List ℕ) → List ℕ → List ℕ
insertion n rest [] = n ∷ rest []
insertion n rest (m ∷ ms) = if nat_lt n m then n ∷ rest (m ∷ ms) else m ∷ insertion n rest ms

-- two ascending lists of numbers as one that ascends
abbrev pub merge_of : List ℕ → List ℕ → List ℕ
merge_of [] ms = ms
merge_of (n ∷ ns) ms = insertion n (merge_of ns) ms

-- the numbers with key k; none where no number has it
abbrev pub numbers_with : Groups → ℕ → List ℕ
numbers_with x k = unwrap_or (tree.get nat_cmp x.by_key k) []

-- the numbers with key k and those without a key, as one list
abbrev pub near : Groups → ℕ → List ℕ
near x k = merge_of (numbers_with x k) x.keyless

-- no number is in the groups
abbrev pub HasNoNumber : Groups → Type 0
HasNoNumber x = (x.keyless ≡ []) × ((k : ℕ) → numbers_with x k ≡ [])

-- the new groups are the old ones with number i behind those with key k; all others stay
pub record IsGrouped (k i : ℕ) (old new : Groups) : Type 0 where
  pub keyless : new.keyless ≡ old.keyless
  pub here : numbers_with new k ≡ numbers_with old k ++ i ∷ []
  pub others : (q : ℕ) → (q ≡ k → ⊥) → numbers_with new q ≡ numbers_with old q

-- the new groups are the old ones with number i behind those with its key, or behind those without one
abbrev pub IsNumberAdded : Option ℕ → ℕ → Groups → Groups → Type 0
IsNumberAdded None i old new = (new.keyless ≡ old.keyless ++ i ∷ []) × (new.by_key ≡ old.by_key)
IsNumberAdded (Some k) i old new = IsGrouped k i old new

-- Rows by their heads -----------------------------------------------------------------------------

-- a head's key: the number that it is, or that of the constructor in its type
abbrev pub key_of_head : Head → ℕ
key_of_head (H.Num n) = n
key_of_head (H.Con c) = c.con

-- a row's key: that of its first pattern's head; None where the row begins with none
abbrev pub row_key : List Pat → Option ℕ
row_key r = option_map key_of_head (row_head r)

-- the rows with these numbers; the empty row, which has no specialised row, for a number that no row has
abbrev pub rows_at : List (List Pat) → List ℕ → List (List Pat)
rows_at rows ns = map (λ i. slice_index_or rows i []) ns

-- x serves for the specialised rows of all rows: those that x has with a head's key, and those that it has without
-- one, have together the specialised rows for the head that all rows have, in the same order. How x spreads the rows
-- over the groups is left open; it may have all of them without a key
abbrev pub AreGrouped : List (List Pat) → Groups → Type 0
AreGrouped rows x = (h : Head) (n : ℕ) → special h n (rows_at rows (near x (key_of_head h))) ≡ special h n rows
