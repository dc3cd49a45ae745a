-- Lists of slots, and code that moves words between them.
use Rattle.std.specs.Prelude.{◌≡◌, ℕ, zero, suc, ◌+◌, ◌<◌, ◌≤◌, ◌⊎◌, List, [], ◌∷◌, ◌++◌, length}
use Rattle.rb_target.specs.declared.instr.Instr.{Instr}
use Rattle.rb_target.specs.declared.instr.Instr.TheVariants.{Copy, Jump}
use Rattle.rb_target.specs.Sheet.{Sheet}

-- each number of a list is below n
abbrev pub AllBelow : ℕ → List ℕ → Type 0
AllBelow n [] = Unit {0}
AllBelow n (x ∷ xs) = (x < n) × AllBelow n xs

-- each number of a list is n or more
abbrev pub AllFrom : ℕ → List ℕ → Type 0
AllFrom n [] = Unit {0}
AllFrom n (x ∷ xs) = (n ≤ x) × AllFrom n xs

-- n is one of the numbers of a list
abbrev pub IsOneOf : ℕ → List ℕ → Type 0
IsOneOf n [] = ⊥
IsOneOf n (x ∷ xs) = (n ≡ x) ⊎ IsOneOf n xs

-- no slot of the one list is in the other
abbrev pub SlotsAreApart : List ℕ → List ℕ → Type 0
SlotsAreApart ds fs = (x : ℕ) → IsOneOf x ds → IsOneOf x fs → ⊥

-- no number stands twice in a list
abbrev pub IsDistinct : List ℕ → Type 0
IsDistinct [] = Unit {0}
IsDistinct (x ∷ xs) = (IsOneOf x xs → ⊥) × IsDistinct xs

-- so many slots in a row, from slot a on
abbrev pub slots_from : ℕ → ℕ → List ℕ
slots_from a zero = []
slots_from a (suc k) = a ∷ slots_from (a + 1) k

-- a sheet with k more slots in use, and the same code
abbrev pub with_slots : Sheet → ℕ → Sheet
with_slots b k = record b { slots = b.slots + k }

-- instructions that copy the words of the slots fs to the slots ds, one after the other, as far as both lists go
abbrev pub copies : List ℕ → List ℕ → List Instr
copies [] fs = []
copies (d ∷ ds) [] = []
copies (d ∷ ds) (f ∷ fs) = Copy d f ∷ copies ds fs

-- code behind that of b: the words of `froms` are copied to the slots `into`, which several ways share, and a jump,
-- which is to be set, leads to where the ways meet
abbrev pub with_join : Sheet → List ℕ → List ℕ → Sheet
with_join b into froms =
    record b { code = b.code ++ (copies into froms ++ Jump (length b.code + length (copies into froms) + 1) ∷ []) }
