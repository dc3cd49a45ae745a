-- Heads that are known. A head is a number or a constructor with which a pattern or a value begins. Two are alike
-- where they are the same number, or constructors with the same number in their types. The heads of a first column
-- are gathered one row after another, of heads alike only the first. Beside them stands the set of them, so that one
-- is found without a look at each head.
use Rattle.std.specs.Prelude.{◌≡◌, ℕ, List, [], ◌∷◌, ◌++◌, Bool, if◌then◌else◌, Option, Some, None}
use Rattle.std.specs.Ordering.{nat_cmp}
use Rattle.std.specs.BTreeSet as tree
use Rattle.rb_core.specs.declared.value.Value.{Value}
use Rattle.rb_core.specs.declared.value.Value.TheOpen as V
use Rattle.rb_core.specs.declared.value.Value.TheOpen.{Value-F}
use Rattle.rb_matrix.specs.declared.head_set.HeadSet.{HeadSet}
use Rattle.rb_matrix.specs.declared.matrix.Head.{Head}
use Rattle.rb_matrix.specs.declared.numbers.Numbers.{Numbers}
use Rattle.rb_matrix.specs.Heads.{any_begins, sample}

-- the known heads with one more at the end; the known ones alone where there is no head to add, or where one like it
-- is known
abbrev pub with_head : List Head → Option Head → List Head
with_head known None = known
with_head known (Some h) = if any_begins known (sample h) then known else known ++ h ∷ []

-- whether a number is in a set
abbrev pub has : Numbers → ℕ → Bool
has s n = tree.contains nat_cmp s.held n

-- whether a value, given by its layer, begins with a head in a set
abbrev pub holds : HeadSet → Value-F Value → Bool
holds s (V.Num n) = has s.numbers n
holds s (V.Con k vs) = has s.cons k

-- a set is that of some heads: the same values begin with a head in it and with one of these
abbrev pub AreHeadsOf : HeadSet → List Head → Type 0
AreHeadsOf s hs = (l : Value-F Value) → holds s l ≡ any_begins hs l
