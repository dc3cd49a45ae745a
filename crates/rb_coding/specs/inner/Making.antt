-- What making one node comes to: the words of a value, once those of its fields are known. A leaf is the form that a
-- layout has for some values of a data type, with root words and blocks. `old` and `new` are the memory before and
-- after.
use Rattle.std.specs.Prelude.{◌≡◌, ℕ, List, [], ◌∷◌, Some, Result, Ok, Err}
use Rattle.rb_core.specs.declared.value.Value.{Value, Num}
use Rattle.rb_core.specs.declared.types.Ty.{Ty}
use Rattle.rb_core.specs.declared.types.Ty.TheVariants.{Int, Named}
use Rattle.rb_bytes.specs.Memory.{Memory}
use Rattle.rb_layout.specs.declared.layout.Layout.{Layout}
use Rattle.rb_layout.specs.declared.layout.Leaf.{Leaf}
use Rattle.rb_layout.specs.Positions.{layout_of}
use Rattle.rb_rel.specs.Placing.{leaf_in}
use Rattle.rb_coding.specs.declared.fault.EncodeFault.{EncodeFault}
use Rattle.rb_coding.specs.declared.fault.EncodeFault.TheVariants.{Full, Memory as NoMemory}
use Rattle.rb_coding.specs.inner.Filling.{ArePlaceable, IsMade}

-- a value can be made at a type: at an integer type it is a number, and at a data type it has
-- a leaf, whose blocks can be placed
abbrev pub ValueIsReady : List Layout → Ty → Value → Type 0
ValueIsReady layouts (Int bits) v = (n : ℕ) × (v ≡ Num n)
ValueIsReady layouts (Named t) v =
    (leaf : Leaf) × (leaf_in (layout_of layouts t) v ≡ Some leaf) × ArePlaceable leaf.blocks

-- what making a number may come to: the number is its only word, and the memory stays; there is no block that could
-- not fit, and want of memory says nothing
abbrev pub IsNumber : Value → Memory → Memory → Result (List ℕ) EncodeFault → Type 0
IsNumber v old new (Ok ws) = (n : ℕ) × (v ≡ Num n) × (ws ≡ n ∷ []) × (new ≡ old)
IsNumber v old new (Err (Full full)) = ⊥
IsNumber v old new (Err NoMemory) = Unit {0}

-- what making a value at a type may come to: the word of a number is itself, and a value of a data type has the words
-- of its leaf, where `subs` has the words of the field at a path
abbrev pub IsNodeMade : List Layout → Ty → Value → (List ℕ → List ℕ) → Memory → Memory → Result (List ℕ) EncodeFault
    → Type 0
IsNodeMade layouts (Int bits) v subs old new result = IsNumber v old new result
IsNodeMade layouts (Named t) v subs old new result =
    (leaf : Leaf) × (leaf_in (layout_of layouts t) v ≡ Some leaf) × IsMade subs leaf old new result
