-- The loops that look for constant bits and null pointers.
use Rattle.std.proofs.Common.{◌≡◌, ℕ, suc, ◌+◌, ◌-◌, ◌<◌, ◌&&◌, ◌||◌, List, drop, length, get_or, Bool, Option, refl, ap, add-one, drop-cons, arith}
use Rattle.std.specs.Option.{option_or}
use Rattle.std.specs.Int.{bit_at}
use Rattle.rb_layout.specs.declared.layout.Part.{Part}
use Rattle.rb_core.specs.declared.types.Ty.{Ty}
use Rattle.rb_core.specs.declared.types.DataDecl.{DataDecl}
use Rattle.rb_layout.specs.declared.layout.Leaf.{Leaf}
use Rattle.rb_layout.specs.declared.goals.Literal.{Literal}
use Rattle.rb_layout.specs.declared.goals.Goal.{Goal}
use Rattle.rb_layout.specs.Locations.{bit_of_part, constant_bit}
use Rattle.rb_layout.specs.inner.Barring.{is_other, bit_differs, null_at, null_in, part_barred, parts_barred, leaf_barred, leaves_barred}

pub bit-from : (ps : List Part) (k i : ℕ) (d : Part) → k < length ps
    → constant_bit (drop k ps) i ≡ option_or (bit_of_part (get_or ps k d) i) (constant_bit (drop (k + 1) ps) i)
bit-from ps k i d lt = rw (add-one, drop-cons ps k d) refl

pub null-from : (ps : List Part) (x : Literal) (k : ℕ) (d : Part) → k < length ps
    → null_in (drop k ps) x ≡ (null_at x (get_or ps k d) || null_in (drop (k + 1) ps) x)
null-from ps x k d lt = rw (add-one, drop-cons ps k d) refl

pub differs-from : (ps : List Part) (o c i l : ℕ) → i < l
    → bit_differs ps o c i (l - i) ≡ (is_other (constant_bit ps (o + i)) (bit_at c i) || bit_differs ps o c (i + 1) (l - (i + 1)))
differs-from ps o c i l lt = let e : l - i ≡ suc (l - (i + 1)) = omega arith in ap (λ n. bit_differs ps o c i n) e

pub part-from : (known : Goal → Bool) (type_of : List ℕ → Option Ty) (x : Literal) (ps : List Part) (k : ℕ) (d : Part) → k < length ps
    → parts_barred known type_of x (drop k ps) ≡ (part_barred known type_of x (get_or ps k d) || parts_barred known type_of x (drop (k + 1) ps))
part-from known type_of x ps k d lt = rw (add-one, drop-cons ps k d) refl

pub leaf-from : (known : Goal → Bool) (types : List DataDecl) (g : Goal) (xs : List Leaf) (k : ℕ) (d : Leaf) → k < length xs
    → leaves_barred known types g (drop k xs) ≡ (leaf_barred known types g (get_or xs k d) && leaves_barred known types g (drop (k + 1) xs))
leaf-from known types g xs k d lt = rw (add-one, drop-cons xs k d) refl

pub ruleset barring = (bit-from, null-from, differs-from, part-from, leaf-from)
