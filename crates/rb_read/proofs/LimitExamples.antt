-- Counts at their limit and over it, computed by the checker.
use Rattle.std.proofs.Common.{◌≡◌, ℕ, List, [], ◌∷◌, Some, None, refl}
use Rattle.std.proofs.Math.ListN.{replicate}
use Rattle.rb_syntax.specs.declared.tree.NameTree.{NameTree}
use Rattle.rb_syntax.specs.declared.tree.TyTree.TheVariants as ty
use Rattle.rb_syntax.specs.declared.tree.ConTree.{ConTree}
use Rattle.rb_syntax.specs.declared.tree.ItemTree.{ItemTree}
use Rattle.rb_syntax.specs.declared.tree.ItemTree.TheVariants as top
use Rattle.rb_read.specs.declared.fault.Quantity.TheVariants.{Types, Constructors, Fields}
use Rattle.rb_read.specs.Limits.{count_of, first_over}

abbrev named : ℕ → NameTree
named at = record { at = at; text = 65 ∷ [] }

abbrev con : ℕ → ConTree
con n = record { name = named 3; fields = replicate n (ty.Int 8) }

abbrev type_of : List ConTree → ItemTree
type_of cons = top.Types (record { name = named 1; cons = cons })

at-limit : first_over (record { items = type_of (replicate 256 (con 32)) ∷ [] }) ≡ None
at-limit = refl

over-fields : first_over (record { items = type_of (con 32 ∷ con 33 ∷ []) ∷ [] }) ≡ Some (count_of Fields 33)
over-fields = refl

-- a type's constructors are counted before the fields of each
over-constructors : first_over (record { items = type_of (replicate 257 (con 33)) ∷ [] }) ≡ Some (count_of Constructors 257)
over-constructors = refl

-- two types of 200 constructors are within the limit
two-types : first_over (record { items = type_of (replicate 200 (con 0)) ∷ type_of (replicate 200 (con 0)) ∷ [] }) ≡ None
two-types = refl

-- the types of a file are counted before all else
over-types : first_over (record { items = replicate 1001 (type_of (con 33 ∷ [])) }) ≡ Some (count_of Types 1001)
over-types = refl
