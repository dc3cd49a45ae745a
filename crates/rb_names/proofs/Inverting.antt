-- What was found where numbering found something.
use Rattle.std.proofs.Common.{◌≡◌, ℕ, Option, Some, None, Ok, Err, refl, ap}
use Rattle.rb_syntax.specs.declared.tree.NameTree.{NameTree}
use Rattle.rb_names.specs.Numbering.{Resolved, Numbered, numbered_as, and_then, name_found}

pub then-ok : {A B : Type 0} (r : Resolved A) (f : A → Resolved B) (y : B) → and_then r f ≡ Ok y → (x : A) × (r ≡ Ok x) × (f x ≡ Ok y)
then-ok (Ok x) f y e = (x, refl, e)
then-ok (Err fault) f y e = absurd cc

pub known-ok : {A : Type 0} (name : NameTree) (o : Option A) (x : A) → name_found name o ≡ Ok x → o ≡ Some x
known-ok name None x e = absurd cc
known-ok name (Some a) x e = cc

pub ok-is : {A : Type 0} (x y : A) → (let r : Resolved A = Ok x in r) ≡ Ok y → x ≡ y
ok-is x y e = cc

pub made-is : {A : Type 0} (x : A) (next : ℕ) (y : Numbered A) → numbered_as x next ≡ Ok y → x ≡ y.what
made-is x next y e = ap (λ n. n.what) (ok-is (record { what = x; next = next }) y e)
