-- The first pattern that is absent from heads.
use Rattle.std.proofs.Common.{◌≡◌, ℕ, List, [], ◌∷◌, length, refl}
use Rattle.rb_core.specs.declared.types.Ty.TheVariants.{Int, Named}
use Rattle.rb_core.specs.declared.types.DataDecl.{DataDecl}
use Rattle.rb_core.specs.declared.pattern.Pat.{Pat}
use Rattle.rb_matrix.specs.declared.matrix.Head.{Head}
use Rattle.rb_matrix.specs.Signature.{IsLeastNumber, IsFirstCon, IsFirstAbsent}

pub none-first : (types : List DataDecl) (ty : Rattle.rb_core.specs.declared.types.Ty.Ty) (hs : List Head) (q : Pat) → hs ≡ [] → IsFirstAbsent types ty [] q → IsFirstAbsent types ty hs q
none-first types ty [] q e h = h
none-first types ty (g ∷ hs) q e h = cc

pub number-first : (types : List DataDecl) (bits : ℕ) (hs : List Head) (q : Pat) → (length hs ≡ 0 → ⊥) → IsLeastNumber hs q → IsFirstAbsent types (Int bits) hs q
number-first types bits [] q some h = absurd (some refl)
number-first types bits (g ∷ hs) q some h = h

pub con-first : (types : List DataDecl) (t : ℕ) (hs : List Head) (q : Pat) → (length hs ≡ 0 → ⊥) → IsFirstCon types t hs q → IsFirstAbsent types (Named t) hs q
con-first types t [] q some h = absurd (some refl)
con-first types t (g ∷ hs) q some h = h
