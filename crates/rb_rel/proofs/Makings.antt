-- The constructions that make a value, form by form.
use Rattle.std.proofs.Common.{◌≡◌, ℕ, map, List, [], ap}
use Rattle.rb_core.specs.declared.value.Value.{Value, Num, Con}
use Rattle.rb_core.specs.declared.value.Value as X
use Rattle.rb_core.specs.declared.value.Value.TheOpen as V
use Rattle.rb_core.specs.declared.value.Value.TheFolds.{para-roll-Value}
use Rattle.rb_core.specs.declared.types.Ty.{Ty}
use Rattle.rb_core.specs.declared.types.DataDecl.{DataDecl}
use Rattle.rb_rel.specs.Answers.{Making, making_step, making_of}

module _ (types : List DataDecl) where
  pub making-Num : (n : ℕ) (ty : Ty) → making_of types (Num n) ty ≡ []
  unfolding X.roll-Value denote.Hole.Carrier.roll
  making-Num n ty = ap (λ (f : Making). f ty) (para-roll-Value Making (making_step types) (V.Num n))

  pub making-Con : (k : ℕ) (vs : List Value) (ty : Ty) → making_of types (Con k vs) ty ≡ making_step types (V.Con k (map (λ v. (v, making_of types v)) vs)) ty
  unfolding X.roll-Value denote.Hole.Carrier.roll
  making-Con k vs ty = ap (λ (f : Making). f ty) (para-roll-Value Making (making_step types) (V.Con k vs))
