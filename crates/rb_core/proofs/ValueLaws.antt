-- Values: the equations of folds, and a plain induction, which serves as case analysis too.
use Rattle.std.proofs.Common.{◌≡◌, ℕ, Bool, ◌+◌, List, [], ◌∷◌, ap, map, sum, subst}
use denote.Hole.Holds.{Such}
use Rattle.rb_core.specs.declared.value.Value.{Value, Num, Con, roll-Value}
use Rattle.rb_core.specs.declared.value.Value as X
use Rattle.rb_core.specs.declared.value.Value.TheVariants.{outs-Num, outs-Con}
use Rattle.rb_core.specs.declared.value.Value.TheBlock as Block
use Rattle.rb_core.specs.declared.value.Value.TheFolds.{fold-Value, fold-roll-Value, ind-Value, claims}
use Rattle.rb_core.specs.declared.value.Value.TheOpen as Layer
use Rattle.rb_core.specs.declared.value.Value.TheOpen.{Value-F}
use Rattle.rb_core.specs.declared.types.Ty.{Ty}
use Rattle.rb_core.specs.declared.types.DataDecl.{DataDecl}
use Rattle.rb_core.specs.Values.{subs, subs_in, node_count, nodes_step, is_of_type, of_type_step}

pub subs-Num : (n : ℕ) → subs (Num n) ≡ []
subs-Num n = ap subs_in (outs-Num n)

pub subs-Con : (k : ℕ) (vs : List Value) → subs (Con k vs) ≡ vs
subs-Con k vs = ap subs_in (outs-Con k vs)

pub fold-Num : (A : Type 0) (step : Value-F A → A) (n : ℕ) → fold-Value A step (Num n) ≡ step (Layer.Num n)
unfolding X.roll-Value denote.Hole.Carrier.roll
fold-Num A step n = fold-roll-Value A step (Layer.Num n)

pub fold-Con : (A : Type 0) (step : Value-F A → A) (k : ℕ) (vs : List Value) → fold-Value A step (Con k vs) ≡ step (Layer.Con k (map (fold-Value A step) vs))
unfolding X.roll-Value denote.Hole.Carrier.roll
fold-Con A step k vs = fold-roll-Value A step (Layer.Con k vs)

pub node_count-Num : (n : ℕ) → node_count (Num n) ≡ 1
node_count-Num n = fold-Num ℕ nodes_step n

pub node_count-Con : (k : ℕ) (vs : List Value) → node_count (Con k vs) ≡ 1 + sum (map node_count vs)
node_count-Con k vs = fold-Con ℕ nodes_step k vs

module _ (types : List DataDecl) where
  pub is_of_type-Num : (n : ℕ) (t : Ty) → is_of_type types (Num n) t ≡ of_type_step types (Layer.Num n) t
  is_of_type-Num n t = ap (λ (r : Ty → Bool). r t) (fold-Num (Ty → Bool) (of_type_step types) n)

  pub is_of_type-Con : (k : ℕ) (vs : List Value) (t : Ty) → is_of_type types (Con k vs) t ≡ of_type_step types (Layer.Con k (map (is_of_type types) vs)) t
  is_of_type-Con k vs t = ap (λ (r : Ty → Bool). r t) (fold-Con (Ty → Bool) (of_type_step types) k vs)

pub ruleset value_rules = (subs-Num, subs-Con, node_count-Num, node_count-Con, is_of_type-Num, is_of_type-Con, outs-Num, outs-Con)

-- of each value of a list
abbrev pub Each : (Value → Type 0) → List Value → Type 0
Each P [] = Unit {0}
Each P (v ∷ vs) = P v × Each P vs

abbrev Sub : (Value → Type 0) → Type 0
Sub P = Such Block.the_family (claims P) Block.member-Value

each_sub : (P : Value → Type 0) (ps : List (Sub P)) → Each P (map (λ (e : Sub P). e.0) ps)
each_sub P [] = tt
each_sub P (e ∷ es) = (e.1, each_sub P es)

layer_step : (P : Value → Type 0) → ((n : ℕ) → P (Num n)) → ((k : ℕ) (vs : List Value) → Each P vs → P (Con k vs)) →
    (x : Value-F Value) (y : Value-F (Sub P)) → X.map-Value (Sub P) Value (λ e. e.0) y ≡ x → P (roll-Value x)
unfolding X.roll-Value denote.Hole.Carrier.roll
layer_step P num con x (Layer.Num n) e = subst (λ (l : Value-F Value). P (roll-Value l)) e (num n)
layer_step P num con x (Layer.Con k ps) e = subst (λ (l : Value-F Value). P (roll-Value l)) e (con k (map (λ (p : Sub P). p.0) ps) (each_sub P ps))

-- what holds of numbers, and of constructions where it holds of each subvalue, holds of each value
pub induction : (P : Value → Type 0) → ((n : ℕ) → P (Num n)) → ((k : ℕ) (vs : List Value) → Each P vs → P (Con k vs)) → (v : Value) → P v
induction P num con = ind-Value P (layer_step P num con)
