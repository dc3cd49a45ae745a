-- Patterns: the equations of folds, and a plain induction.
use Rattle.std.proofs.Common.{◌≡◌, ℕ, List, [], ◌∷◌, map, subst}
use denote.Hole.Holds.{Such}
use Rattle.rb_core.specs.declared.types.ConRef.{ConRef}
use Rattle.rb_core.specs.declared.pattern.Pat.{Pat, Wild, Var, Num, Con, roll-Pat}
use Rattle.rb_core.specs.declared.pattern.Pat as X
use Rattle.rb_core.specs.declared.pattern.Pat.TheBlock as Block
use Rattle.rb_core.specs.declared.pattern.Pat.TheFolds.{fold-Pat, fold-roll-Pat, ind-Pat, claims}
use Rattle.rb_core.specs.declared.pattern.Pat.TheOpen as Layer
use Rattle.rb_core.specs.declared.pattern.Pat.TheOpen.{Pat-F}

module _ (A : Type 0) (step : Pat-F A → A) where
  pub fold-Wild : (at : ℕ) → fold-Pat A step (Wild at) ≡ step (Layer.Wild at)
  unfolding X.roll-Pat denote.Hole.Carrier.roll
  fold-Wild at = fold-roll-Pat A step (Layer.Wild at)

  pub fold-Var : (at x : ℕ) → fold-Pat A step (Var at x) ≡ step (Layer.Var at x)
  unfolding X.roll-Pat denote.Hole.Carrier.roll
  fold-Var at x = fold-roll-Pat A step (Layer.Var at x)

  pub fold-Num : (at n : ℕ) → fold-Pat A step (Num at n) ≡ step (Layer.Num at n)
  unfolding X.roll-Pat denote.Hole.Carrier.roll
  fold-Num at n = fold-roll-Pat A step (Layer.Num at n)

  pub fold-Con : (at : ℕ) (c : ConRef) (ps : List Pat) → fold-Pat A step (Con at c ps) ≡ step (Layer.Con at c (map (fold-Pat A step) ps))
  unfolding X.roll-Pat denote.Hole.Carrier.roll
  fold-Con at c ps = fold-roll-Pat A step (Layer.Con at c ps)

-- of each pattern of a list
abbrev pub Each : (Pat → Type 0) → List Pat → Type 0
Each P [] = Unit {0}
Each P (p ∷ ps) = P p × Each P ps

-- what holds of the forms without subpatterns, and of constructors where it holds of each subpattern
pub record Cases (P : Pat → Type 0) : Type 0 where
  pub wild : (at : ℕ) → P (Wild at)
  pub var : (at x : ℕ) → P (Var at x)
  pub num : (at n : ℕ) → P (Num at n)
  pub con : (at : ℕ) (c : ConRef) (ps : List Pat) → Each P ps → P (Con at c ps)

abbrev Sub : (Pat → Type 0) → Type 0
Sub P = Such Block.the_family (claims P) Block.member-Pat

each_sub : (P : Pat → Type 0) (ps : List (Sub P)) → Each P (map (λ (e : Sub P). e.0) ps)
each_sub P [] = tt
each_sub P (e ∷ es) = (e.1, each_sub P es)

layer_step : (P : Pat → Type 0) → Cases P → (x : Pat-F Pat) (y : Pat-F (Sub P)) → X.map-Pat (Sub P) Pat (λ e. e.0) y ≡ x → P (roll-Pat x)
unfolding X.roll-Pat denote.Hole.Carrier.roll
layer_step P cases x (Layer.Wild at) e = subst (λ (l : Pat-F Pat). P (roll-Pat l)) e (cases.wild at)
layer_step P cases x (Layer.Var at v) e = subst (λ (l : Pat-F Pat). P (roll-Pat l)) e (cases.var at v)
layer_step P cases x (Layer.Num at n) e = subst (λ (l : Pat-F Pat). P (roll-Pat l)) e (cases.num at n)
layer_step P cases x (Layer.Con at c ps) e = subst (λ (l : Pat-F Pat). P (roll-Pat l)) e (cases.con at c (map (λ (p : Sub P). p.0) ps) (each_sub P ps))

pub induction : (P : Pat → Type 0) → Cases P → (p : Pat) → P p
induction P cases = ind-Pat P (layer_step P cases)
