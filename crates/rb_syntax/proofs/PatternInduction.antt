-- Patterns of files: a plain induction.
use Rattle.std.proofs.Common.{◌≡◌, ℕ, List, [], ◌∷◌, map, subst}
use denote.Hole.Holds.{Such}
use Rattle.rb_syntax.specs.declared.tree.NameTree.{NameTree}
use Rattle.rb_syntax.specs.declared.tree.PatTree.{PatTree, Wild, Var, Num, Con, roll-PatTree}
use Rattle.rb_syntax.specs.declared.tree.PatTree as X
use Rattle.rb_syntax.specs.declared.tree.PatTree.TheBlock as Block
use Rattle.rb_syntax.specs.declared.tree.PatTree.TheFolds.{ind-PatTree, claims}
use Rattle.rb_syntax.specs.declared.tree.PatTree.TheOpen as Layer
use Rattle.rb_syntax.specs.declared.tree.PatTree.TheOpen.{PatTree-F}

-- of each pattern of a list
abbrev pub Each : (PatTree → Type 0) → List PatTree → Type 0
Each P [] = Unit {0}
Each P (p ∷ ps) = P p × Each P ps

-- what holds of the forms without subpatterns, and of constructors where it holds of each subpattern
pub record Cases (P : PatTree → Type 0) : Type 0 where
  pub wild : (at : ℕ) → P (Wild at)
  pub var : (at : ℕ) (name : NameTree) → P (Var at name)
  pub num : (at n : ℕ) → P (Num at n)
  pub con : (at : ℕ) (name : NameTree) (ps : List PatTree) → Each P ps → P (Con at name ps)

abbrev Sub : (PatTree → Type 0) → Type 0
Sub P = Such Block.the_family (claims P) Block.member-PatTree

each_sub : (P : PatTree → Type 0) (ps : List (Sub P)) → Each P (map (λ (e : Sub P). e.0) ps)
each_sub P [] = tt
each_sub P (e ∷ es) = (e.1, each_sub P es)

layer_step : (P : PatTree → Type 0) → Cases P → (x : PatTree-F PatTree) (y : PatTree-F (Sub P)) → X.map-PatTree (Sub P) PatTree (λ e. e.0) y ≡ x → P (roll-PatTree x)
unfolding X.roll-PatTree denote.Hole.Carrier.roll
layer_step P cases x (Layer.Wild at) e = subst (λ (l : PatTree-F PatTree). P (roll-PatTree l)) e (cases.wild at)
layer_step P cases x (Layer.Var at name) e = subst (λ (l : PatTree-F PatTree). P (roll-PatTree l)) e (cases.var at name)
layer_step P cases x (Layer.Num at n) e = subst (λ (l : PatTree-F PatTree). P (roll-PatTree l)) e (cases.num at n)
layer_step P cases x (Layer.Con at name ps) e =
    subst (λ (l : PatTree-F PatTree). P (roll-PatTree l)) e (cases.con at name (map (λ (p : Sub P). p.0) ps) (each_sub P ps))

pub induction : (P : PatTree → Type 0) → Cases P → (p : PatTree) → P p
induction P cases = ind-PatTree P (layer_step P cases)
