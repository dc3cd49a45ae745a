-- Flat trees: the equations of folds, and a plain induction.
use Rattle.std.proofs.Common.{◌≡◌, ℕ, List, [], ◌∷◌, map, Some, None, subst}
use denote.Hole.Holds.{Such}
use Rattle.rb_core.specs.declared.layout_decl.Loc.{Loc}
pub use Rattle.rb_core.proofs.LayoutInduction.{Each}
use Rattle.rb_layout.specs.declared.layout.FlatArm.{FlatArm, FlatArm-F}
use Rattle.rb_layout.specs.declared.layout.FlatTree.{FlatTree}
use Rattle.rb_layout.specs.declared.layout.FlatTree as X
use Rattle.rb_layout.specs.declared.layout.FlatTree.TheBlock as Block
use Rattle.rb_layout.specs.declared.layout.FlatTree.TheViews.{roll-FlatArm}
use Rattle.rb_layout.specs.declared.layout.FlatTree.TheOpen as Layer
use Rattle.rb_layout.specs.declared.layout.FlatTree.TheOpen.{FlatTree-F}
use Rattle.rb_layout.specs.declared.layout.FlatTree.TheFolds as Folds
use Rattle.rb_layout.specs.declared.layout.FlatTree.TheFolds.{fold-FlatTree, fold-FlatArm, fold-roll-FlatTree}

module _ (A B : Type 0) (step : FlatTree-F A B → A) (arm_step : FlatArm-F A B → B) where
  pub fold-Leaf : (n : ℕ) → fold-FlatTree A B step arm_step (X.Leaf n) ≡ step (Layer.Leaf n)
  unfolding X.roll-FlatTree denote.Hole.Carrier.roll
  fold-Leaf n = fold-roll-FlatTree A B step arm_step (Layer.Leaf n)

  pub fold-Split : (loc : Loc) (arms : List FlatArm)
      → fold-FlatTree A B step arm_step (X.Split loc arms None) ≡ step (Layer.Split loc (map (fold-FlatArm A B step arm_step) arms) None)
  unfolding X.roll-FlatTree denote.Hole.Carrier.roll
  fold-Split loc arms = fold-roll-FlatTree A B step arm_step (Layer.Split loc arms None)

  pub fold-Split-else : (loc : Loc) (arms : List FlatArm) (other : FlatTree) → fold-FlatTree A B step arm_step (X.Split loc arms (Some other))
      ≡ step (Layer.Split loc (map (fold-FlatArm A B step arm_step) arms) (Some (fold-FlatTree A B step arm_step other)))
  unfolding X.roll-FlatTree denote.Hole.Carrier.roll
  fold-Split-else loc arms other = fold-roll-FlatTree A B step arm_step (Layer.Split loc arms (Some other))

-- what holds of each tree where it holds of what stands below it
pub record TreeCases (P : FlatTree → Type 0) : Type 0 where
  pub split : (loc : Loc) (arms : List FlatArm) → Each (λ (a : FlatArm). P a.under) arms → P (X.Split loc arms None)
  pub split_else : (loc : Loc) (arms : List FlatArm) (other : FlatTree) → Each (λ (a : FlatArm). P a.under) arms → P other → P (X.Split loc arms (Some other))
  pub leaf : (n : ℕ) → P (X.Leaf n)

module _ (P : FlatTree → Type 0) where
  abbrev InArm : FlatArm → Type 0
  InArm a = P a.under

  abbrev SubTree : Type 0
  SubTree = Such Block.the_family (Folds.claims P InArm) Block.member-FlatTree

  abbrev SubArm : Type 0
  SubArm = Such Block.the_family (Folds.claims P InArm) Block.member-FlatArm

  each_arm : (xs : List SubArm) → Each InArm (map (λ (x : SubArm). x.0) xs)
  each_arm [] = tt
  each_arm (x ∷ xs) = (x.1, each_arm xs)

  tree_layer : TreeCases P → (x : FlatTree-F FlatTree FlatArm) (y : FlatTree-F SubTree SubArm) →
      X.map-FlatTree SubTree SubArm FlatTree FlatArm (λ e. e.0) (λ e. e.0) y ≡ x → P (X.roll-FlatTree x)
  unfolding X.roll-FlatTree denote.Hole.Carrier.roll
  tree_layer cases x (Layer.Split loc arms None) e =
      subst (λ (l : FlatTree-F FlatTree FlatArm). P (X.roll-FlatTree l)) e (cases.split loc (map (λ (a : SubArm). a.0) arms) (each_arm arms))
  tree_layer cases x (Layer.Split loc arms (Some other)) e =
      subst (λ (l : FlatTree-F FlatTree FlatArm). P (X.roll-FlatTree l)) e
      (cases.split_else loc (map (λ (a : SubArm). a.0) arms) other.0 (each_arm arms) other.1)
  tree_layer cases x (Layer.Leaf n) e = subst (λ (l : FlatTree-F FlatTree FlatArm). P (X.roll-FlatTree l)) e (cases.leaf n)

  arm_layer : (x : FlatArm-F FlatTree FlatArm) (y : FlatArm-F SubTree SubArm) →
      Folds.map-FlatArm SubTree SubArm FlatTree FlatArm (λ e. e.0) (λ e. e.0) y ≡ x → InArm (roll-FlatArm x)
  unfolding denote.Hole.Carrier.roll
  arm_layer x y e = subst (λ (l : FlatArm-F FlatTree FlatArm). InArm (roll-FlatArm l)) e y.under.1

  pub tree-induction : TreeCases P → (x : FlatTree) → P x
  tree-induction cases = Folds.ind-FlatTree P InArm (tree_layer cases) arm_layer
