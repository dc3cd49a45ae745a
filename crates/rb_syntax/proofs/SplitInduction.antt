-- Splits' trees: a plain induction.
use Rattle.std.proofs.Common.{◌≡◌, ℕ, List, [], ◌∷◌, map, Some, None, subst}
use denote.Hole.Holds.{Such}
use Rattle.rb_core.specs.declared.layout_decl.Loc.{Loc}
use Rattle.rb_core.specs.declared.layout_decl.LayItem.{LayItem}
use Rattle.rb_core.proofs.LayoutInduction.{Each}
use Rattle.rb_syntax.specs.declared.tree.PatTree.{PatTree}
use Rattle.rb_syntax.specs.declared.tree.ArmTree.{ArmTree, ArmTree-F}
use Rattle.rb_syntax.specs.declared.tree.SplitTree.{SplitTree}
use Rattle.rb_syntax.specs.declared.tree.SplitTree as S
use Rattle.rb_syntax.specs.declared.tree.SplitTree.TheBlock as TreeBlock
use Rattle.rb_syntax.specs.declared.tree.SplitTree.TheViews.{roll-ArmTree}
use Rattle.rb_syntax.specs.declared.tree.SplitTree.TheOpen as split
use Rattle.rb_syntax.specs.declared.tree.SplitTree.TheOpen.{SplitTree-F}
use Rattle.rb_syntax.specs.declared.tree.SplitTree.TheFolds as TreeFolds

-- what holds of each tree where it holds of what stands below it
pub record TreeCases (P : SplitTree → Type 0) : Type 0 where
  pub split : (loc : Loc) (arms : List ArmTree) → Each (λ (a : ArmTree). P a.under) arms → P (S.Split loc arms None)
  pub split_else : (loc : Loc) (arms : List ArmTree) (other : SplitTree) → Each (λ (a : ArmTree). P a.under) arms → P other → P (S.Split loc arms (Some other))
  pub leaf : (at : ℕ) (prov : PatTree) (items : List LayItem) → P (S.Leaf at prov items)

module _ (P : SplitTree → Type 0) where
  abbrev InArm : ArmTree → Type 0
  InArm a = P a.under

  abbrev SubTree : Type 0
  SubTree = Such TreeBlock.the_family (TreeFolds.claims P InArm) TreeBlock.member-SplitTree

  abbrev SubArm : Type 0
  SubArm = Such TreeBlock.the_family (TreeFolds.claims P InArm) TreeBlock.member-ArmTree

  each_arm : (xs : List SubArm) → Each InArm (map (λ (x : SubArm). x.0) xs)
  each_arm [] = tt
  each_arm (x ∷ xs) = (x.1, each_arm xs)

  tree_layer : TreeCases P → (x : SplitTree-F SplitTree ArmTree) (y : SplitTree-F SubTree SubArm) →
      S.map-SplitTree SubTree SubArm SplitTree ArmTree (λ e. e.0) (λ e. e.0) y ≡ x → P (S.roll-SplitTree x)
  unfolding S.roll-SplitTree denote.Hole.Carrier.roll
  tree_layer cases x (split.Split loc arms None) e =
      subst (λ (l : SplitTree-F SplitTree ArmTree). P (S.roll-SplitTree l)) e (cases.split loc (map (λ (a : SubArm). a.0) arms) (each_arm arms))
  tree_layer cases x (split.Split loc arms (Some other)) e =
      subst (λ (l : SplitTree-F SplitTree ArmTree). P (S.roll-SplitTree l)) e
      (cases.split_else loc (map (λ (a : SubArm). a.0) arms) other.0 (each_arm arms) other.1)
  tree_layer cases x (split.Leaf at prov items) e = subst (λ (l : SplitTree-F SplitTree ArmTree). P (S.roll-SplitTree l)) e (cases.leaf at prov items)

  arm_layer : (x : ArmTree-F SplitTree ArmTree) (y : ArmTree-F SubTree SubArm) →
      TreeFolds.map-ArmTree SubTree SubArm SplitTree ArmTree (λ e. e.0) (λ e. e.0) y ≡ x → InArm (roll-ArmTree x)
  unfolding denote.Hole.Carrier.roll
  arm_layer x y e = subst (λ (l : ArmTree-F SplitTree ArmTree). InArm (roll-ArmTree l)) e y.under.1

  pub tree-induction : TreeCases P → (x : SplitTree) → P x
  tree-induction cases = TreeFolds.ind-SplitTree P InArm (tree_layer cases) arm_layer
