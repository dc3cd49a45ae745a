-- Written items and trees: the equations of folds.
use Rattle.std.proofs.Common.{◌≡◌, ℕ, List, map, Some, None}
use Rattle.rb_core.specs.declared.pattern.Pat.{Pat}
use Rattle.rb_core.specs.declared.layout_decl.Loc.{Loc}
use Rattle.rb_core.specs.declared.layout_decl.PartDecl.{PartDecl, PartDecl-F}
use Rattle.rb_core.specs.declared.layout_decl.PartKind as K
use Rattle.rb_core.specs.declared.layout_decl.LayItem.{LayItem}
use Rattle.rb_core.specs.declared.layout_decl.LayItem as I
use Rattle.rb_core.specs.declared.layout_decl.LayItem.TheViews.{roll-PartKind}
use Rattle.rb_core.specs.declared.layout_decl.LayItem.TheOpen as item
use Rattle.rb_core.specs.declared.layout_decl.LayItem.TheOpen.{LayItem-F, PartKind-F}
use Rattle.rb_core.specs.declared.layout_decl.LayItem.TheFolds.{fold-LayItem, fold-PartKind, fold-PartDecl, fold-roll-LayItem, fold-roll-PartKind}
use Rattle.rb_core.specs.declared.layout_decl.Arm.{Arm, Arm-F}
use Rattle.rb_core.specs.declared.layout_decl.LayTree.{LayTree}
use Rattle.rb_core.specs.declared.layout_decl.LayTree as S
use Rattle.rb_core.specs.declared.layout_decl.LayTree.TheOpen as split
use Rattle.rb_core.specs.declared.layout_decl.LayTree.TheOpen.{LayTree-F}
use Rattle.rb_core.specs.declared.layout_decl.LayTree.TheFolds.{fold-LayTree, fold-Arm, fold-roll-LayTree}

module _ (A B C : Type 0) (step : LayItem-F A B C → A) (kind_step : PartKind-F A B C → B) (part_step : PartDecl-F A B C → C) where
  pub fold-Word : (width : ℕ) (parts : List PartDecl)
      → fold-LayItem A B C step kind_step part_step (I.Word width parts) ≡ step (item.LayItem::Word width (map (fold-PartDecl A B C step kind_step part_step) parts))
  unfolding I.roll-LayItem denote.Hole.Carrier.roll
  fold-Word width parts = fold-roll-LayItem A B C step kind_step part_step (item.LayItem::Word width parts)

  pub fold-Inline : (path : List ℕ) → fold-LayItem A B C step kind_step part_step (I.Inline path) ≡ step (item.Inline path)
  unfolding I.roll-LayItem denote.Hole.Carrier.roll
  fold-Inline path = fold-roll-LayItem A B C step kind_step part_step (item.Inline path)

  pub fold-Const : (c : ℕ) → fold-PartKind A B C step kind_step part_step (K.Const c) ≡ kind_step (item.Const c)
  unfolding roll-PartKind denote.Hole.Carrier.roll
  fold-Const c = fold-roll-PartKind A B C step kind_step part_step (item.Const c)

  pub fold-Whole : (path : List ℕ) → fold-PartKind A B C step kind_step part_step (K.Whole path) ≡ kind_step (item.Whole path)
  unfolding roll-PartKind denote.Hole.Carrier.roll
  fold-Whole path = fold-roll-PartKind A B C step kind_step part_step (item.Whole path)

  pub fold-Slice : (path : List ℕ) (a k : ℕ) → fold-PartKind A B C step kind_step part_step (K.Slice path a k) ≡ kind_step (item.Slice path a k)
  unfolding roll-PartKind denote.Hole.Carrier.roll
  fold-Slice path a k = fold-roll-PartKind A B C step kind_step part_step (item.Slice path a k)

  pub fold-WordOf : (path : List ℕ) (j : ℕ) → fold-PartKind A B C step kind_step part_step (K.Word path j) ≡ kind_step (item.PartKind::Word path j)
  unfolding roll-PartKind denote.Hole.Carrier.roll
  fold-WordOf path j = fold-roll-PartKind A B C step kind_step part_step (item.PartKind::Word path j)

  pub fold-Pointer : (align : ℕ) (items : List LayItem)
      → fold-PartKind A B C step kind_step part_step (K.Pointer align items) ≡ kind_step (item.Pointer align (map (fold-LayItem A B C step kind_step part_step) items))
  unfolding roll-PartKind denote.Hole.Carrier.roll
  fold-Pointer align items = fold-roll-PartKind A B C step kind_step part_step (item.Pointer align items)

module _ (A B : Type 0) (step : LayTree-F A B → A) (arm_step : Arm-F A B → B) where
  pub fold-Leaf : (at : ℕ) (prov : Pat) (items : List LayItem) → fold-LayTree A B step arm_step (S.Leaf at prov items) ≡ step (split.Leaf at prov items)
  unfolding S.roll-LayTree denote.Hole.Carrier.roll
  fold-Leaf at prov items = fold-roll-LayTree A B step arm_step (split.Leaf at prov items)

  pub fold-Split : (loc : Loc) (arms : List Arm)
      → fold-LayTree A B step arm_step (S.Split loc arms None) ≡ step (split.Split loc (map (fold-Arm A B step arm_step) arms) None)
  unfolding S.roll-LayTree denote.Hole.Carrier.roll
  fold-Split loc arms = fold-roll-LayTree A B step arm_step (split.Split loc arms None)

  pub fold-Split-else : (loc : Loc) (arms : List Arm) (other : LayTree) → fold-LayTree A B step arm_step (S.Split loc arms (Some other))
      ≡ step (split.Split loc (map (fold-Arm A B step arm_step) arms) (Some (fold-LayTree A B step arm_step other)))
  unfolding S.roll-LayTree denote.Hole.Carrier.roll
  fold-Split-else loc arms other = fold-roll-LayTree A B step arm_step (split.Split loc arms (Some other))
