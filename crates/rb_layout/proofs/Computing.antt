-- The flat form, form by form: what the examples compute by.
use Rattle.std.proofs.Common.{◌≡◌, ℕ, List, [], ◌∷◌, map, Some, None, ap}
use Rattle.std.specs.Prelude.{Option}
use Rattle.rb_core.specs.declared.types.Ty.{Ty}
use Rattle.rb_core.specs.declared.types.ConRef.{ConRef}
use Rattle.rb_core.specs.declared.types.DataDecl.{DataDecl}
use Rattle.rb_core.specs.declared.pattern.Pat.{Pat, Wild, Con}
use Rattle.rb_core.specs.declared.pattern.Pat.TheVariants.{outs-Con}
use Rattle.rb_core.specs.declared.pattern.Pat.TheOpen as P
use Rattle.rb_core.proofs.PatternLaws.{fold-Wild, fold-Con}
use Rattle.rb_core.specs.Values.{fields_of}
use Rattle.rb_core.specs.declared.layout_decl.Loc.{Loc}
use Rattle.rb_core.specs.declared.layout_decl.LayItem.{LayItem}
use Rattle.rb_core.specs.declared.layout_decl.LayItem as I
use Rattle.rb_core.specs.declared.layout_decl.LayItem.TheOpen as item
use Rattle.rb_core.specs.declared.layout_decl.LayItem.TheFolds.{fold_out-PartDecl}
use Rattle.rb_core.specs.declared.layout_decl.PartKind as K
use Rattle.rb_core.specs.declared.layout_decl.PartDecl.{PartDecl}
use Rattle.rb_core.specs.declared.layout_decl.LayoutDecl.{LayoutDecl}
use Rattle.rb_core.specs.declared.layout_decl.Arm.{Arm}
use Rattle.rb_core.specs.declared.layout_decl.LayTree.{LayTree}
use Rattle.rb_core.specs.declared.layout_decl.LayTree as S
use Rattle.rb_core.specs.declared.layout_decl.LayTree.TheOpen as split
use Rattle.rb_layout.specs.declared.layout.FlatWord.{FlatWord}
use Rattle.rb_layout.specs.declared.layout.Part.{Part}
use Rattle.rb_layout.specs.declared.layout.Kind.{Kind}
use Rattle.rb_layout.specs.Positions.{Open, opens_of, opens_step, opens_below, types_or_none}
use Rattle.rb_layout.specs.declared.layout.FlatTree as Flat
use Rattle.rb_layout.specs.Splits.{Under}
use Rattle.rb_layout.specs.Flattening.{Laying, LeafNumbering, numbering, arm_numbering, tree_step, arm_step, item_laid, kind_laid, part_laid, item_step, kind_step, part_step}
use Rattle.rb_layout.proofs.WrittenForms as W
use Rattle.rb_layout.proofs.TreeLemmas.{leaves-Leaf, leaves-Split, leaves-Split-else, arm_leaves-is, arm_numbering-is}

module _ (decls : List LayoutDecl) (opens : List Open) where
  pub word_laid : (width : ℕ) (parts : List PartDecl) → item_laid decls opens (I.Word width parts) ≡ item_step decls opens (item.LayItem::Word width (map (part_laid decls opens) parts))
  word_laid width parts = W.fold-Word (Laying (List FlatWord)) (Laying (Option Kind)) (Laying (List Part)) (item_step decls opens) (kind_step opens) part_step width parts

  pub inline_laid : (path : List ℕ) → item_laid decls opens (I.Inline path) ≡ item_step decls opens (item.Inline path)
  inline_laid path = W.fold-Inline (Laying (List FlatWord)) (Laying (Option Kind)) (Laying (List Part)) (item_step decls opens) (kind_step opens) part_step path

  pub const_laid : (c : ℕ) → kind_laid decls opens (K.Const c) ≡ kind_step opens (item.Const c)
  const_laid c = W.fold-Const (Laying (List FlatWord)) (Laying (Option Kind)) (Laying (List Part)) (item_step decls opens) (kind_step opens) part_step c

  pub whole_laid : (path : List ℕ) → kind_laid decls opens (K.Whole path) ≡ kind_step opens (item.Whole path)
  whole_laid path = W.fold-Whole (Laying (List FlatWord)) (Laying (Option Kind)) (Laying (List Part)) (item_step decls opens) (kind_step opens) part_step path

  pub slice_laid : (path : List ℕ) (a k : ℕ) → kind_laid decls opens (K.Slice path a k) ≡ kind_step opens (item.Slice path a k)
  slice_laid path a k = W.fold-Slice (Laying (List FlatWord)) (Laying (Option Kind)) (Laying (List Part)) (item_step decls opens) (kind_step opens) part_step path a k

  pub word_of_laid : (path : List ℕ) (j : ℕ) → kind_laid decls opens (K.Word path j) ≡ kind_step opens (item.PartKind::Word path j)
  word_of_laid path j = W.fold-WordOf (Laying (List FlatWord)) (Laying (Option Kind)) (Laying (List Part)) (item_step decls opens) (kind_step opens) part_step path j

  pub pointer_laid : (align : ℕ) (items : List LayItem) → kind_laid decls opens (K.Pointer align items) ≡ kind_step opens (item.Pointer align (map (item_laid decls opens) items))
  pointer_laid align items = W.fold-Pointer (Laying (List FlatWord)) (Laying (Option Kind)) (Laying (List Part)) (item_step decls opens) (kind_step opens) part_step align items

  pub part_laid_is : (p : PartDecl) → part_laid decls opens p ≡ part_step (record { o = p.o; l = p.l; kind = kind_laid decls opens p.kind })
  part_laid_is p = fold_out-PartDecl (Laying (List FlatWord)) (Laying (Option Kind)) (Laying (List Part)) (item_step decls opens) (kind_step opens) part_step p

pub numbering-Leaf : (at : ℕ) (prov : Pat) (items : List LayItem) → numbering (S.Leaf at prov items) ≡ tree_step (split.Leaf at prov items)
numbering-Leaf at prov items = W.fold-Leaf LeafNumbering (Under LeafNumbering) tree_step arm_step at prov items

pub numbering-Split : (loc : Loc) (arms : List Arm) → numbering (S.Split loc arms None) ≡ tree_step (split.Split loc (map arm_numbering arms) None)
numbering-Split loc arms = W.fold-Split LeafNumbering (Under LeafNumbering) tree_step arm_step loc arms

pub numbering-Split-else : (loc : Loc) (arms : List Arm) (other : LayTree) → numbering (S.Split loc arms (Some other)) ≡ tree_step (split.Split loc (map arm_numbering arms) (Some (numbering other)))
numbering-Split-else loc arms other = W.fold-Split-else LeafNumbering (Under LeafNumbering) tree_step arm_step loc arms other

pub opens-Wild : (types : List DataDecl) (at : ℕ) → opens_of types (Wild at) ≡ opens_step types (P.Wild at)
opens-Wild types at = fold-Wild (Ty → List Open) (opens_step types) at

pub opens-Con : (types : List DataDecl) (at : ℕ) (c : ConRef) (ps : List Pat) → opens_of types (Con at c ps) ≡ (λ ty. opens_below (map (opens_of types) ps) (types_or_none (fields_of types c)) 0)
opens-Con types at c ps = fold-Con (Ty → List Open) (opens_step types) at c ps

-- Each form where so many blocks stand before -------------------------------------------------------

module _ (decls : List LayoutDecl) (opens : List Open) (n : ℕ) where
  pub word_at : (width : ℕ) (parts : List PartDecl) → item_laid decls opens (I.Word width parts) n ≡ item_step decls opens (item.LayItem::Word width (map (part_laid decls opens) parts)) n
  word_at width parts = ap (λ (lay : Laying (List FlatWord)). lay n) (word_laid decls opens width parts)

  pub inline_at : (path : List ℕ) → item_laid decls opens (I.Inline path) n ≡ item_step decls opens (item.Inline path) n
  inline_at path = ap (λ (lay : Laying (List FlatWord)). lay n) (inline_laid decls opens path)

  pub const_at : (c : ℕ) → kind_laid decls opens (K.Const c) n ≡ kind_step opens (item.Const c) n
  const_at c = ap (λ (lay : Laying (Option Kind)). lay n) (const_laid decls opens c)

  pub whole_at : (path : List ℕ) → kind_laid decls opens (K.Whole path) n ≡ kind_step opens (item.Whole path) n
  whole_at path = ap (λ (lay : Laying (Option Kind)). lay n) (whole_laid decls opens path)

  pub slice_at : (path : List ℕ) (a k : ℕ) → kind_laid decls opens (K.Slice path a k) n ≡ kind_step opens (item.Slice path a k) n
  slice_at path a k = ap (λ (lay : Laying (Option Kind)). lay n) (slice_laid decls opens path a k)

  pub pointer_at : (align : ℕ) (items : List LayItem) → kind_laid decls opens (K.Pointer align items) n ≡ kind_step opens (item.Pointer align (map (item_laid decls opens) items)) n
  pointer_at align items = ap (λ (lay : Laying (Option Kind)). lay n) (pointer_laid decls opens align items)

  pub part_at : (p : PartDecl) → part_laid decls opens p n ≡ part_step (record { o = p.o; l = p.l; kind = kind_laid decls opens p.kind }) n
  part_at p = ap (λ (lay : Laying (List Part)). lay n) (part_laid_is decls opens p)

pub from-Leaf : (at : ℕ) (prov : Pat) (items : List LayItem) (n : ℕ) → (numbering (S.Leaf at prov items)).from n ≡ Flat.Leaf n
from-Leaf at prov items n = ap (λ (t : LeafNumbering). t.from n) (numbering-Leaf at prov items)

pub count-Leaf : (at : ℕ) (prov : Pat) (items : List LayItem) → (numbering (S.Leaf at prov items)).count ≡ 1
count-Leaf at prov items = ap (λ (t : LeafNumbering). t.count) (numbering-Leaf at prov items)

pub from-Split : (loc : Loc) (arms : List Arm) (n : ℕ) → (numbering (S.Split loc arms None)).from n ≡ (tree_step (split.Split loc (map arm_numbering arms) None)).from n
from-Split loc arms n = ap (λ (t : LeafNumbering). t.from n) (numbering-Split loc arms)

pub from-Split-else : (loc : Loc) (arms : List Arm) (other : LayTree) (n : ℕ)
    → (numbering (S.Split loc arms (Some other))).from n ≡ (tree_step (split.Split loc (map arm_numbering arms) (Some (numbering other)))).from n
from-Split-else loc arms other n = ap (λ (t : LeafNumbering). t.from n) (numbering-Split-else loc arms other)

pub opens-at-Wild : (types : List DataDecl) (at : ℕ) (ty : Ty) → opens_of types (Wild at) ty ≡ record { path = []; ty = ty } ∷ []
opens-at-Wild types at ty = ap (λ (f : Ty → List Open). f ty) (opens-Wild types at)

pub opens-at-Con : (types : List DataDecl) (at : ℕ) (c : ConRef) (ps : List Pat) (ty : Ty) → opens_of types (Con at c ps) ty ≡ opens_below (map (opens_of types) ps) (types_or_none (fields_of types c)) 0
opens-at-Con types at c ps ty = ap (λ (f : Ty → List Open). f ty) (opens-Con types at c ps)

pub ruleset flat_rules = (word_at, inline_at, const_at, whole_at, slice_at, pointer_at, part_at, from-Leaf, count-Leaf, from-Split, from-Split-else, arm_numbering-is, leaves-Leaf, leaves-Split, leaves-Split-else, arm_leaves-is, opens-at-Wild, opens-at-Con, outs-Con)
