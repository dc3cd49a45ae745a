-- What is written, form by form.
use Rattle.std.proofs.Common.{◌≡◌, ℕ, List, [], ◌∷◌, ◌++◌, map, refl, ap}
use Rattle.std.specs.List.{flat_map}
use Rattle.rb_core.specs.declared.layout_decl.LayItem.{LayItem}
use Rattle.rb_core.specs.declared.layout_decl.LayItem as I
use Rattle.rb_core.specs.declared.layout_decl.LayItem.TheFolds.{fold-PartKind, fold-PartDecl, fold_out-PartDecl}
use Rattle.rb_core.specs.declared.layout_decl.PartKind.{PartKind}
use Rattle.rb_core.specs.declared.layout_decl.PartKind as K
use Rattle.rb_core.specs.declared.layout_decl.PartDecl.{PartDecl}
use Rattle.rb_core.specs.declared.layout_decl.LayoutDecl.{LayoutDecl}
use Rattle.rb_layout.specs.Positions.{Open}
use Rattle.rb_layout.specs.Flattening.{type_at, words_inlined}
use Rattle.rb_layout.specs.Items.{Content, Number, Whole, Slice, WordOf, Address}
use Rattle.rb_layout.specs.Placing.{part_placed}
use Rattle.rb_layout.proofs.WrittenForms as W
use Rattle.rb_unfold.specs.Unfolding.{Seen, Begins, Has, in_block, Nested, alone, kind_step, part_step, seen_word, item_step, item_written}

pub of_mapped : {X Y : Type 0} (f : Y → List Seen) (g : X → Y) (xs : List X) → flat_map f (map g xs) ≡ flat_map (λ (x : X). f (g x)) xs
of_mapped f g [] = refl
of_mapped f g (x ∷ xs) = ap (λ (seen : List Seen). f (g x) ++ seen) (of_mapped f g xs)

-- what is written of a part, by what is written of its kind
abbrev pub kind_has : List Open → ℕ → ℕ → ℕ → Nested Content → List Seen
kind_has opens width o l kind = map Has (part_placed opens width (record { o = o; l = l; content = kind.it })) ++ kind.inside

module _ (decls : List LayoutDecl) (opens : List Open) where
  abbrev pub kind_written : PartKind → Nested Content
  kind_written = fold-PartKind (List Seen) (Nested Content) (ℕ → List Seen) (item_step decls opens) kind_step (part_step opens)

  abbrev pub part_written : PartDecl → ℕ → List Seen
  part_written = fold-PartDecl (List Seen) (Nested Content) (ℕ → List Seen) (item_step decls opens) kind_step (part_step opens)

  pub word_written : (width : ℕ) (parts : List PartDecl)
      → item_written decls opens (I.Word width parts) ≡ Begins width ∷ flat_map (λ (part : ℕ → List Seen). part width) (map part_written parts)
  word_written width parts = W.fold-Word (List Seen) (Nested Content) (ℕ → List Seen) (item_step decls opens) kind_step (part_step opens) width parts

  pub inline_written : (path : List ℕ) → item_written decls opens (I.Inline path) ≡ flat_map seen_word (words_inlined decls (type_at opens path) path)
  inline_written path = W.fold-Inline (List Seen) (Nested Content) (ℕ → List Seen) (item_step decls opens) kind_step (part_step opens) path

  pub const_written : (c : ℕ) → kind_written (K.Const c) ≡ alone (Number c)
  const_written c = W.fold-Const (List Seen) (Nested Content) (ℕ → List Seen) (item_step decls opens) kind_step (part_step opens) c

  pub whole_written : (path : List ℕ) → kind_written (K.Whole path) ≡ alone (Whole path)
  whole_written path = W.fold-Whole (List Seen) (Nested Content) (ℕ → List Seen) (item_step decls opens) kind_step (part_step opens) path

  pub slice_written : (path : List ℕ) (a k : ℕ) → kind_written (K.Slice path a k) ≡ alone (Slice path a k)
  slice_written path a k = W.fold-Slice (List Seen) (Nested Content) (ℕ → List Seen) (item_step decls opens) kind_step (part_step opens) path a k

  pub word_of_written : (path : List ℕ) (j : ℕ) → kind_written (K.Word path j) ≡ alone (WordOf path j)
  word_of_written path j = W.fold-WordOf (List Seen) (Nested Content) (ℕ → List Seen) (item_step decls opens) kind_step (part_step opens) path j

  pub pointer_written : (align : ℕ) (items : List LayItem)
      → kind_written (K.Pointer align items) ≡ record { it = Address align; inside = in_block (flat_map (λ (seen : List Seen). seen) (map (item_written decls opens) items)) }
  pointer_written align items = W.fold-Pointer (List Seen) (Nested Content) (ℕ → List Seen) (item_step decls opens) kind_step (part_step opens) align items

  pub part_written_is : (p : PartDecl) → part_written p ≡ (λ (width : ℕ). kind_has opens width p.o p.l (kind_written p.kind))
  part_written_is p = fold_out-PartDecl (List Seen) (Nested Content) (ℕ → List Seen) (item_step decls opens) kind_step (part_step opens) p

  pub part_written_at : (p : PartDecl) (width : ℕ) → part_written p width ≡ kind_has opens width p.o p.l (kind_written p.kind)
  part_written_at p width = ap (λ (part : ℕ → List Seen). part width) (part_written_is p)

pub ruleset written_rules = (word_written, inline_written, const_written, whole_written, slice_written, word_of_written, pointer_written, part_written_at)
