-- The spans of the types on a path are enough for a walk along it.
use Rattle.std.proofs.Common.{◌≡◌, ℕ, ◌+◌, ◌++◌, ◌≤◌, List, [], ◌∷◌, Option, Some, None, Result, Ok, Err, refl, ap, ◌∙◌, arith}
use Rattle.std.specs.List.{sum_by}
use Rattle.std.proofs.lemmas.List.Sums.{sum_by-cons}
use Rattle.rb_core.specs.declared.pattern.Pat.{Pat, out-Pat}
use Rattle.rb_core.specs.declared.pattern.Pat.TheOpen as P
use Rattle.rb_core.specs.declared.pattern.Pat.TheOpen.{Pat-F}
use Rattle.rb_core.specs.declared.types.DataDecl.{DataDecl}
use Rattle.rb_core.specs.declared.types.Ty.{Ty}
use Rattle.rb_core.specs.declared.types.Ty.TheVariants.{Int, Named}
use Rattle.rb_layout.specs.declared.layout.FlatTree.TheVariants as T
use Rattle.rb_layout.specs.declared.layout.Layout.{Layout}
use Rattle.rb_layout.specs.Flattening.{flat_layouts}
use Rattle.rb_layout.specs.Positions.{layout_of}
use Rattle.rb_layout.specs.Splits.{SplitAt, Under, splits_arm, splits_step}
use Rattle.rb_layout.proofs.FlatForms as F
use Rattle.rb_image_text.specs.declared.fault.ImageFault.{ImageFault}
use Rattle.rb_image_text.specs.declared.image.ImageBlock.{ImageBlock}
use Rattle.rb_image.specs.declared.kept.Kept.{Kept}
use Rattle.rb_image.specs.Fields.{Position, field_of}
use Rattle.rb_image.specs.Spans.{data_span, inner_span, layout_span, span, split_span, tree_span, word_span}
use Rattle.rb_image.specs.Visits.{own_span}
use Rattle.rb_image.proofs.SpanRecursion.{spans_recur}
use Rattle.rb_peek.specs.Asked.{if_found}
use Rattle.rb_peek.specs.PathSpans.{WalksAreShort, path_types, type_there, types_from}
use Rattle.rb_peek.specs.Walks.{Where, where_at_root, count_found, data_of, layout_at, layout_or_none, open_in, open_span, see, span_at, step, steps_span, walk_span}

no_splits : tree_span (T.Leaf 0) ≡ 0
no_splits = ap (sum_by split_span) (F.fold-Leaf (List SplitAt) (Under (List SplitAt)) splits_step splits_arm 0)

module _ (types : List DataDecl) (layouts : List Layout) (recur : (t : ℕ) → data_span layouts t ≡ layout_span (data_span layouts) (layout_of layouts t)) (m : List ImageBlock) where
  own_within : (t : ℕ) → span_at layouts (Some t) ≤ span layouts (Named t)
  own_within t = go (layout_of layouts t) refl
    where
      go : (o : Option Layout) → layout_of layouts t ≡ o → own_span (layout_at layouts t) ≤ data_span layouts t
      go None is =
          let own : own_span (layout_at layouts t) ≡ tree_span (T.Leaf 0) + 0 = ap (λ x. own_span (layout_or_none x)) is in
          let none = no_splits in
          omega (arith, own, none)
      go (Some layout) is =
          let own : own_span (layout_at layouts t) ≡ tree_span layout.tree + sum_by word_span layout.leaves = ap (λ x. own_span (layout_or_none x)) is in
          let all : data_span layouts t ≡ tree_span layout.tree + sum_by word_span layout.leaves + sum_by (inner_span (data_span layouts)) layout.leaves =
          recur t ∙ ap (layout_span (data_span layouts)) is in
          omega (arith, own, all)

  data_within : (ty : Ty) → span_at layouts (data_of ty) ≤ span layouts ty
  data_within (Int bits) = omega arith
  data_within (Named t) = own_within t

  open_within : (l : Pat-F Pat) (ty : Ty) → span_at layouts (open_in l (data_of ty)) ≤ span layouts ty
  open_within (P.Wild at) ty = data_within ty
  open_within (P.Var at x) ty = data_within ty
  open_within (P.Num at n) ty = omega arith
  open_within (P.Con at c ps) ty = omega arith

  abbrev total : List Ty → ℕ
  total = sum_by (span layouts)

  there_within : (o : Option Position) (more : List Ty) (n : ℕ) → n ≤ total more → open_span layouts o + n ≤ total (type_there o ++ more)
  there_within None more n le = omega (arith, le)
  there_within (Some pos) more n le =
      let first = open_within (out-Pat pos.pat) pos.ty in
      let sum : total (pos.ty ∷ more) ≡ span layouts pos.ty + total more = sum_by-cons (span layouts) pos.ty more in
      omega (arith, first, sum, le)

  found_within : {A : Type 0} (r : Result A ImageFault) (f : A → ℕ) (g : A → List Ty) → ((x : A) → f x ≤ total (g x)) → count_found r f ≤ total (if_found r g)
  found_within (Err fault) f g each = omega arith
  found_within (Ok x) f g each = each x

  steps_within : (path : List ℕ) (k : ℕ) (w : Where) → steps_span types layouts m k w path ≤ total (types_from types layouts m k w path)
  steps_within [] k w = omega arith
  steps_within (i ∷ path) k w =
      there_within (field_of types w.here.pat i) (if_found (step types layouts m k w i) (λ v. types_from types layouts m (k + 1) v path))
      (count_found (step types layouts m k w i) (λ v. steps_span types layouts m (k + 1) v path))
      (found_within (step types layouts m k w i) (λ v. steps_span types layouts m (k + 1) v path) (λ v. types_from types layouts m (k + 1) v path) (λ v. steps_within path (k + 1) v))

  walk_within : (t : ℕ) (ws : List Kept) (path : List ℕ) → walk_span types layouts m t ws path ≤ total (path_types types layouts m t ws path)
  walk_within t ws path =
      let first = own_within t in
      let more = found_within (see layouts m t ws) (λ s. steps_span types layouts m 0 (where_at_root [] s) path) (λ s. types_from types layouts m 0 (where_at_root [] s) path)
      (λ s. steps_within path 0 (where_at_root [] s)) in
      let sum : total (path_types types layouts m t ws path)
      ≡ span layouts (Named t) + total (if_found (see layouts m t ws) (λ s. types_from types layouts m 0 (where_at_root [] s) path)) =
      sum_by-cons (span layouts) (Named t) (if_found (see layouts m t ws) (λ s. types_from types layouts m 0 (where_at_root [] s) path)) in
      omega (arith, first, more, sum)

pub walks_are_short : WalksAreShort
walks_are_short p agrees m t ws path = walk_within p.types (flat_layouts p) (spans_recur (flat_layouts p) agrees.a9) m t ws path
