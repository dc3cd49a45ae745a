-- What is left of the span of a tree of splits below one of them.
use Rattle.std.proofs.Common.{◌≡◌, ℕ, ◌+◌, ◌≤◌, nat_eq, length, List, [], ◌∷◌, ◌++◌, Bool, true, false, Option, Some, None, sym, ap, ◌∙◌, arith}
use Rattle.std.specs.Prelude.{if◌then◌else◌}
use Rattle.std.specs.List.{sum_by}
use Rattle.std.proofs.lemmas.List.Sums.{sum_by-append, sum_by-cons}
use Rattle.std.proofs.lemmas.Option.{same_Some}
use Rattle.rb_core.specs.declared.layout_decl.Loc.{Loc}
use Rattle.rb_layout.specs.declared.layout.FlatTree.{FlatTree, Split}
use Rattle.rb_layout.specs.declared.layout.FlatArm.{FlatArm}
use Rattle.rb_layout.specs.Splits.{Under, SplitAt, splits_or_none, splits_of, splits_under}
use Rattle.rb_coding.specs.Arms.{under_number}
use Rattle.rb_coding.proofs.SplitLemmas.{arms_splits, other_splits, split_of, splits_is, tree_splits}
use Rattle.rb_image.specs.Spans.{split_span, tree_span}

abbrev total : List SplitAt → ℕ
total splits = sum_by split_span splits

other_less : (other : Option FlatTree) (next : FlatTree) → other ≡ Some next → tree_span next ≤ total (splits_or_none (other_splits other))
other_less None next e = absurd cc
other_less (Some t) next e = let s = ap tree_span (same_Some t next e) in omega (arith, s)

under_less : (arms : List FlatArm) (other : Option FlatTree) (n : ℕ) (next : FlatTree) → under_number arms other n ≡ Some next
    → tree_span next ≤ total (arms_splits arms) + total (splits_or_none (other_splits other))
under_less [] other n next e = let f = other_less other next e in omega (arith, f)
under_less (a ∷ arms) other n next e = go (nat_eq a.literal n) (under_less arms other n next) e
  where
    go : (b : Bool) → (under_number arms other n ≡ Some next → tree_span next ≤ total (arms_splits arms) + total (splits_or_none (other_splits other)))
        → (if b then Some a.under else under_number arms other n) ≡ Some next → tree_span next ≤ total (arms_splits (a ∷ arms)) + total (splits_or_none (other_splits other))
    go true rest h =
        let s = ap tree_span (same_Some a.under next h) in
        let u = ap (λ (x : Under (List SplitAt)). total x.of) (splits_is a) in
        let l = sum_by-append split_span (splits_under a).of (arms_splits arms) in
        omega (arith, s, u, l)
    go false rest h = let f = rest h in let l = sum_by-append split_span (splits_under a).of (arms_splits arms) in omega (arith, f, l)

-- the span of a split, and those of all below it
the_span : (tree : FlatTree) (loc : Loc) (arms : List FlatArm) (other : Option FlatTree) → tree ≡ Split loc arms other
    → tree_span tree ≡ 1 + length loc.steps + (total (arms_splits arms) + total (splits_or_none (other_splits other)))
the_span tree loc arms other is =
    ap total (ap splits_of is ∙ tree_splits loc arms other)
    ∙ sum_by-cons split_span (split_of loc arms other) (arms_splits arms ++ splits_or_none (other_splits other))
    ∙ ap (λ n. 1 + length loc.steps + n) (sum_by-append split_span (arms_splits arms) (splits_or_none (other_splits other)))

-- a split itself takes no more than the span of its tree
pub span_here : (tree : FlatTree) (loc : Loc) (arms : List FlatArm) (other : Option FlatTree) → tree ≡ Split loc arms other → 1 + length loc.steps ≤ tree_span tree
span_here tree loc arms other is = let s = the_span tree loc arms other is in omega (arith, s)

-- and leaves what the tree below it takes
pub span_below : (tree : FlatTree) (loc : Loc) (arms : List FlatArm) (other : Option FlatTree) (n : ℕ) (next : FlatTree) → tree ≡ Split loc arms other → Some next ≡ under_number arms other n
    → 1 + length loc.steps + tree_span next ≤ tree_span tree
span_below tree loc arms other n next is e = let s = the_span tree loc arms other is in let u = under_less arms other n next (sym e) in omega (arith, s, u)
