-- One turn of a loop over the items of a file.
use Rattle.std.proofs.Common.{◌≡◌, ℕ, suc, ◌+◌, ◌<◌, List, ◌∷◌, length, get_or, drop, find, flat_map, Option, Some, None, sym, ◌∙◌, ap, arith}
use Rattle.std.proofs.Math.Seq.{drop-cons}
use Rattle.std.proofs.lemmas.List.Folds.{find-append}
use Rattle.std.specs.Option.{option_or}
use Rattle.rb_syntax.specs.declared.tree.ItemTree.{ItemTree}
use Rattle.rb_read.specs.declared.limits.Count.{Count}
use Rattle.rb_read.specs.Limits.{is_over, item_counts}

-- the first count over its limit, of these items
abbrev over_in : List ItemTree → Option Count
over_in items = find is_over (flat_map item_counts items)

from_item : (items : List ItemTree) (i : ℕ) (x : ItemTree) → i < length items → x ≡ get_or items i x
    → over_in (drop i items) ≡ option_or (find is_over (item_counts x)) (over_in (drop (suc i) items))
from_item items i x l e =
    let d : drop i items ≡ x ∷ drop (suc i) items = drop-cons items i x l ∙ ap (λ y. y ∷ drop (suc i) items) (sym e) in
    ap over_in d ∙ find-append is_over (item_counts x) (flat_map item_counts (drop (suc i) items))

pub over-here : (items : List ItemTree) (i : ℕ) (x : ItemTree) (c : Count) → i < length items → x ≡ get_or items i x
    → over_in (drop i items) ≡ over_in items → find is_over (item_counts x) ≡ Some c → Some c ≡ over_in items
over-here items i x c l e so_far h =
    let g : over_in (drop i items) ≡ Some c = from_item items i x l e ∙ ap (λ o. option_or o (over_in (drop (suc i) items))) h in sym g ∙ so_far

pub over-later : (items : List ItemTree) (i : ℕ) (x : ItemTree) → i < length items → x ≡ get_or items i x
    → over_in (drop i items) ≡ over_in items → find is_over (item_counts x) ≡ None → over_in (drop (i + 1) items) ≡ over_in items
over-later items i x l e so_far h =
    let g : over_in (drop i items) ≡ over_in (drop (suc i) items) = from_item items i x l e ∙ ap (λ o. option_or o (over_in (drop (suc i) items))) h in
    let s : i + 1 ≡ suc i = omega arith in
    ap (λ j. over_in (drop j items)) s ∙ sym g ∙ so_far
