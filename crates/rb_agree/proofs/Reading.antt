-- The items of leaves, form by form.
use Rattle.std.proofs.Common.{◌≡◌, ℕ, zero, suc, ◌+◌, ◌<◌, ◌≤◌, List, [], ◌∷◌, ◌++◌, length, drop, get_or, inl, inr, subst, arith, Option, Some, None, refl, sym, ap, ◌∙◌}
use Rattle.std.specs.Prelude.{slice_get}
use Rattle.std.specs.List.{flat_map}
use Rattle.std.proofs.lemmas.List.{append-nil, append_assoc, map-append}
use Rattle.rb_core.specs.declared.layout_decl.Loc.{Loc}
use Rattle.rb_core.specs.declared.layout_decl.Arm.{Arm}
use Rattle.rb_core.specs.declared.layout_decl.LayItem.{LayItem}
use Rattle.rb_core.specs.declared.layout_decl.LayTree.{LayTree}
use Rattle.rb_core.specs.declared.layout_decl.LayTree as S
use Rattle.rb_core.specs.declared.pattern.Pat.{Pat}
use Rattle.rb_core.specs.Layouts.{WrittenLeaf, leaves, leaves_under}
use Rattle.rb_layout.specs.Items as I
use Rattle.rb_layout.specs.Items.{item_lists, items_in}
use Rattle.rb_layout.proofs.TreeLemmas.{leaves-Leaf, leaves-Split, leaves-Split-else, arm_leaves-is}
use Rattle.rb_agree.specs.declared.items.Item.{Item}
use Rattle.rb_agree.specs.Written.{shown_items}
use Rattle.rb_agree.specs.inner.Leaves.{AreWritten, items_or_none, items_under, leaf_items, leaves_or_none, shown_leaves}
use Rattle.rb_agree.proofs.Lists.{flat-next, flat-end}
use Rattle.rb_agree.proofs.Grouping.{at-new, at-old, length-more}
use Rattle.std.proofs.lemmas.Bool.{cases_lt}
use Rattle.rb_core.specs.declared.layout_decl.LayoutDecl.{LayoutDecl}
use Rattle.rb_layout.specs.Flattening.{decl_of}

-- one leaf more
pub leaf-added : (old new : List (List Item)) (written : List Item) (tree : LayTree) (at : ℕ) (prov : Pat) (items ws : List LayItem) → tree ≡ S.Leaf at prov items → ws ≡ items
    → shown_items written ≡ item_lists ws → new ≡ old ++ written ∷ [] → shown_leaves new ≡ shown_leaves old ++ items_under (leaves tree)
leaf-added old new written tree at prov items ws is same shown one =
    ap (λ (xs : List (List Item)). shown_leaves xs) one ∙ map-append shown_items old (written ∷ [])
    ∙ ap (λ (xs : List I.Item). shown_leaves old ++ xs ∷ []) (shown ∙ ap (λ (xs : List LayItem). item_lists xs) same)
    ∙ ap (λ (xs : List (List I.Item)). shown_leaves old ++ xs) (sym (ap (λ (t : LayTree). items_under (leaves t)) is ∙ ap (λ (ls : List WrittenLeaf). items_under ls) (leaves-Leaf at prov items)))

pub split-added : (old new : List (List Item)) (tree : LayTree) (loc : Loc) (arms bs : List Arm) (other : Option LayTree) → tree ≡ S.Split loc arms other → other ≡ None → bs ≡ arms
    → shown_leaves new ≡ shown_leaves old ++ items_under (flat_map leaves_under bs) → shown_leaves new ≡ shown_leaves old ++ items_under (leaves tree)
split-added old new tree loc arms bs other is none same added =
    added ∙ ap (λ (xs : List Arm). shown_leaves old ++ items_under (flat_map leaves_under xs)) same
    ∙ ap (λ (ls : List WrittenLeaf). shown_leaves old ++ items_under ls)
    (sym (ap (λ (t : LayTree). leaves t) (is ∙ ap (λ (o : Option LayTree). S.Split loc arms o) none) ∙ leaves-Split loc arms))

pub else-added : (old mid new : List (List Item)) (tree : LayTree) (loc : Loc) (arms bs : List Arm) (other : Option LayTree) (under got : LayTree) → tree ≡ S.Split loc arms other → other ≡ Some under → bs ≡ arms
    → got ≡ under → shown_leaves mid ≡ shown_leaves old ++ items_under (flat_map leaves_under bs) → shown_leaves new ≡ shown_leaves mid ++ items_under (leaves got)
    → shown_leaves new ≡ shown_leaves old ++ items_under (leaves tree)
else-added old mid new tree loc arms bs other under got is some same there first rest =
    let arms_leaves = flat_map leaves_under arms in
    rest ∙ ap (λ (t : LayTree). shown_leaves mid ++ items_under (leaves t)) there
    ∙ ap (λ (xs : List (List I.Item)). xs ++ items_under (leaves under)) (first ∙ ap (λ (xs : List Arm). shown_leaves old ++ items_under (flat_map leaves_under xs)) same)
    ∙ append_assoc (shown_leaves old) (items_under arms_leaves) (items_under (leaves under))
    ∙ ap (λ (xs : List (List I.Item)). shown_leaves old ++ xs) (sym (map-append leaf_items arms_leaves (leaves under)))
    ∙ ap (λ (ls : List WrittenLeaf). shown_leaves old ++ items_under ls)
    (sym (ap (λ (t : LayTree). leaves t) (is ∙ ap (λ (o : Option LayTree). S.Split loc arms o) some) ∙ leaves-Split-else loc arms under))

-- one arm more
pub arm-added : (arms : List Arm) (i : ℕ) (a : Arm) (here next start : List (List I.Item)) → i < length arms → a ≡ get_or arms i a → next ≡ here ++ items_under (leaves a.under)
    → here ++ items_under (flat_map leaves_under (drop i arms)) ≡ start → next ++ items_under (flat_map leaves_under (drop (i + 1) arms)) ≡ start
arm-added arms i a here next start lt is added all =
    let rest = flat_map leaves_under (drop (i + 1) arms) in
    ap (λ (xs : List (List I.Item)). xs ++ items_under rest) added
    ∙ append_assoc here (items_under (leaves a.under)) (items_under rest)
    ∙ ap (λ (xs : List (List I.Item)). here ++ xs) (sym (map-append leaf_items (leaves a.under) rest))
    ∙ ap (λ (ls : List WrittenLeaf). here ++ items_under (ls ++ rest)) (sym (arm_leaves-is a))
    ∙ ap (λ (ls : List WrittenLeaf). here ++ items_under ls) (sym (flat-next leaves_under arms i a lt is)) ∙ all

pub arms-end : (arms : List Arm) (i : ℕ) (here start : List (List I.Item)) → length arms ≤ i → here ++ items_under (flat_map leaves_under (drop i arms)) ≡ start → here ≡ start
arms-end arms i here start le all =
    sym (append-nil here) ∙ ap (λ (ls : List WrittenLeaf). here ++ items_under ls) (sym (flat-end leaves_under arms i le)) ∙ all

-- the items of leaf n
abbrev pick : List (List I.Item) → ℕ → List I.Item
pick [] n = []
pick (x ∷ xs) zero = x
pick (x ∷ xs) (suc n) = pick xs n

pick-shown : (out : List (List Item)) (n : ℕ) → pick (shown_leaves out) n ≡ items_or_none (slice_get out n)
pick-shown [] n = refl
pick-shown (x ∷ out) zero = refl
pick-shown (x ∷ out) (suc n) = pick-shown out n

pick-written : (ws : List WrittenLeaf) (n : ℕ) → pick (items_under ws) n ≡ items_in (slice_get ws n)
pick-written [] n = refl
pick-written (w ∷ ws) zero = refl
pick-written (w ∷ ws) (suc n) = pick-written ws n

pub items-are : (out : List (List Item)) (ws : List WrittenLeaf) (n : ℕ) → shown_leaves out ≡ items_under ws → items_or_none (slice_get out n) ≡ items_in (slice_get ws n)
items-are out ws n is = sym (pick-shown out n) ∙ ap (λ (xs : List (List I.Item)). pick xs n) is ∙ pick-written ws n

-- types one after the other
abbrev pub WrittenBefore : List LayoutDecl → ℕ → List (List (List Item)) → Type 0
WrittenBefore decls t written = (length written ≡ t) × AreWritten decls t written

pub type-added : (decls : List LayoutDecl) (t n : ℕ) (leaves : List (List Item)) (written new : List (List (List Item))) → WrittenBefore decls t written → n ≡ t
    → shown_leaves leaves ≡ items_under (I.leaves_in (decl_of decls n)) → new ≡ written ++ leaves ∷ [] → WrittenBefore decls (t + 1) new
type-added decls t n leaves written new before same here added = subst (λ ws. WrittenBefore decls (t + 1) ws) (sym added) (
  length-more written leaves ∙ ap (λ k. k + 1) before.0,
  λ s lt. elim (cases_lt s t) [
    | inl less ↦ ap (λ x. shown_leaves (leaves_or_none x)) (at-old written leaves s (subst (λ k. s < k) (sym before.0) less)) ∙ before.1 s less
    | inr most ↦ (let last : s ≡ t = omega (arith, most, lt) in
        ap (λ x. shown_leaves (leaves_or_none x)) (ap (λ k. slice_get (written ++ leaves ∷ []) k) (last ∙ sym before.0) ∙ at-new written leaves) ∙ here
        ∙ ap (λ k. items_under (I.leaves_in (decl_of decls k))) (same ∙ sym last))
  ],
)

pub leaves-of-type : (decls : List LayoutDecl) (count t : ℕ) (all : List (List (List Item))) (got : List (List Item)) (xs : List (List (List Item))) → AreWritten decls count all → t < count → xs ≡ all
    → got ≡ leaves_or_none (slice_get xs t) → shown_leaves got ≡ items_under (I.leaves_in (decl_of decls t))
leaves-of-type decls count t all got xs written lt same is = ap (λ ls. shown_leaves ls) (is ∙ ap (λ ws. leaves_or_none (slice_get ws t)) same) ∙ written t lt
