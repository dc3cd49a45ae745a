-- Types of which some leaf takes a subvalue apart.
use Rattle.std.proofs.Common.{◌≡◌, ℕ, zero, suc, ◌+◌, ◌≤◌, Bool, true, false, List, [], ◌∷◌, map, length, length-append, Some, refl, sym, subst, ap, ◌∙◌, arith}
use Rattle.std.specs.Prelude.{slice_get, drop, ◌&&◌}
use Rattle.std.specs.List.{list_all}
use Rattle.std.proofs.lemmas.Grind.{common_steps}
use Rattle.std.proofs.lemmas.List.{length-map}
use Rattle.std.proofs.lemmas.Option.{same_Some}
use Rattle.rb_core.specs.declared.pattern.Pat.{Pat, Con}
use Rattle.rb_core.specs.declared.types.ConRef.{ConRef}
use Rattle.rb_core.proofs.PatternLaws.{fold-Con}
use Rattle.rb_layout.specs.declared.layout.Layout.{Layout}
use Rattle.rb_layout.specs.declared.layout.Leaf.{Leaf}
use Rattle.rb_layout.specs.Positions.{layout_of, leaves_of_layout}
use Rattle.rb_rel.specs.Switches.{HeadAt, head_below, heads_below, heads_of, heads_step, inner_heads, is_shallow}
use Rattle.rb_facts.specs.Looks.{takes_none_apart}
use Rattle.rb_facts.specs.inner.Saving.{HasConstructor}

heads-con : (token : ℕ) (c : ConRef) (ps : List Pat) → 1 ≤ length (heads_of (Con token c ps))
heads-con token c ps = (let e = ap length (fold-Con (List HeadAt) heads_step token c ps) in omega (arith, e))

some-below : (subs : List Pat) (i k token : ℕ) (c : ConRef) (ps : List Pat) → slice_get subs k ≡ Some (Con token c ps) → 1 ≤ length (heads_below (map heads_of subs) i)
some-below [] i k token c ps e = absurd cc
some-below (s ∷ subs) i zero token c ps e =
    let h = heads-con token c ps in
    let same = ap (λ (p : Pat). length (heads_of p)) (same_Some s (Con token c ps) e) in
    let a = length-append (map (head_below i) (heads_of s)) (heads_below (map heads_of subs) (i + 1)) in
    let b = length-map (heads_of s) (head_below i) in omega (arith, h, same, a, b)
some-below (s ∷ subs) i (suc k) token c ps e =
    let r = some-below subs (i + 1) k token c ps e in
    let a = length-append (map (head_below i) (heads_of s)) (heads_below (map heads_of subs) (i + 1)) in omega (arith, r, a)

pub apart : (leaf : Leaf) (token : ℕ) (c : ConRef) (subs : List Pat) → leaf.prov ≡ Con token c subs → HasConstructor subs → is_shallow leaf ≡ false
apart leaf token c subs prov (k, at, d, ps, is) =
    let e : inner_heads leaf ≡ heads_below (map heads_of subs) 0 = ap (λ p. drop 1 (heads_of p)) prov ∙ ap (drop 1) (fold-Con (List HeadAt) heads_step token c subs) in
    let one = some-below subs 0 k at d ps is in
    let n : 1 ≤ length (inner_heads leaf) = subst (λ hs. 1 ≤ length hs) (sym e) one in
    grind (arith, common_steps, n)

not-all : (ls : List Leaf) (k : ℕ) (leaf : Leaf) → slice_get ls k ≡ Some leaf → is_shallow leaf ≡ false → list_all is_shallow ls ≡ false
not-all [] k leaf e deep = absurd cc
not-all (l ∷ ls) zero leaf e deep = ap (λ u. u && list_all is_shallow ls) (ap is_shallow (same_Some l leaf e) ∙ deep)
not-all (l ∷ ls) (suc k) leaf e deep = go (is_shallow l) (not-all ls k leaf e deep)
  where
    go : (u : Bool) → list_all is_shallow ls ≡ false → (u && list_all is_shallow ls) ≡ false
    go true h = h
    go false h = refl

pub is_deep : (layouts : List Layout) (t k : ℕ) (layout : Layout) (leaf : Leaf) → layout_of layouts t ≡ Some layout → slice_get layout.leaves k ≡ Some leaf → is_shallow leaf ≡ false → takes_none_apart layouts t ≡ false
is_deep layouts t k layout leaf is at deep = ap (λ o. list_all is_shallow (leaves_of_layout o)) is ∙ not-all layout.leaves k leaf at deep
