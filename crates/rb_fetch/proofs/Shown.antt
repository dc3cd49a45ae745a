-- Constructors that are known of a value: by what is shown of its fields, by its parts, and of its parts.
use Rattle.std.proofs.Common.{◌≡◌, ℕ, zero, suc, ◌==◌, ◌++◌, map, List, [], ◌∷◌, Bool, true, false, Option, Some, None, refl, sym, subst, ap, ◌∙◌, ◌+◌, inl, inr, arith}
use Rattle.std.specs.Prelude.{slice_get, if◌then◌else◌}
use Rattle.std.proofs.lemmas.Option.{same_Some}
use Rattle.rb_core.specs.declared.value.Value.{Value, Con, out-Value}
use Rattle.rb_core.specs.declared.value.Value.TheVariants.{outs-Con}
use Rattle.rb_core.specs.declared.types.Ty.TheVariants.{Named}
use Rattle.rb_core.specs.declared.types.ConRef.{ConRef}
use Rattle.rb_core.specs.declared.pattern.Pat.{Pat, Con as ConPat, out-Pat}
use Rattle.rb_core.specs.Matching.{all_pass, is_con, matches_of}
use Rattle.rb_core.specs.Values.{part_at, part_from}
use Rattle.rb_core.proofs.MatchingForms.{matches-Con}
use Rattle.rb_layout.specs.declared.layout.Layout.{Layout}
use Rattle.rb_layout.specs.declared.layout.Leaf.{Leaf}
use Rattle.rb_layout.specs.Flattening.{same_path}
use Rattle.rb_layout.specs.Positions.{layout_of, leaves_of_layout, leaf_of, root_type}
use Rattle.rb_rel.specs.Switches.{HeadAt, heads_below, heads_of}
use Rattle.rb_rel.proofs.Lists.{and_true, get-append, get-map}
use Rattle.rb_rel.proofs.Reading.{same_nat}
use Rattle.rb_fetch.specs.Constructing.{AreAsShown}
use Rattle.rb_fetch.specs.inner.Choosing.{HasAll, HasCon, root_con}
use Rattle.rb_fetch.specs.inner.Heads.{behind, head_behind, head_under, heads_behind, known_con, leaf_by, leaf_known, leaves_beside, leaves_for, sole}
use Rattle.rb_fetch.proofs.Chosen.{begins, matched_leaf}
use Rattle.rb_fetch.proofs.Constructors.{heads-Con, part-append, same-self, shows}
use Rattle.rb_fetch.proofs.Costs.{path_same}
use Rattle.rb_fetch.proofs.Staying.{for-from, for-of, own_stays, stays-from, stays-of}

-- What is shown of fields ---------------------------------------------------------------------------

-- a construction of such arguments has all constructors that are shown
pub shown_have : (con : ConRef) (shown : List Pat) (vs : List Value) → AreAsShown shown vs → HasAll (heads_below (map heads_of shown) 0) (Con con.con vs)
shown_have con shown vs pass k h e =
    let whole : matches_of (ConPat 0 con shown) (Con con.con vs) ≡ true =
    matches-Con (Con con.con vs) 0 con shown ∙ ap (is_con con.con (map matches_of shown)) (outs-Con con.con vs)
    ∙ and_true (con.con == con.con) (all_pass (map matches_of shown) vs) (same-self con.con) pass in
    shows (ConPat 0 con shown) (Con con.con vs) whole (suc k) h (ap (λ (hs : List HeadAt). slice_get hs (suc k)) (heads-Con 0 con shown) ∙ e)

pub has-append : (a b : List HeadAt) (v : Value) → HasAll a v → HasAll b v → HasAll (a ++ b) v
has-append a b v ha hb k h e = elim (get-append a b k h e) [ inl x ↦ ha k h x | inr x ↦ hb x.0 h x.1 ]

-- Parts ---------------------------------------------------------------------------------------------

module _ (v u : Value) (path : List ℕ) (at : part_at v path ≡ Some u) where
  part_of_part : (q : List ℕ) → part_at v (path ++ q) ≡ part_at u q
  part_of_part q = part-append (Some v) path q ∙ ap (λ o. part_from o q) at

  -- what a part has, the whole has below it
  pub has-under : (hs : List HeadAt) → HasAll hs u → HasAll (map (head_under path) hs) v
  has-under hs has k h e =
      let g = get-map (head_under path) hs k h e in
      let c = has k g.0 g.1 in
      subst (λ (x : HeadAt). HasCon v x.path x.con.con) (sym g.2) (c.0, part_of_part g.0.path ∙ c.1, c.2)

behind-is : (above path rest : List ℕ) → behind above path ≡ Some rest → path ≡ above ++ rest
behind-is [] path rest e = same_Some path rest e
behind-is (i ∷ above) [] rest e = absurd cc
behind-is (i ∷ above) (j ∷ path) rest e = go (i == j) refl e (behind-is above path rest)
  where
    go : (b : Bool) → (i == j) ≡ b → (if b then behind above path else None) ≡ Some rest → (behind above path ≡ Some rest → path ≡ above ++ rest) → j ∷ path ≡ i ∷ (above ++ rest)
    go true is h more = ap (λ n. n ∷ path) (sym (same_nat i j is)) ∙ ap (λ r. i ∷ r) (more h)
    go false is h more = absurd cc

module _ (v u : Value) (path : List ℕ) (at : part_at v path ≡ Some u) where
  -- what is known of the whole at a part and below it, the part has
  pub has-behind : (known : List HeadAt) → HasAll known v → HasAll (heads_behind path known) u
  has-behind [] has k h e = absurd cc
  has-behind (g ∷ known) has k h e = go (behind path g.path) refl (λ i x at1. has-behind known (λ j y at2. has (suc j) y at2) i x at1) k h e
    where
      go : (o : Option (List ℕ)) → behind path g.path ≡ o → HasAll (heads_behind path known) u → HasAll (head_behind o g.con (heads_behind path known)) u
      go None is rest k1 h1 e1 = rest k1 h1 e1
      go (Some q) is rest zero h1 e1 =
          let c = has 0 g refl in
          let here : part_at v g.path ≡ part_at u q = ap (part_at v) (behind-is path g.path q is) ∙ part_of_part v u path at q in
          subst (λ (x : HeadAt). HasCon u x.path x.con.con) (same_Some (record { path = q; con = g.con }) h1 e1) (c.0, sym here ∙ c.1, c.2)
      go (Some q) is rest (suc k1) h1 e1 = rest k1 h1 e1

known-at : (known : List HeadAt) (v : Value) (path : List ℕ) (k : ℕ) → HasAll known v → known_con path known ≡ Some k → HasCon v path k
known-at [] v path k has e = absurd cc
known-at (g ∷ known) v path k has e = go (same_path g.path path) refl e (known-at known v path k (λ i h at. has (suc i) h at))
  where
    go : (b : Bool) → same_path g.path path ≡ b → (if b then Some g.con.con else known_con path known) ≡ Some k → (known_con path known ≡ Some k → HasCon v path k) → HasCon v path k
    go true is h more = subst (λ c. HasCon v path c) (same_Some g.con.con k h) (subst (λ q. HasCon v q g.con.con) (path_same g.path path is) (has 0 g refl))
    go false is h more = more h

-- A leaf that is told -------------------------------------------------------------------------------

sole-is : (ns : List ℕ) (l j n : ℕ) → sole ns ≡ Some l → slice_get ns j ≡ Some n → n ≡ l
sole-is [] l j n e at = absurd cc
sole-is (x ∷ []) l zero n e at = sym (same_Some x n at) ∙ same_Some x l e
sole-is (x ∷ []) l (suc j) n e at = absurd cc
sole-is (x ∷ y ∷ ns) l j n e at = absurd cc

sole-first : (ns : List ℕ) (l : ℕ) → sole ns ≡ Some l → slice_get ns 0 ≡ Some l
sole-first [] l e = absurd cc
sole-first (x ∷ []) l e = e
sole-first (x ∷ y ∷ ns) l e = absurd cc

module _ (layouts : List Layout) (s : ℕ) (path : List ℕ) (known : List HeadAt) (l : ℕ) (told : leaf_known layouts s path known ≡ Some l) where
  -- the constructor that is known there, and its one leaf
  record IsTold : Type 0 where
    con : ℕ
    is_con : known_con path known ≡ Some con
    is_sole : sole (leaves_beside layouts s (heads_behind path known) (leaves_for con (leaves_of_layout (layout_of layouts s)) 0)) ≡ Some l

  is_told : IsTold
  is_told = go (known_con path known) refl told
    where
      go : (o : Option ℕ) → known_con path known ≡ o → leaf_by layouts s (heads_behind path known) o ≡ Some l → IsTold
      go None is e = absurd cc
      go (Some k) is e = record { con = k; is_con = is; is_sole = e }

  pub told_layout : (inner : Layout) × (layout_of layouts s ≡ Some inner)
  told_layout =
      let t = is_told in
      let first = stays-of layouts s (heads_behind path known) (leaves_for t.con (leaves_of_layout (layout_of layouts s)) 0) 0 l (sole-first _ l t.is_sole) in
      let f = for-of t.con (leaves_of_layout (layout_of layouts s)) 0 first.0.0 l first.0.1 in
      go f.number f.leaf (layout_of layouts s) refl f.is_number
    where
      go : (n : ℕ) (leaf : Leaf) (o : Option Layout) → layout_of layouts s ≡ o → slice_get (leaves_of_layout o) n ≡ Some leaf → (inner : Layout) × (layout_of layouts s ≡ Some inner)
      go n leaf None is e = absurd cc
      go n leaf (Some inner) is e = (inner, is)

  -- it is the part's
  pub told_leaf : (v u : Value) → part_at v path ≡ Some u → HasAll known v → (inner : Layout) → layout_of layouts s ≡ Some inner → (n : ℕ) (leaf : Leaf) → leaf_of inner u ≡ Some n → slice_get inner.leaves n ≡ Some leaf
      → root_type (out-Pat leaf.prov) ≡ Named s → n ≡ l
  told_leaf v u at has inner there n leaf is is_leaf root =
      let t = is_told in
      let c = known-at known v path t.con has t.is_con in
      let same : c.0 ≡ u = same_Some c.0 u (sym c.1 ∙ at) in
      let own = begins t.con leaf.prov u s root (matched_leaf inner u n leaf is is_leaf) (ap (λ w. root_con (out-Value w)) (sym same) ∙ c.2) in
      let below = has-behind v u path at known has in
      let i = for-from t.con (leaves_of_layout (layout_of layouts s)) 0 n leaf (ap (λ o. slice_get (leaves_of_layout o) n) there ∙ is_leaf) own in
      let z : 0 + n ≡ n = omega arith in
      let can = own_stays layouts s inner there (heads_behind path known) u below n leaf is is_leaf in
      let j = stays-from layouts s (heads_behind path known) (leaves_for t.con (leaves_of_layout (layout_of layouts s)) 0) i.0 n (i.1 ∙ ap Some z) can in
      sole-is _ l j.0 n t.is_sole j.1
