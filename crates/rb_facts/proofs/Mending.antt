-- What rebuilding parts of one leaf costs is within its type's mending, and the parts are there.
use Rattle.std.proofs.Common.{◌≡◌, ℕ, zero, suc, ◌+◌, ◌≤◌, ◌==◌, Bool, true, false, List, [], ◌∷◌, ◌++◌, map, length, Option, Some, None, refl, sym, ap, ◌∙◌, arith, subst}
use Rattle.std.specs.Prelude.{slice_get, drop, if◌then◌else◌}
use Rattle.std.specs.List.{list_all, sum_by}
use Rattle.std.proofs.lemmas.Bool.{false≢true, and_parts}
use Rattle.std.proofs.lemmas.List.Sums.{sum_by-append, sum_by-cons}
use Rattle.std.proofs.lemmas.Option.{same_Some}
use Rattle.rb_core.specs.declared.value.Value.{Value, out-Value}
use Rattle.rb_core.specs.declared.value.Value.TheOpen as V
use Rattle.rb_core.specs.declared.value.Value.TheOpen.{Value-F}
use Rattle.rb_core.specs.declared.types.Ty.TheVariants.{Named}
use Rattle.rb_core.specs.declared.pattern.Pat.{Pat, out-Pat}
use Rattle.rb_core.specs.declared.pattern.Pat.TheVariants.{outs-Wild, outs-Var, outs-Num, outs-Con}
use Rattle.rb_core.specs.Matching.{all_pass, is_con, matches_of}
use Rattle.rb_core.specs.Values.{part_at, part_from, subs_in}
use Rattle.rb_core.proofs.MatchingForms.{matches-Con}
use Rattle.rb_core.proofs.MatchingLemmas.{all_at}
use Rattle.rb_core.proofs.PatternLaws.{fold-Con, induction}
use Rattle.rb_decide.specs.Decisions.{subpatterns}
use Rattle.rb_layout.specs.declared.layout.Layout.{Layout}
use Rattle.rb_layout.specs.declared.layout.Leaf.{Leaf}
use Rattle.rb_layout.specs.Positions.{layout_of, leaves_of_layout, leaf_of}
use Rattle.rb_rel.specs.Switches.{HeadAt, choose_of, greatest, head_below, heads_below, heads_of, heads_step, inner_heads, is_shallow, mend_leaf, mend_of}
use Rattle.rb_rel.proofs.Leaves.{leaf_matches}
use Rattle.rb_fragment.specs.Plan.{Plan}
use Rattle.rb_facts.specs.Looks.{takes_none_apart, rebuilding_bound}
use Rattle.rb_fetch.specs.Finding.{leaf_within, IsPlanOf}
use Rattle.rb_facts.specs.Saving.{HasPart, mend_at, mend_pattern, mends_at, pattern_at, prov_at, provenance}
use Rattle.rb_facts.specs.inner.Saving.{mend_below, mend_inside}
use Rattle.rb_facts.proofs.Numbers.{same-nat}
use Rattle.rb_layout.specs.declared.agreed.LaidOut.{LaidOut}
use Rattle.rb_layout.specs.Agreement.{Agrees}
use Rattle.rb_layout.specs.Flattening.{flat_layouts}
use Rattle.rb_rel.proofs.Mending.{mending_recurs}

-- Sums

module _ (layouts : List Layout) where
  abbrev cost : HeadAt → ℕ
  cost h = choose_of layouts h.con.ty h.con.con

  sum-below : (i : ℕ) (hs : List HeadAt) → sum_by cost (map (head_below i) hs) ≡ sum_by cost hs
  sum-below i [] = refl
  sum-below i (h ∷ hs) = (let a = sum_by-cons cost (head_below i h) (map (head_below i) hs) in let b = sum_by-cons cost h hs in let r = sum-below i hs in omega (arith, a, b, r))

  -- the patterns from the first one on, so many of them
  abbrev some : List Pat → ℕ → ℕ
  some ps zero = 0
  some ps (suc i) = some ps i + mend_pattern layouts (slice_get ps i)

  some-cons : (p : Pat) (ps : List Pat) (i : ℕ) → some (p ∷ ps) (suc i) ≡ sum_by cost (heads_of p) + some ps i
  some-cons p ps zero = omega arith
  some-cons p ps (suc i) = (let r = some-cons p ps i in omega (arith, r))

  some-none : (i : ℕ) → some [] i ≡ 0
  some-none zero = refl
  some-none (suc i) = (let r = some-none i in omega (arith, r))

  some-within : (ps : List Pat) (k i : ℕ) → some ps i ≤ sum_by cost (heads_below (map heads_of ps) k)
  some-within [] k i = (let r = some-none i in omega (arith, r))
  some-within (p ∷ ps) k zero = omega arith
  some-within (p ∷ ps) k (suc i) =
      let a = some-cons p ps i in
      let r = some-within ps (k + 1) i in
      let b = sum_by-append cost (map (head_below k) (heads_of p)) (heads_below (map heads_of ps) (k + 1)) in
      let c = sum-below k (heads_of p) in omega (arith, a, b, c, r)

  some-all : (q : Pat) (i : ℕ) → some (subpatterns (out-Pat q)) i ≤ sum_by cost (drop 1 (heads_of q))
  some-all q i = induction (λ q. some (subpatterns (out-Pat q)) i ≤ sum_by cost (drop 1 (heads_of q))) (record {
    wild = λ at. (let e = ap (λ l. some (subpatterns l) i) (outs-Wild at) in let r = some-none i in omega (arith, e, r));
    var = λ at x. (let e = ap (λ l. some (subpatterns l) i) (outs-Var at x) in let r = some-none i in omega (arith, e, r));
    num = λ at n. (let e = ap (λ l. some (subpatterns l) i) (outs-Num at n) in let r = some-none i in omega (arith, e, r));
    con = λ at c ps each.
        let e = ap (λ l. some (subpatterns l) i) (outs-Con at c ps) in
        let h = ap (λ hs. sum_by cost (drop 1 hs)) (fold-Con (List HeadAt) heads_step at c ps) in
        let r = some-within ps 0 i in omega (arith, e, h, r);
  }) q

  -- one field further
  abbrev sub_of : Option Pat → ℕ → Option Pat
  sub_of None i = None
  sub_of (Some p) i = slice_get (subpatterns (out-Pat p)) i

  pattern-snoc : (o : Option Pat) (path : List ℕ) (i : ℕ) → pattern_at o (path ++ i ∷ []) ≡ sub_of (pattern_at o path) i
  pattern-snoc None [] i = refl
  pattern-snoc None (k ∷ path) i = refl
  pattern-snoc (Some p) [] i = here (slice_get (subpatterns (out-Pat p)) i)
    where
      here : (o : Option Pat) → pattern_at o [] ≡ o
      here None = refl
      here (Some q) = refl
  pattern-snoc (Some p) (k ∷ path) i = pattern-snoc (slice_get (subpatterns (out-Pat p)) k) path i

  mends-inside : (t number : ℕ) (path : List ℕ) (o : Option Pat) → prov_at layouts t number path ≡ o → (i : ℕ) → mends_at layouts t number path i ≤ mend_inside layouts o
  mends-inside t number path None is zero = omega arith
  mends-inside t number path None is (suc i) =
      let r = mends-inside t number path None is i in
      let e : mend_at layouts t number (path ++ i ∷ []) ≡ 0 = ap (mend_pattern layouts) (pattern-snoc (provenance (leaf_within (layout_of layouts t) number)) path i ∙ ap (λ o. sub_of o i) is) in omega (arith, r, e)
  mends-inside t number path (Some p) is i = (let a = same i in let b = some-all p i in omega (arith, a, b))
    where
      same : (i : ℕ) → mends_at layouts t number path i ≡ some (subpatterns (out-Pat p)) i
      same zero = refl
      same (suc i) =
          let r = same i in
          let e : mend_at layouts t number (path ++ i ∷ []) ≡ mend_pattern layouts (slice_get (subpatterns (out-Pat p)) i) = ap (mend_pattern layouts) (pattern-snoc (provenance (leaf_within (layout_of layouts t) number)) path i ∙ ap (λ o. sub_of o i) is) in omega (arith, r, e)

  -- parts at and below fields, each once, are parts below what has the fields
  pub mends_below : (t number : ℕ) (path : List ℕ) (i : ℕ) → mends_at layouts t number path i ≤ mend_below layouts t number path
  mends_below t number path i = mends-inside t number path (prov_at layouts t number path) refl i

  -- and those are parts at or below it
  pub below_at : (t number : ℕ) (path : List ℕ) → mend_below layouts t number path ≤ mend_at layouts t number path
  below_at t number path = go (prov_at layouts t number path)
    where
      less : (hs : List HeadAt) → sum_by cost (drop 1 hs) ≤ sum_by cost hs
      less [] = omega arith
      less (h ∷ hs) = (let c = sum_by-cons cost h hs in omega (arith, c))

      go : (o : Option Pat) → mend_inside layouts o ≤ mend_pattern layouts o
      go None = omega arith
      go (Some p) = less (heads_of p)

  greatest-at : (ls : List Leaf) (k : ℕ) (leaf : Leaf) → slice_get ls k ≡ Some leaf → mend_leaf (choose_of layouts) leaf ≤ greatest (map (mend_leaf (choose_of layouts)) ls)
  greatest-at [] k leaf e = absurd cc
  greatest-at (l ∷ ls) zero leaf e = (let same = ap (mend_leaf (choose_of layouts)) (same_Some l leaf e) in omega (arith, same))
  greatest-at (l ∷ ls) (suc k) leaf e = (let r = greatest-at ls k leaf e in omega (arith, r))

  no-heads : (hs : List HeadAt) → (length hs == 0) ≡ true → sum_by cost hs ≡ 0
  no-heads [] e = refl
  no-heads (h ∷ hs) e = absurd (let x = same-nat (length (h ∷ hs)) 0 e in omega (arith, x))

  -- rebuilding what one leaf takes apart
  pub mend_within : (t : ℕ) → mend_of layouts t ≡ greatest (map (mend_leaf (choose_of layouts)) (leaves_of_layout (layout_of layouts t))) → (number : ℕ) → mend_below layouts t number [] ≤ rebuilding_bound layouts (Named t)
  mend_within t recurs number = in_layout (layout_of layouts t) refl
    where
      here : (layout : Layout) → layout_of layouts t ≡ Some layout → (leaf : Leaf) → slice_get layout.leaves number ≡ Some leaf → mend_below layouts t number [] ≡ sum_by cost (inner_heads leaf)
      here layout is leaf at = ap (λ o. mend_inside layouts (pattern_at (provenance o) [])) (ap (λ o. leaf_within o number) is ∙ at)

      in_both : (layout : Layout) → layout_of layouts t ≡ Some layout → (leaf : Leaf) → slice_get layout.leaves number ≡ Some leaf → (u : Bool) → takes_none_apart layouts t ≡ u → mend_below layouts t number [] ≤ (if u then 0 else mend_of layouts t)
      in_both layout is leaf at true plain =
          let a = here layout is leaf at in
          let s = all_at is_shallow layout.leaves number leaf (ap (λ o. list_all is_shallow (leaves_of_layout o)) (sym is) ∙ plain) at in
          let c = no-heads (inner_heads leaf) s in omega (arith, a, c)
      in_both layout is leaf at false plain =
          let a = here layout is leaf at in
          let g = greatest-at layout.leaves number leaf at in
          let e = ap (λ o. greatest (map (mend_leaf (choose_of layouts)) (leaves_of_layout o))) is in omega (arith, a, g, e, recurs)

      in_leaf : (layout : Layout) → layout_of layouts t ≡ Some layout → (o : Option Leaf) → slice_get layout.leaves number ≡ o → mend_below layouts t number [] ≤ rebuilding_bound layouts (Named t)
      in_leaf layout is None none = (let z = ap (λ o. mend_inside layouts (pattern_at (provenance o) [])) (ap (λ o. leaf_within o number) is ∙ none) in omega (arith, z))
      in_leaf layout is (Some leaf) at = in_both layout is leaf at (takes_none_apart layouts t) refl

      in_layout : (o : Option Layout) → layout_of layouts t ≡ o → mend_below layouts t number [] ≤ rebuilding_bound layouts (Named t)
      in_layout None is = (let z = ap (λ o. mend_inside layouts (pattern_at (provenance (leaf_within o number)) [])) is in omega (arith, z))
      in_layout (Some layout) is = in_leaf layout is (slice_get layout.leaves number) refl

  -- rebuilding fields of one leaf, each once
  pub mends_within : (t : ℕ) → mend_of layouts t ≡ greatest (map (mend_leaf (choose_of layouts)) (leaves_of_layout (layout_of layouts t))) → (number i : ℕ) → mends_at layouts t number [] i ≤ rebuilding_bound layouts (Named t)
  mends_within t recurs number i = (let a = mends_below t number [] i in let b = mend_within t recurs number in omega (arith, a, b))

-- Fields that are there

passed : (ts : List (Value → Bool)) (us : List Value) (k : ℕ) (t : Value → Bool) → all_pass ts us ≡ true → slice_get ts k ≡ Some t → (u : Value) × (slice_get us k ≡ Some u) × (t u ≡ true)
passed [] us k t all e = absurd cc
passed (x ∷ ts) [] k t all e = absurd (false≢true all)
passed (x ∷ ts) (u ∷ us) zero t all e = (u, refl, ap (λ f. f u) (sym (same_Some x t e)) ∙ (and_parts (x u) (all_pass ts us) all).0)
passed (x ∷ ts) (u ∷ us) (suc k) t all e = passed ts us k t (and_parts (x u) (all_pass ts us) all).1 e

get-tests : (ps : List Pat) (k : ℕ) (p : Pat) → slice_get ps k ≡ Some p → slice_get (map matches_of ps) k ≡ Some (matches_of p)
get-tests [] k p e = absurd cc
get-tests (q ∷ ps) zero p e = ap (λ (x : Pat). Some (matches_of x)) (same_Some q p e)
get-tests (q ∷ ps) (suc k) p e = get-tests ps k p e

begun : (d : ℕ) (ts : List (Value → Bool)) (l : Value-F Value) → is_con d ts l ≡ true → (us : List Value) × (subs_in l ≡ us) × (all_pass ts us ≡ true)
begun d ts (V.Num n) e = absurd (false≢true e)
begun d ts (V.Con k us) e = let b = and_parts (d == k) (all_pass ts us) e in (us, refl, b.1)

-- a value that a pattern matches has a part at each of its paths, which the pattern there matches
pub has_sub : (q : Pat) (v : Value) (field : ℕ) (sub : Pat) → slice_get (subpatterns (out-Pat q)) field ≡ Some sub → matches_of q v ≡ true → (part : Value) × (slice_get (subs_in (out-Value v)) field ≡ Some part) × (matches_of sub part ≡ true)
has_sub q v field sub = induction (λ q. slice_get (subpatterns (out-Pat q)) field ≡ Some sub → matches_of q v ≡ true → (part : Value) × (slice_get (subs_in (out-Value v)) field ≡ Some part) × (matches_of sub part ≡ true)) (record {
  wild = λ at e m. absurd (let z = ap (λ l. slice_get (subpatterns l) field) (sym (outs-Wild at)) ∙ e in cc);
  var = λ at x e m. absurd (let z = ap (λ l. slice_get (subpatterns l) field) (sym (outs-Var at x)) ∙ e in cc);
  num = λ at n e m. absurd (let z = ap (λ l. slice_get (subpatterns l) field) (sym (outs-Num at n)) ∙ e in cc);
  con = λ at c ps each e m.
      let b = begun c.con (map matches_of ps) (out-Value v) (sym (matches-Con v at c ps) ∙ m) in
      let s = get-tests ps field sub (ap (λ l. slice_get (subpatterns l) field) (sym (outs-Con at c ps)) ∙ e) in
      let r = passed (map matches_of ps) b.0 field (matches_of sub) b.2 s in
      (r.0, ap (λ us. slice_get us field) b.1 ∙ r.1, r.2);
}) q

pub has_below : (q : Pat) (v : Value) (path : List ℕ) (sub : Pat) → pattern_at (Some q) path ≡ Some sub → matches_of q v ≡ true → (part : Value) × (part_at v path ≡ Some part)
has_below q v [] sub e m = (v, refl)
has_below q v (i ∷ path) sub e m = go (λ p u e m. has_below p u path sub e m) (slice_get (subpatterns (out-Pat q)) i) refl e
  where
    go : ((p : Pat) (u : Value) → pattern_at (Some p) path ≡ Some sub → matches_of p u ≡ true → (part : Value) × (part_at u path ≡ Some part))
        → (o : Option Pat) → slice_get (subpatterns (out-Pat q)) i ≡ o → pattern_at o path ≡ Some sub → (part : Value) × (part_at v (i ∷ path) ≡ Some part)
    go below None is e = absurd cc
    go below (Some p) is e =
        let h = has_sub q v i p is m in
        let r = below p h.0 e h.2 in
        (r.0, ap (λ o. part_from o path) h.1 ∙ r.1)

pub has_part : (plan : Plan) (t number : ℕ) (path : List ℕ) (layout : Layout) (leaf : Leaf) (sub : Pat) → layout_of plan.layouts t ≡ Some layout → slice_get layout.leaves number ≡ Some leaf → pattern_at (Some leaf.prov) path ≡ Some sub
    → HasPart plan t number path
has_part plan t number path layout leaf sub is at is_sub = λ v layout1 is1 is_leaf.
    let same : layout1 ≡ layout = same_Some layout1 layout (sym is1 ∙ is) in
    let e : leaf_of layout v ≡ Some number = ap (λ (y : Layout). leaf_of y v) (sym same) ∙ is_leaf in
    let start : 0 + number ≡ number = omega arith in
    has_below leaf.prov v path sub is_sub (leaf_matches layout.leaves v 0 number leaf e number start at)

-- mending is what its recursion says, in each plan of the agreed program
abbrev pub MendsIn : LaidOut → Type 0
MendsIn agreed = (plan : Plan) → IsPlanOf agreed plan → (t : ℕ) → mend_of plan.layouts t ≡ greatest (map (mend_leaf (choose_of plan.layouts)) (leaves_of_layout (layout_of plan.layouts t)))

pub mends_in : (agreed : LaidOut) → Agrees agreed.covered.program → agreed.layouts ≡ flat_layouts agreed.covered.program → MendsIn agreed
mends_in agreed agrees flat = λ plan of t.
    subst (λ ls. mend_of ls t ≡ greatest (map (mend_leaf (choose_of ls)) (leaves_of_layout (layout_of ls t)))) (sym (of.layouts ∙ flat)) (mending_recurs (flat_layouts agreed.covered.program) agrees.a9 t)
