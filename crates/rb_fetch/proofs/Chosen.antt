-- The choice of a construction's leaf, look by look.
use Rattle.std.proofs.Common.{◌≡◌, ℕ, zero, suc, ◌+◌, ◌<◌, ◌≤◌, ◌==◌, ◌⊎◌, inl, inr, length, List, [], ◌∷◌, ◌++◌, Bool, true, false, Some, refl, sym, subst, ap, ◌∙◌, arith, drop, get_or}
use Rattle.std.specs.Prelude.{slice_get, if◌then◌else◌}
use Rattle.std.proofs.lemmas.Option.{same_Some}
use Rattle.rb_core.specs.declared.value.Value.{Value, out-Value}
use Rattle.rb_core.specs.declared.types.Ty.TheVariants.{Named}
use Rattle.rb_core.specs.declared.types.ConRef.{ConRef}
use Rattle.rb_core.specs.declared.pattern.Pat.{Pat, out-Pat, Con as ConPat}
use Rattle.rb_core.specs.declared.pattern.Pat.TheFolds.{fold-Pat}
use Rattle.rb_core.specs.declared.pattern.Pat.TheVariants.{outs-Wild, outs-Var, outs-Num}
use Rattle.rb_core.specs.declared.program.Program.{Program}
use Rattle.rb_core.specs.Matching.{matches_of}
use Rattle.rb_core.specs.TypedPrograms.{IsTyped}
use Rattle.rb_core.specs.Values.{is_of_type}
use Rattle.rb_core.specs.WellNumbered.{Below, below_step, either, may_be_below}
use Rattle.rb_core.proofs.PatternLaws as PL
use Rattle.rb_target.specs.declared.instr.Instr.TheVariants.{Jump}
use Rattle.rb_target.specs.Growth.{Grows}
use Rattle.rb_target.specs.Sheet.{Sheet, with_more}
use Rattle.rb_target.proofs.Growing.{Grows-append, Keeps-refl, get-seam}
use Rattle.rb_layout.specs.declared.agreed.LaidOut.{LaidOut}
use Rattle.rb_layout.specs.declared.layout.Layout.{Layout}
use Rattle.rb_layout.specs.declared.layout.Leaf.{Leaf}
use Rattle.rb_layout.specs.Agreement.{Agrees, AreAgreed}
use Rattle.rb_layout.specs.Flattening.{flat_layouts}
use Rattle.rb_layout.specs.Positions.{leaf_from, leaf_of, layout_of, open_positions, opens_of, root_type}
use Rattle.rb_rel.specs.Switches.{HeadAt, begins_with, heads_of, heads_step, inner_heads, is_leaf_for}
use Rattle.rb_rel.proofs.Agreeing.{lawful}
use Rattle.rb_rel.proofs.Leaves.{leaf_matches}
use Rattle.rb_rel.proofs.Reading.{same_nat}
use Rattle.rb_fragment.specs.Adding.{Adds}
use Rattle.rb_fragment.specs.Plan.{Plan}
use Rattle.rb_fragment.proofs.Adding.{Adds-refl, push_adds}
use Rattle.rb_compose.specs.declared.subvalue.Subvalue.{Subvalue}
use Rattle.rb_compose.specs.Subvalues.{AreGivenAt}
use Rattle.rb_fetch.specs.declared.choice.Way.{Way}
use Rattle.rb_fetch.specs.declared.heads.Place.{Place}
use Rattle.rb_fetch.specs.declared.known.Seen.{Seen}
use Rattle.rb_fetch.specs.Finding.{IsPlanOf, leaf_within}
use Rattle.rb_fetch.specs.declared.asking.Question.{Question}
use Rattle.rb_fetch.specs.inner.Asking.{AsksFor, NeedsNone}
use Rattle.rb_fetch.specs.inner.Choosing.{AreEndOf, AreOpen, AreWaysOf, ChoosesBy, ChoosesFrom, ChoosesWays, Follows, HasAll, HasOpens, IsWayOf, HasCon, IsEndOf, ChoiceIsReady, root_con}
use Rattle.rb_fetch.specs.inner.Fields.{leaf_at}
use Rattle.rb_fetch.specs.inner.Heads.{AreLookedAt, IsNext, is_among, shown_head, shown_heads}
use Rattle.rb_fetch.proofs.Constructors.{heads-Con, is_matched, shows}
use Rattle.rb_fetch.proofs.Finding.{of_plan}
use Rattle.rb_fetch.proofs.Ways.{given_at}
use Rattle.rb_rel.proofs.Lists.{get-mapped, get-map}

first_rest : (ns : List ℕ) → 1 ≤ length ns → (rest : List ℕ) × (ns ≡ get_or ns 0 0 ∷ rest)
first_rest [] le = absurd (omega (arith, le))
first_rest (n ∷ ns) le = (ns, refl)

-- Roots -------------------------------------------------------------------------------------------

-- the constructor at the root of a pattern
pub record IsRooted (p : Pat) (k : ℕ) : Type 0 where
  pub con : ConRef
  pub is_root : slice_get (heads_of p) 0 ≡ Some (record { path = []; con = con })
  pub is_con : con.con ≡ k

pub rooted : (k : ℕ) (p : Pat) → begins_with k (heads_of p) ≡ true → IsRooted p k
rooted k = PL.induction (λ p. begins_with k (heads_of p) ≡ true → IsRooted p k) (record {
  wild = λ at e. absurd (let z = ap (begins_with k) (sym (PL.fold-Wild (List HeadAt) heads_step at)) ∙ e in cc);
  var = λ at x e. absurd (let z = ap (begins_with k) (sym (PL.fold-Var (List HeadAt) heads_step at x)) ∙ e in cc);
  num = λ at n e. absurd (let z = ap (begins_with k) (sym (PL.fold-Num (List HeadAt) heads_step at n)) ∙ e in cc);
  con = λ at c ps each e.
      record {
        con = c;
        is_root = ap (λ (hs : List HeadAt). slice_get hs 0) (heads-Con at c ps);
        is_con = same_nat c.con k (ap (begins_with k) (sym (heads-Con at c ps)) ∙ e);
      };
})

-- a value that a provenance matches is by its constructor
pub begins : (k : ℕ) (p : Pat) (v : Value) (t : ℕ) → root_type (out-Pat p) ≡ Named t → matches_of p v ≡ true → root_con (out-Value v) ≡ Some k → begins_with k (heads_of p) ≡ true
begins k p v t = PL.induction (λ q. root_type (out-Pat q) ≡ Named t → matches_of q v ≡ true → root_con (out-Value v) ≡ Some k → begins_with k (heads_of q) ≡ true) (record {
  wild = λ at r m e. absurd (let z = ap root_type (sym (outs-Wild at)) ∙ r in cc);
  var = λ at x r m e. absurd (let z = ap root_type (sym (outs-Var at x)) ∙ r in cc);
  num = λ at n r m e. absurd (let z = ap root_type (sym (outs-Num at n)) ∙ r in cc);
  con = λ at c ps each r m e.
      let h = shows (ConPat at c ps) v m 0 (record { path = []; con = c }) (ap (λ (hs : List HeadAt). slice_get hs 0) (heads-Con at c ps)) in
      let same : v ≡ h.0 = same_Some v h.0 h.1 in
      let con : c.con ≡ k = same_Some c.con k (sym h.2 ∙ ap (λ u. root_con (out-Value u)) (sym same) ∙ e) in
      ap (begins_with k) (heads-Con at c ps) ∙ ap (λ n. n == k) con ∙ self k;
}) p
  where
    self : (n : ℕ) → (n == n) ≡ true
    self n = grind arith

-- constructors at one position are the same
pub con_same : (v : Value) (path : List ℕ) (a b : ℕ) → HasCon v path a → HasCon v path b → a ≡ b
con_same v path a b x y =
    let same : x.0 ≡ y.0 = same_Some x.0 y.0 (sym x.1 ∙ y.1) in
    same_Some a b (sym x.2 ∙ ap (λ u. root_con (out-Value u)) same ∙ y.2)

drop-one : (hs : List HeadAt) (j : ℕ) → slice_get (drop 1 hs) j ≡ slice_get hs (suc j)
drop-one [] j = refl
drop-one (h ∷ hs) j = refl

-- The leaf of a value -----------------------------------------------------------------------------

-- where a leaf matches, the value has a leaf
record IsSomeLeaf (leaves : List Leaf) (v : Value) (at : ℕ) : Type 0 where
  number : ℕ
  leaf : Leaf
  is_number : slice_get leaves number ≡ Some leaf
  is_leaf : leaf_from leaves v at ≡ Some (at + number)

some_leaf : (leaves : List Leaf) (v : Value) (at n : ℕ) (leaf : Leaf) → slice_get leaves n ≡ Some leaf → matches_of leaf.prov v ≡ true → IsSomeLeaf leaves v at
some_leaf [] v at n leaf is m = absurd cc
some_leaf (x ∷ leaves) v at n leaf is m = go (matches_of x.prov v) refl n is (λ i e. some_leaf leaves v (at + 1) i leaf e m)
  where
    go : (b : Bool) → matches_of x.prov v ≡ b → (n : ℕ) → slice_get (x ∷ leaves) n ≡ Some leaf → ((i : ℕ) → slice_get leaves i ≡ Some leaf → IsSomeLeaf leaves v (at + 1)) → IsSomeLeaf (x ∷ leaves) v at
    go true e n1 is1 rest = let z : at ≡ at + 0 = omega arith in record { number = 0; leaf = x; is_number = refl; is_leaf = ap (λ b. if b then Some at else leaf_from leaves v (at + 1)) e ∙ ap Some z }
    go false e zero is1 rest = absurd (let q = sym e ∙ ap (λ (y : Leaf). matches_of y.prov v) (same_Some x leaf is1) ∙ m in cc)
    go false e (suc i) is1 rest =
        let r = rest i is1 in
        let z : at + 1 + r.number ≡ at + suc r.number = omega arith in
        record { number = suc r.number; leaf = r.leaf; is_number = r.is_number; is_leaf = ap (λ b. if b then Some at else leaf_from leaves v (at + 1)) e ∙ r.is_leaf ∙ ap Some z }

-- the leaf that is a value's, by number
pub record HasLeafAt (layout : Layout) (v : Value) : Type 0 where
  pub number : ℕ
  pub leaf : Leaf
  pub is_number : slice_get layout.leaves number ≡ Some leaf
  pub is_leaf : leaf_of layout v ≡ Some number

module _ (p : Program) (agrees : Agrees p) (t : ℕ) (layout : Layout) (is : layout_of (flat_layouts p) t ≡ Some layout) where
  pub leaf_found : (v : Value) → is_of_type p.types v (Named t) ≡ true → HasLeafAt layout v
  leaf_found v typed =
      let c = agrees.a5.complete t layout is v typed in
      let s = some_leaf layout.leaves v 0 c.0 c.1 c.2 c.3 in
      let z : 0 + s.number ≡ s.number = omega arith in
      record { number = s.number; leaf = s.leaf; is_number = s.is_number; is_leaf = s.is_leaf ∙ ap Some z }

  -- a leaf that matches is the value's
  pub leaf_same : (v : Value) → is_of_type p.types v (Named t) ≡ true → (n m : ℕ) (a b : Leaf) → slice_get layout.leaves n ≡ Some a → slice_get layout.leaves m ≡ Some b
      → matches_of a.prov v ≡ true → matches_of b.prov v ≡ true → n ≡ m
  leaf_same v typed n m a b ea eb ma mb = elim (three n m) [
    | inl e ↦ e
    | inr (inl lt) ↦ absurd (agrees.a5.apart t layout n a is ea m b lt eb (v, typed, ma, mb))
    | inr (inr lt) ↦ absurd (agrees.a5.apart t layout m b is eb n a lt ea (v, typed, mb, ma))
  ]
    where
      three : (p1 q : ℕ) → (p1 ≡ q) ⊎ ((p1 < q) ⊎ (q < p1))
      three zero zero = inl refl
      three zero (suc q) = inr (inl (omega arith))
      three (suc p1) zero = inr (inr (omega arith))
      three (suc p1) (suc q) = elim (three p1 q) [ inl e ↦ inl (ap suc e) | inr (inl lt) ↦ inr (inl (omega (arith, lt))) | inr (inr lt) ↦ inr (inr (omega (arith, lt))) ]

pub matched_leaf : (layout : Layout) (v : Value) (n : ℕ) (leaf : Leaf) → leaf_of layout v ≡ Some n → slice_get layout.leaves n ≡ Some leaf → matches_of leaf.prov v ≡ true
matched_leaf layout v n leaf e is = let z : 0 + n ≡ n = omega arith in leaf_matches layout.leaves v 0 n leaf e n z is

-- a head below the root
pub inner_shows : (leaf : Leaf) (v : Value) → matches_of leaf.prov v ≡ true → (j : ℕ) (h : HeadAt) → slice_get (inner_heads leaf) j ≡ Some h → HasCon v h.path h.con.con
inner_shows leaf v m j h e = shows leaf.prov v m (suc j) h (sym (drop-one (heads_of leaf.prov) j) ∙ e)

-- No leaf, and the end of a way -------------------------------------------------------------------

pub none_chooses : (agreed : LaidOut) (t : ℕ) (seen : Seen) (xs : List Subvalue) (old : Sheet) → ChoosesFrom agreed t [] seen xs old old []
none_chooses agreed t seen xs old plan k layout ready = record {
  adds = Adds-refl plan old;
  are_ways = λ i way e. absurd cc;
  takes = λ v typed parts follows n i is at. absurd cc;
}

module _ (agreed : LaidOut) (typed : IsTyped agreed.covered.program) (flat : agreed.layouts ≡ flat_layouts agreed.covered.program) (agrees : Agrees agreed.covered.program) (t : ℕ) where
  module _ (plan : Plan) (k : ℕ) (layout : Layout) (n : ℕ) (rest : List ℕ) (seen : Seen) (xs : List Subvalue) (old : Sheet) (ready : ChoiceIsReady agreed plan t k layout (n ∷ rest) xs old.slots)
      (leaf : Leaf) (is_leaf : slice_get layout.leaves n ≡ Some leaf) (all : (j : ℕ) (h : HeadAt) → slice_get (inner_heads leaf) j ≡ Some h → is_among seen.looked h.path ≡ true) where
    abbrev sound : IsTyped plan.program × AreAgreed plan.program plan.layouts
    sound = of_plan agreed typed flat agrees t plan ready.of

    is_flat : layout_of (flat_layouts plan.program) t ≡ Some layout
    is_flat = ap (λ ls. layout_of ls t) (sym sound.1.0) ∙ ready.is_layout

    -- what a value shows of all places is all that the leaf asks
    pub end_is : (v : Value) → is_of_type plan.program.types v (Named t) ≡ true → Follows layout v (n ∷ rest) seen → (m i : ℕ) → leaf_of layout v ≡ Some m → slice_get (n ∷ rest) i ≡ Some m → n ≡ m
    end_is v of follows m i is at =
        let law = (lawful plan.program sound.1.1 sound.0).provenances in
        let own = ready.are_leaves i m at in
        let matches = matched_leaf layout v m own.0 is own.1 in
        let root_of_own = rooted k own.0.prov own.2 in
        let h0 = shows own.0.prov v matches 0 (record { path = []; con = root_of_own.con }) root_of_own.is_root in
        let here = ready.are_leaves 0 n refl in
        let same : here.0 ≡ leaf = same_Some here.0 leaf (sym here.1 ∙ is_leaf) in
        let r = rooted k leaf.prov (subst (λ (y : Leaf). is_leaf_for k y ≡ true) same here.2) in
        let root : HasCon v [] r.con.con = (h0.0, h0.1, h0.2 ∙ ap Some (root_of_own.is_con ∙ sym r.is_con)) in
        let has : HasAll (heads_of leaf.prov) v = λ j h e. all_heads r root j h e in
        let matched = is_matched plan.program.types leaf.prov v (Named t) (shaped (law.shaped t layout n leaf is_flat is_leaf)) (law.fits t layout n leaf is_flat is_leaf) of has in
        leaf_same plan.program sound.1.1 t layout is_flat v of n m leaf own.0 is_leaf own.1 matched matches
      where
        shaped : (fold-Pat Below below_step leaf.prov).provenance ≡ true → may_be_below (fold-Pat Below below_step leaf.prov) ≡ true
        shaped e = go (fold-Pat Below below_step leaf.prov).wild (fold-Pat Below below_step leaf.prov).provenance e
          where
            go : (a b : Bool) → b ≡ true → either a b ≡ true
            go true b h = refl
            go false b h = h

        all_heads : (r : IsRooted leaf.prov k) → HasCon v [] r.con.con → HasAll (heads_of leaf.prov) v
        all_heads r root zero h e =
            let same : record { path = []; con = r.con } ≡ h = same_Some _ h (sym r.is_root ∙ e) in
            subst (λ (x : HeadAt). HasCon v x.path x.con.con) same root
        all_heads r root (suc j) h e =
            let inner : slice_get (inner_heads leaf) j ≡ Some h = drop-one (heads_of leaf.prov) j ∙ e in
            follows.1 0 n leaf j h refl is_leaf inner (all j h inner)

    abbrev the_way : Way
    the_way = record { pc = length old.code; leaf = n; fields = xs }

    abbrev ended : Sheet
    ended = with_more old (Jump (length old.code + 1))

    end_adds : Adds plan old ended
    end_adds = push_adds plan old (Jump (length old.code + 1)) (record { bounded = tt; slots_fit = tt; targets = (omega arith, omega arith); calls = tt })

    end_chooses : HasOpens (opens_of agreed.covered.program.types leaf.prov (Named t)) [] xs → ChoosesWays plan t k layout (n ∷ rest) seen xs old ended (the_way ∷ [])
    end_chooses opens =
        let law = (lawful plan.program sound.1.1 sound.0).provenances in
        let root : root_type (out-Pat leaf.prov) ≡ Named t = law.root t layout n leaf is_flat is_leaf in
        let opens1 : HasOpens (open_positions plan.program.types leaf.prov) [] xs =
        subst (λ ty. HasOpens (opens_of plan.program.types leaf.prov ty) [] xs) (sym root) (subst (λ (q : Program). HasOpens (opens_of q.types leaf.prov (Named t)) [] xs) (sym ready.of.program) opens) in
        let given = given_at plan old.slots (open_positions plan.program.types leaf.prov) xs opens1 ready.given in
        record {
          adds = end_adds;
          are_ways = λ i way e. one_way given i way e;
          takes = λ v of parts follows m i is at.
              let same = end_is v of follows m i is at in
              record {
                number = 0;
                way = the_way;
                is_way = refl;
                is_leaf = same;
                parts = parts;
                does = λ clean. record {
                  adds = end_adds;
                  low = omega arith;
                  runs = λ final callee next law1 agrees1 s w long pre.
                      (length old.code, s, w, refl, Keeps-refl old.slots s, record { memory = refl; left = refl; switches = omega arith }, (refl, pre.1));
                };
              };
        }
      where
        one_way : AreGivenAt plan old.slots (open_positions plan.program.types leaf.prov) xs → AreWaysOf plan layout ended.slots (the_way ∷ [])
        one_way given zero way e = subst (λ (y : Way). IsWayOf plan layout ended.slots y) (same_Some the_way way e) (leaf, is_leaf, given)
        one_way given (suc i) way e = absurd cc

  shown_all : (looked : List (List ℕ)) (ps : List Place) (leaf : Leaf) → shown_heads ps ≡ inner_heads leaf → AreLookedAt looked ps
      → (j : ℕ) (h : HeadAt) → slice_get (inner_heads leaf) j ≡ Some h → is_among looked h.path ≡ true
  shown_all looked ps leaf shown all j h e =
      let g = get-map shown_head ps j h (ap (λ (hs : List HeadAt). slice_get hs j) shown ∙ e) in
      ap (λ (x : HeadAt). is_among looked x.path) g.2 ∙ all j g.0 g.1

  abbrev leaf_of_plan : (plan : Plan) → IsPlanOf agreed plan → (layout : Layout) → layout_of plan.layouts t ≡ Some layout → (n : ℕ) (leaf : Leaf) → leaf_at agreed.layouts t n ≡ Some leaf → slice_get layout.leaves n ≡ Some leaf
  leaf_of_plan plan of layout is n leaf at = ap (λ o. leaf_within o n) (sym (ap (λ ls. layout_of ls t) (sym of.layouts) ∙ is)) ∙ at

  pub ends : (n : ℕ) (rest : List ℕ) (seen : Seen) (xs : List Subvalue) (old new : Sheet) (way : Way) (ps : List Place) (leaf : Leaf) → leaf_at agreed.layouts t n ≡ Some leaf → shown_heads ps ≡ inner_heads leaf
      → AreLookedAt seen.looked ps → IsEndOf agreed t n xs old new way → ChoosesFrom agreed t (n ∷ rest) seen xs old new (way ∷ [])
  ends n rest seen xs old new way ps leaf at shown all end plan k layout ready =
      let is_leaf = leaf_of_plan plan ready.of layout ready.is_layout n leaf at in
      let same : end.leaf ≡ leaf = same_Some end.leaf leaf (sym end.is_leaf ∙ at) in
      let opens = subst (λ (y : Leaf). HasOpens (opens_of agreed.covered.program.types y.prov (Named t)) [] xs) same end.opens in
      let c = end_chooses plan k layout n rest seen xs old ready leaf is_leaf (shown_all seen.looked ps leaf shown all) opens in
      subst (λ (y : Way). ChoosesWays plan t k layout (n ∷ rest) seen xs old new (y ∷ [])) (sym end.is_way)
      (subst (λ (b : Sheet). ChoosesWays plan t k layout (n ∷ rest) seen xs old b (record { pc = length old.code; leaf = n; fields = xs } ∷ [])) (sym end.code) c)

  -- a constructor at which no look was
  pub looks : (n : ℕ) (rest : List ℕ) (seen : Seen) (xs : List Subvalue) (old new : Sheet) (ways : List Way) (ps : List Place) (p : Place) (leaf : Leaf) → leaf_at agreed.layouts t n ≡ Some leaf → shown_heads ps ≡ inner_heads leaf
      → IsNext seen.looked ps p → ChoosesBy agreed t (n ∷ rest) seen xs p.path p.con.ty old new ways → ChoosesFrom agreed t (n ∷ rest) seen xs old new ways
  looks n rest seen xs old new ways ps p leaf at shown next by plan k layout ready =
      let is_leaf = leaf_of_plan plan ready.of layout ready.is_layout n leaf at in
      by plan k layout ready (record {
        index = 0;
        number = n;
        leaf = leaf;
        place = next.0;
        head = shown_head p;
        is_number = refl;
        is_leaf = is_leaf;
        is_head = ap (λ (hs : List HeadAt). slice_get hs next.0) (sym shown) ∙ get-mapped shown_head ps next.0 p next.1;
        is_path = refl;
        is_type = refl;
        is_new = next.2;
      })

  -- the same where the first leaf is that of a list
  module _ (ls : List ℕ) (some : 1 ≤ length ls) (seen : Seen) (xs : List Subvalue) (old new : Sheet) (ps : List Place) (leaf : Leaf) (at : leaf_at agreed.layouts t (get_or ls 0 0) ≡ Some leaf)
      (shown : shown_heads ps ≡ inner_heads leaf) where
    pub first_ends : (way : Way) (none ways : List Way) → AreLookedAt seen.looked ps → IsEndOf agreed t (get_or ls 0 0) xs old new way → none ≡ [] → ways ≡ none ++ way ∷ [] → ChoosesFrom agreed t ls seen xs old new ways
    first_ends way none ways all end empty is =
        let r = first_rest ls some in
        let e : ways ≡ way ∷ [] = is ∙ ap (λ (ws : List Way). ws ++ way ∷ []) empty in
        subst (λ ns. ChoosesFrom agreed t ns seen xs old new ways) (sym r.1)
        (subst (λ (ws : List Way). ChoosesFrom agreed t (get_or ls 0 0 ∷ r.0) seen xs old new ws) (sym e) (ends (get_or ls 0 0) r.0 seen xs old new way ps leaf at shown all end))

    pub first_looks : (ways : List Way) (p : Place) → IsNext seen.looked ps p → ChoosesBy agreed t ls seen xs p.path p.con.ty old new ways → ChoosesFrom agreed t ls seen xs old new ways
    first_looks ways p next by =
        let r = first_rest ls some in
        subst (λ ns. ChoosesFrom agreed t ns seen xs old new ways) (sym r.1)
        (looks (get_or ls 0 0) r.0 seen xs old new ways ps p leaf at shown next (subst (λ ns. ChoosesBy agreed t ns seen xs p.path p.con.ty old new ways) r.1 by))

-- What follows of the answer to what is asked next ------------------------------------------------

module _ (agreed : LaidOut) (t : ℕ) (leaves : List ℕ) (some : 1 ≤ length leaves) (seen : Seen) (xs : List Subvalue) (old new : Sheet) (ways : List Way) where
  pub none_asked : NeedsNone agreed t (get_or leaves 0 0) seen → AreEndOf agreed t (get_or leaves 0 0) xs old new ways → ChoosesFrom agreed t leaves seen xs old new ways
  none_asked none end =
      first_ends agreed none.has.sound.typed none.has.sound.flat none.has.sound.agrees t leaves some seen xs old new none.places none.has.leaf none.has.is_leaf none.has.are_places
      end.0 [] ways none.looked end.2 refl end.1

  pub some_asked : (question : Question) → AsksFor agreed t (get_or leaves 0 0) seen xs question → ChoosesBy agreed t leaves seen xs question.place.path question.place.con.ty old new ways
      → ChoosesFrom agreed t leaves seen xs old new ways
  some_asked question asks by =
      first_looks agreed asks.has.sound.typed asks.has.sound.flat asks.has.sound.agrees t leaves some seen xs old new asks.places asks.has.leaf asks.has.is_leaf asks.has.are_places
      ways question.place asks.next by

pub end_open : (agreed : LaidOut) (t n : ℕ) (xs : List Subvalue) (old new : Sheet) (way : Way) → IsEndOf agreed t n xs old new way → AreOpen (length old.code) new.code (way ∷ []) × Grows old.code new.code
end_open agreed t n xs old new way end =
    let pc : way.pc ≡ length old.code = ap (λ (y : Way). y.pc) end.is_way in
    let at : slice_get (old.code ++ Jump (length old.code + 1) ∷ []) (length old.code) ≡ Some (Jump (length old.code + 1)) = get-seam old.code (Jump (length old.code + 1)) [] in
    let code : slice_get new.code way.pc ≡ Some (Jump (length old.code + 1)) = ap (λ (b : Sheet). slice_get b.code way.pc) end.code ∙ ap (λ q. slice_get (old.code ++ Jump (length old.code + 1) ∷ []) q) pc ∙ at in
    let low : length old.code ≤ way.pc = omega (arith, pc) in
    let grows : Grows old.code new.code = subst (λ (b : Sheet). Grows old.code b.code) (sym end.code) (Grows-append old.code (Jump (length old.code + 1) ∷ [])) in
    ((low, (length old.code + 1, code), tt), grows)

pub ends_open : (agreed : LaidOut) (t n : ℕ) (xs : List Subvalue) (old new : Sheet) (ways : List Way) → AreEndOf agreed t n xs old new ways → AreOpen (length old.code) new.code ways × Grows old.code new.code
ends_open agreed t n xs old new ways end =
    let r = end_open agreed t n xs old new end.0 end.2 in
    (subst (λ (ws : List Way). AreOpen (length old.code) new.code ws) (sym end.1) r.0, r.1)
