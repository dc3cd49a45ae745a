-- What a leaf has taken apart is rebuilt: parts are fetched, and values constructed of them without a block.
use Rattle.std.proofs.Common.{◌≡◌, ℕ, zero, suc, ◌+◌, ◌<◌, ◌≤◌, inl, inr, map, take, length, List, [], ◌∷◌, ◌++◌, Bool, Option, Some, None, Result, IfOk, refl, sym, subst, ap, ◌∙◌, arith, length-append}
use Rattle.std.specs.Prelude.{slice_get, unwrap_or}
use Rattle.std.specs.List.{flat_map, sum_by}
use Rattle.std.proofs.lemmas.List.{map-append}
use Rattle.std.proofs.lemmas.List.Sums.{sum_by-cons}
use Rattle.std.proofs.lemmas.Option.{same_Some}
use Rattle.std.proofs.lemmas.Result.{IfOk-weaker}
use Rattle.rb_core.specs.declared.value.Value.{Value}
use Rattle.rb_core.specs.declared.value.Value as Values
use Rattle.rb_core.specs.declared.types.Ty.{Ty}
use Rattle.rb_core.specs.declared.types.Ty.TheVariants.{Named}
use Rattle.rb_core.specs.declared.types.ConRef.{ConRef}
use Rattle.rb_core.specs.declared.types.DataDecl.{DataDecl}
use Rattle.rb_core.specs.declared.pattern.Pat.{Pat, Wild, Con, out-Pat}
use Rattle.rb_core.specs.declared.pattern.Pat.TheVariants.{outs-Wild, outs-Var, outs-Num, outs-Con}
use Rattle.rb_core.specs.declared.pattern.Pat.TheOpen as P
use Rattle.rb_core.specs.declared.pattern.Pat.TheOpen.{Pat-F}
use Rattle.rb_core.specs.declared.program.Program.{Program}
use Rattle.rb_core.specs.Typing.{field_types}
use Rattle.rb_core.specs.TypedPrograms.{IsTyped}
use Rattle.rb_core.specs.Values.{fields_of, subs}
use Rattle.rb_core.proofs.PatternLaws as PL
use Rattle.rb_bytes.specs.Memory.{Memory, IsGood}
use Rattle.rb_bytes.proofs.GrowthLemmas.{Grown-extends, Grown-refl}
use Rattle.rb_target.specs.Growth.{Keeps, Nowhere}
use Rattle.rb_target.specs.Meaning.{World, slots_at}
use Rattle.rb_target.specs.Sheet.{Sheet}
use Rattle.rb_layout.specs.declared.agreed.LaidOut.{LaidOut}
use Rattle.rb_layout.specs.declared.layout.Block.{Block}
use Rattle.rb_layout.specs.declared.layout.Layout.{Layout}
use Rattle.rb_layout.specs.declared.layout.Leaf.{Leaf}
use Rattle.rb_layout.specs.A9.{HasPointerPart, LeafFlattens, cons_below, cons_below_root, pattern_cons, cons_step}
use Rattle.rb_layout.specs.Agreement.{Agrees}
use Rattle.rb_layout.specs.Flattening.{flat_layouts}
use Rattle.rb_layout.specs.Positions.{leaf_of, layout_of, pair_of, sub_in, sub_of_layer, sub_pattern, types_or_none}
use Rattle.rb_layout.specs.inner.Walking.{open_type}
use Rattle.rb_rel.specs.Placing.{leaf_requests, blocks_of, lay, leaf_in, leaf_numbered, request_of}
use Rattle.rb_rel.specs.Switches.{choose_of}
use Rattle.rb_rel.proofs.Agreeing.{lawful}
use Rattle.rb_fragment.specs.declared.held.Held.{Held}
use Rattle.rb_fragment.specs.Fragments.{Comes}
use Rattle.rb_fragment.specs.Owing.{Ends}
use Rattle.rb_core.specs.declared.outcome.SourceEnd.TheVariants.{Done}
use Rattle.rb_fragment.specs.Holding.{AreHeld, held_type}
use Rattle.rb_fragment.specs.Pieces.{AtEnd, CodePiece}
use Rattle.rb_fragment.specs.Plan.{Plan, Rep, words_needed}
use Rattle.rb_fragment.specs.Slots.{AllBelow, IsOneOf}
use Rattle.rb_fragment.proofs.Adding.{Adds-refl, Adds-trans}
use Rattle.rb_fragment.proofs.Holds.{AllBelow-more, AllGiven-append, AllGiven-more, AreHeld-append, AreHeld-kept, slots_at-kept}
use Rattle.rb_fragment.proofs.Moves.{one-from}
use Rattle.rb_fragment.proofs.Pieces.{piece_frame, piece_none, piece_seq, piece_weaken}
use Rattle.rb_fetch.specs.Constructing.{AreAsShown, Constructs, IsConstructed}
use Rattle.rb_fetch.specs.Fields.{FetchesField}
use Rattle.rb_fetch.specs.Positions.{PositionAt, found_at, mend_under}
use Rattle.rb_fetch.specs.Finding.{leaf_within}
use Rattle.rb_fetch.specs.inner.Fields.{leaf_at}
use Rattle.rb_fetch.specs.inner.Rebuilding.{FetchesOpen, FetchesPart, FetchesParts, pattern_at, sub_at}
use Rattle.rb_fetch.proofs.Costs.{has-flat}
use Rattle.rb_fetch.proofs.Finding.{of_plan}
use Rattle.rb_fetch.proofs.Positions.{IsPlace, con_place, con_value, field_part, found-append, leaf_matches, mend-Con, open_position, part_matches, passed_many, place_at, position_open, root_place, sub-Con}

-- Patterns -----------------------------------------------------------------------------------------

module _ (types : List DataDecl) where
  sub_same : (p : Pat) (i : ℕ) (q : Pat) (u : Ty) → sub_pattern types p i ≡ Some (q, u) → sub_at p i ≡ Some q
  sub_same p i q u e = go (out-Pat p) e
    where
      pick : (a : Option Pat) (b : Option Ty) → pair_of a b ≡ Some (q, u) → a ≡ Some q
      pick None b h = absurd cc
      pick (Some x) None h = absurd cc
      pick (Some x) (Some t) h = ap (λ (y : Pat × Ty). Some y.0) (same_Some (x, t) (q, u) h)

      go : (l : Pat-F Pat) → sub_in types l i ≡ Some (q, u) → sub_of_layer l i ≡ Some q
      go (P.Wild at) h = absurd cc
      go (P.Var at x) h = absurd cc
      go (P.Num at n) h = absurd cc
      go (P.Con at c ps) h = pick (slice_get ps i) (slice_get (types_or_none (fields_of types c)) i) h

  -- the pattern at a position
  pub found_pattern : (x : Option (Pat × Ty)) (o : Option Pat) (path : List ℕ) (q : Pat) (u : Ty) → found_at types x path ≡ Some (q, u) → ((p : Pat × Ty) → x ≡ Some p → o ≡ Some p.0) → pattern_at o path ≡ Some q
  found_pattern None o path q u e is = absurd cc
  found_pattern (Some p) o [] q u e is = ap (λ y. pattern_at y []) (is p refl) ∙ ap (λ (y : Pat × Ty). Some y.0) (same_Some p (q, u) e)
  found_pattern (Some p) o (i ∷ path) q u e is =
      ap (λ y. pattern_at y (i ∷ path)) (is p refl)
      ∙ found_pattern (sub_pattern types p.0 i) (sub_at p.0 i) path q u e (λ y h. sub_same p.0 i y.0 y.1 h)

  -- a constructor at a position is among those of the pattern
  cons-Con : (at : ℕ) (c : ConRef) (ps : List Pat) → pattern_cons (Con at c ps) ≡ c ∷ cons_below (Con at c ps)
  cons-Con at c ps = PL.fold-Con (List ConRef) cons_step at c ps ∙ ap (λ cs. c ∷ cs) (flat ps) ∙ ap (λ (l : Pat-F Pat). c ∷ cons_below_root l) (sym (outs-Con at c ps))
    where
      flat : (ps : List Pat) → flat_map (λ cs. cs) (map pattern_cons ps) ≡ flat_map pattern_cons ps
      flat [] = refl
      flat (q ∷ ps) = ap (λ x. pattern_cons q ++ x) (flat ps)

  abbrev Below : Pat → Type 0
  Below p = (i : ℕ) (q : Pat) (u : Ty) (k : ℕ) (c : ConRef) → sub_pattern types p i ≡ Some (q, u) → slice_get (pattern_cons q) k ≡ Some c → (j : ℕ) × (slice_get (cons_below p) j ≡ Some c)

  belows : (p : Pat) → Below p
  belows = PL.induction Below (record {
    wild = λ at i q u k c e h. absurd (let z = sym (ap (λ (l : Pat-F Pat). sub_in types l i) (outs-Wild at)) ∙ e in cc);
    var = λ at x i q u k c e h. absurd (let z = sym (ap (λ (l : Pat-F Pat). sub_in types l i) (outs-Var at x)) ∙ e in cc);
    num = λ at n i q u k c e h. absurd (let z = sym (ap (λ (l : Pat-F Pat). sub_in types l i) (outs-Num at n)) ∙ e in cc);
    con = λ at d ps each i q u k c e h.
        let s : slice_get ps i ≡ Some q = sym (ap (λ (l : Pat-F Pat). sub_of_layer l i) (outs-Con at d ps)) ∙ sub_same (Con at d ps) i q u e in
        let r = has-flat pattern_cons ps i k q c s h in
        (r.0, ap (λ (l : Pat-F Pat). slice_get (cons_below_root l) r.0) (outs-Con at d ps) ∙ r.1);
  })

  abbrev Within : Pat → Type 0
  Within p = (k : ℕ) (c : ConRef) → slice_get (cons_below p) k ≡ Some c → (j : ℕ) × (slice_get (pattern_cons p) j ≡ Some c)

  withins : (p : Pat) → Within p
  withins = PL.induction Within (record {
    wild = λ at k c e. absurd (let z = sym (ap (λ (l : Pat-F Pat). slice_get (cons_below_root l) k) (outs-Wild at)) ∙ e in cc);
    var = λ at x k c e. absurd (let z = sym (ap (λ (l : Pat-F Pat). slice_get (cons_below_root l) k) (outs-Var at x)) ∙ e in cc);
    num = λ at n k c e. absurd (let z = sym (ap (λ (l : Pat-F Pat). slice_get (cons_below_root l) k) (outs-Num at n)) ∙ e in cc);
    con = λ at d ps each k c e. (suc k, ap (λ cs. slice_get cs (suc k)) (cons-Con at d ps) ∙ e);
  })

  con_within : (path : List ℕ) (p : Pat) (ty : Ty) (at : ℕ) (c : ConRef) (ps : List Pat) (u : Ty) → found_at types (Some (p, ty)) path ≡ Some (Con at c ps, u) → (j : ℕ) × (slice_get (pattern_cons p) j ≡ Some c)
  con_within [] p ty at c ps u e =
      let s : p ≡ Con at c ps = ap (λ (y : Pat × Ty). y.0) (same_Some (p, ty) (Con at c ps, u) e) in
      (0, ap (λ y. slice_get (pattern_cons y) 0) s ∙ ap (λ cs. slice_get cs 0) (cons-Con at c ps))
  con_within (i ∷ path) p ty at c ps u e = go (sub_pattern types p i) refl e (λ x h. con_within path x.0 x.1 at c ps u h)
    where
      go : (o : Option (Pat × Ty)) → sub_pattern types p i ≡ o → found_at types o path ≡ Some (Con at c ps, u) → ((x : Pat × Ty) → found_at types (Some x) path ≡ Some (Con at c ps, u) → (j : ℕ) × (slice_get (pattern_cons x.0) j ≡ Some c))
          → (j : ℕ) × (slice_get (pattern_cons p) j ≡ Some c)
      go None is h rest = absurd cc
      go (Some x) is h rest = let r = rest x h in let b = belows p i x.0 x.1 r.0 c is r.1 in withins p b.0 c b.1

  -- and, off the root, among those below its root
  pub con_below : (path : List ℕ) (p : Pat) (ty : Ty) (at : ℕ) (c : ConRef) (ps : List Pat) (u : Ty) → (path ≡ [] → ⊥) → found_at types (Some (p, ty)) path ≡ Some (Con at c ps, u) → (j : ℕ) × (slice_get (cons_below p) j ≡ Some c)
  con_below [] p ty at c ps u some e = absurd (some refl)
  con_below (i ∷ path) p ty at c ps u some e = go (sub_pattern types p i) refl e
    where
      go : (o : Option (Pat × Ty)) → sub_pattern types p i ≡ o → found_at types o path ≡ Some (Con at c ps, u) → (j : ℕ) × (slice_get (cons_below p) j ≡ Some c)
      go None is h = absurd cc
      go (Some x) is h = let r = con_within path x.0 x.1 at c ps u h in belows p i x.0 x.1 r.0 c is r.1

-- Blocks -------------------------------------------------------------------------------------------

-- a type that is flattened has no blocks
module _ (p : Program) (typed : IsTyped p) (agrees : Agrees p) (s : ℕ) (none : HasPointerPart (flat_layouts p) s → ⊥) where
  no_block : (layout : Layout) (n : ℕ) (leaf : Leaf) → layout_of (flat_layouts p) s ≡ Some layout → slice_get layout.leaves n ≡ Some leaf → leaf.blocks ≡ []
  no_block layout n leaf is at = go leaf.blocks refl
    where
      go : (bs : List Block) → leaf.blocks ≡ bs → leaf.blocks ≡ []
      go [] e = e
      go (b ∷ bs) e =
          let q = ((lawful p agrees typed).flat s layout n leaf is at).pointed 0 b (ap (λ xs. slice_get xs 0) e) in
          absurd (none (record { layout = layout; number = n; leaf = leaf; ref = q.0; length = q.1; align = b.align; block = 0; is_layout = is; is_leaf = at; points = q.2 }))

  pub no_blocks : (v : Value) → blocks_of (flat_layouts p) s v ≡ []
  no_blocks v = at_layout (layout_of (flat_layouts p) s) refl
    where
      at_leaf : (layout : Layout) → layout_of (flat_layouts p) s ≡ Some layout → (n : ℕ) (o : Option Leaf) → slice_get layout.leaves n ≡ o → leaf_requests o ≡ []
      at_leaf layout is n None at = refl
      at_leaf layout is n (Some leaf) at = ap (map request_of) (no_block layout n leaf is at)

      at_number : (layout : Layout) → layout_of (flat_layouts p) s ≡ Some layout → (o : Option ℕ) → leaf_requests (leaf_numbered layout.leaves o) ≡ []
      at_number layout is None = refl
      at_number layout is (Some n) = at_leaf layout is n (slice_get layout.leaves n) refl

      at_layout : (o : Option Layout) → layout_of (flat_layouts p) s ≡ o → leaf_requests (leaf_in o v) ≡ []
      at_layout None is = refl
      at_layout (Some layout) is = at_number layout is (leaf_of layout v)

-- Pieces -------------------------------------------------------------------------------------------

module _ (plan : Plan) where
  -- one piece behind another, each with its end
  pub ended_seq : (n : ℕ) (a b c : Sheet) (k1 k2 : ℕ) (Pre Mid Post : List ℕ → Memory → Type 0) → n ≤ b.slots → CodePiece plan n a b Nowhere k1 Pre (AtEnd b Mid) → CodePiece plan b.slots b c Nowhere k2 Mid (AtEnd c Post)
      → CodePiece plan n a c Nowhere (k1 + k2) Pre (AtEnd c Post)
  ended_seq n a b c k1 k2 Pre Mid Post low first second =
      let second1 = piece_weaken plan b.slots n b c Nowhere k2 k2 Mid Mid (AtEnd c Post) (AtEnd c Post) low (omega arith) (λ s m x. x) (λ pc s m x. x) second in
      let p = piece_seq plan n a b c Nowhere Nowhere k1 k2 Pre Mid (AtEnd b Mid) (AtEnd c Post) first second1 (λ pc x. absurd x) (λ pc x. absurd x) (λ pc s m x. inl x) in
      record {
        adds = p.adds;
        low = p.low;
        runs = λ final callee next law agrees s w long pre. p.runs final callee next law (record { same = λ pc lo hi out. agrees.same pc lo hi (λ x. x) }) s w long pre;
      }

  -- what is said of kept slots stays
  pub ended_frame : (n : ℕ) (a b : Sheet) (k : ℕ) (F Pre Post : List ℕ → Memory → Type 0) → ((s s' : List ℕ) (m : Memory) → Keeps n s s' → F s m → F s' m) → CodePiece plan n a b Nowhere k Pre (AtEnd b Post)
      → CodePiece plan n a b Nowhere k (λ s m. F s m × Pre s m) (AtEnd b (λ s m. F s m × Post s m))
  ended_frame n a b k F Pre Post stays p =
      piece_weaken plan n n a b Nowhere k k (λ s m. F s m × Pre s m) (λ s m. F s m × Pre s m) (λ pc s m. F s m × AtEnd b Post pc s m) (AtEnd b (λ s m. F s m × Post s m)) (omega arith) (omega arith) (λ s m x. x)
      (λ pc s m x. (x.1.0, (x.0, x.1.1))) (piece_frame plan n a b Nowhere k F Pre (AtEnd b Post) stays p)

  pub ended_weaken : (n n' : ℕ) (a b : Sheet) (k k' : ℕ) (Pre Pre' Post Post' : List ℕ → Memory → Type 0) → n' ≤ n → k ≤ k' → ((s : List ℕ) (m : Memory) → Pre' s m → Pre s m) → ((s : List ℕ) (m : Memory) → Post s m → Post' s m)
      → CodePiece plan n a b Nowhere k Pre (AtEnd b Post) → CodePiece plan n' a b Nowhere k' Pre' (AtEnd b Post')
  ended_weaken n n' a b k k' Pre Pre' Post Post' fewer le f g p = piece_weaken plan n n' a b Nowhere k k' Pre Pre' (AtEnd b Post) (AtEnd b Post') fewer le f (λ pc s m x. (x.0, g s m x.1)) p

  -- a construction without blocks
  pub construct_piece : (con : ConRef) (hs : List Held) (shown : List Pat) (old new : Sheet) (held : Held) → IsConstructed plan con hs shown old new held → ((v : Value) → blocks_of plan.layouts con.ty v ≡ [])
      → (clean : Bool) (vs : List Value) → AreAsShown shown vs
      → CodePiece plan old.slots old new Nowhere (choose_of plan.layouts con.ty con.con) (λ s m. IsGood m × AreHeld plan clean s m hs vs) (AtEnd new (λ s m. Rep plan m clean (Named con.ty) (Values.Con con.con vs) (slots_at s held.slots)))
  construct_piece con hs shown old new held made none clean vs as_shown = record {
    adds = made.adds;
    low = omega arith;
    runs = λ final callee next law agrees s w long pre.
        let v = Values.Con con.con vs in
        let m = w.memory in
        let out = next (length old.code) s w in
        let Ok = λ (u : Value) (w' : World). Comes plan clean out next (length new.code) old.slots (Named con.ty) held.slots s u w' × (blocks_of plan.layouts con.ty v ≡ [] → w'.memory ≡ m) in
        let d = made.does clean vs as_shown final callee next law agrees s w long pre.0 pre.1 in
        let e = subst (λ bs. Ends (w.switches + choose_of plan.layouts con.ty con.con) out m (lay m.limit m.next bs) (Done v w.left) Ok) (none v) d in
        let c = e.4.0 in
        let same = e.4.1 (none v) in
        (length new.code, c.0, e.0, c.1, c.2, record { memory = same; left = e.2; switches = e.3 }, (refl, subst (λ m1. Rep plan m1 clean (Named con.ty) v (slots_at c.0 held.slots)) same c.3));
  }

-- Parts --------------------------------------------------------------------------------------------

-- the whole value is there
whole_there : (agreed : LaidOut) (t n : ℕ) (words slots : List ℕ) (body : Sheet) → slots ≡ words → FetchesField agreed t n [] words body body slots
whole_there agreed t n words slots body same plan of ty f all count =
    let kind : Named t ≡ ty = ap (λ (y : Pat × Ty). y.1) (same_Some (f.leaf.prov, Named t) (f.pat, ty) f.is_position) in
    record {
      adds = Adds-refl plan body;
      given = subst (λ xs. AllBelow body.slots xs) (sym same) all;
      count = ap length same ∙ count ∙ ap (words_needed plan) kind;
      origin = λ x i. inr (subst (IsOneOf x) same i);
      runs = λ clean v part is_leaf is_part.
          let whole : v ≡ part = same_Some v part is_part in
          let Pre = λ (s : List ℕ) (m : Memory). IsGood m × Rep plan m clean (Named t) v (slots_at s words) in
          let Post = λ (s : List ℕ) (m : Memory). Rep plan m clean ty part (slots_at s slots) in
          let none = piece_none plan body.slots body Pre Post (omega arith)
          (λ s m x. subst (λ xs. Rep plan m clean ty part (slots_at s xs)) (sym same) (subst (λ u. Rep plan m clean u part (slots_at s words)) kind (subst (λ u. Rep plan m clean (Named t) u (slots_at s words)) whole x.1))) in
          ended_weaken plan body.slots body.slots body body 0 (mend_under plan.layouts f.pat) Pre Pre Post Post (omega arith) (omega arith) (λ s m x. x) (λ s m x. x) none;
    }

pub fetches_whole : (agreed : LaidOut) (t n : ℕ) (path words slots : List ℕ) (body : Sheet) → length path < 1 → slots ≡ words → FetchesField agreed t n path words body body slots
fetches_whole agreed t n [] words slots body short same = whole_there agreed t n words slots body same
fetches_whole agreed t n (i ∷ path) words slots body short same = absurd (omega (arith, short))

module _ (agreed : LaidOut) (t n : ℕ) where
  some_path : (path : List ℕ) (j : ℕ) → path ++ j ∷ [] ≡ [] → ⊥
  some_path [] j e = cc
  some_path (i ∷ path) j e = cc

  some_items : (path : List ℕ) → 1 ≤ length path → path ≡ [] → ⊥
  some_items path le e = let z = ap length e in omega (arith, le, z)

  -- the part at a position below the root
  pub fetches_below : (leaf : Leaf) (pat : Pat) (path words : List ℕ) (old new : Sheet) (slots : List ℕ) → 1 ≤ length path → leaf_at agreed.layouts t n ≡ Some leaf → pattern_at (Some leaf.prov) path ≡ Some pat
      → FetchesPart agreed t n pat path words old new slots → FetchesField agreed t n path words old new slots
  fetches_below leaf pat path words old new slots long at is_pat fetches plan of ty f all count =
      let there : leaf_at agreed.layouts t n ≡ Some f.leaf = ap (λ o. leaf_within o n) (ap (λ ls. layout_of ls t) (sym of.layouts) ∙ f.is_layout) ∙ f.is_leaf in
      let same : leaf ≡ f.leaf = same_Some leaf f.leaf (sym at ∙ there) in
      let found = found_pattern plan.program.types (Some (f.leaf.prov, Named t)) (Some f.leaf.prov) path f.pat ty f.is_position (λ p e. ap (λ (y : Pat × Ty). Some y.0) (same_Some (f.leaf.prov, Named t) p e)) in
      let pat_is : f.pat ≡ pat = same_Some f.pat pat (sym found ∙ ap (λ (l : Leaf). pattern_at (Some l.prov) path) (sym same) ∙ is_pat) in
      fetches plan of ty f pat_is (some_items path long) all count

  -- no field yet
  pub parts_none : (c : ConRef) (ps : List Pat) (path words : List ℕ) (body : Sheet) → FetchesParts agreed t n c ps 0 path words body body []
  parts_none c ps path words body plan of at ty f is all count = (
    refl,
    record {
      adds = Adds-refl plan body;
      given = tt;
      kinds = refl;
      runs = λ clean v part is_leaf is_part le.
          piece_none plan body.slots body (λ s m. IsGood m × Rep plan m clean (Named t) v (slots_at s words)) (λ s m. AreHeld plan clean s m [] (take 0 (subs part))) (omega arith) (λ s m x. tt);
    },
  )

  take_next : {A : Type 0} (xs : List A) (k : ℕ) (x : A) → slice_get xs k ≡ Some x → take (k + 1) xs ≡ take k xs ++ x ∷ []
  take_next [] k x e = absurd cc
  take_next (y ∷ xs) zero x e = ap (λ z. z ∷ []) (same_Some y x e)
  take_next (y ∷ xs) (suc k) x e = let z : suc k + 1 ≡ suc (k + 1) = omega arith in ap (λ i. take i (y ∷ xs)) z ∙ ap (λ zs. y ∷ zs) (take_next xs k x e)

  sum-last : (layouts : List Layout) (ps : List Pat) (p : Pat) → sum_by (mend_under layouts) (ps ++ p ∷ []) ≡ sum_by (mend_under layouts) ps + mend_under layouts p
  sum-last layouts [] p = sum_by-cons (mend_under layouts) p [] ∙ (let z : mend_under layouts p + 0 ≡ 0 + mend_under layouts p = omega arith in z)
  sum-last layouts (q ∷ ps) p =
      let a = sum_by-cons (mend_under layouts) q (ps ++ p ∷ []) in let b = sum_by-cons (mend_under layouts) q ps in let r = sum-last layouts ps p in omega (arith, a, b, r)

  -- one field more
  pub parts_more : (c : ConRef) (ps : List Pat) (k : ℕ) (path words : List ℕ) (old mid new : Sheet) (hs : List Held) (sub : Pat) (field : Ty) (slots : List ℕ) → FetchesParts agreed t n c ps k path words old mid hs → slice_get ps k ≡ Some sub
      → slice_get (types_or_none (fields_of agreed.covered.program.types c)) k ≡ Some field → FetchesPart agreed t n sub (path ++ k ∷ []) words mid new slots
      → FetchesParts agreed t n c ps (k + 1) path words old new (hs ++ record { ty = field; slots = slots } ∷ [])
  parts_more c ps k path words old mid new hs sub field slots before is_sub is_field0 fetches plan of at ty f is all count =
      let types = plan.program.types in
      let b = before plan of at ty f is all count in
      let done = b.1 in
      let held : Held = record { ty = field; slots = slots } in
      let is_field : slice_get (types_or_none (fields_of types c)) k ≡ Some field = ap (λ (p : Program). slice_get (types_or_none (fields_of p.types c)) k) of.program ∙ is_field0 in
      let step : sub_pattern types f.pat k ≡ Some (sub, field) =
      ap (λ p. sub_pattern types p k) is ∙ sub-Con types at c ps k ∙ ap (λ o. pair_of o (slice_get (types_or_none (fields_of types c)) k)) is_sub ∙ ap (pair_of (Some sub)) is_field in
      let f1 : PositionAt plan t n (path ++ k ∷ []) field = record {
        layout = f.layout;
        leaf = f.leaf;
        pat = sub;
        is_layout = f.is_layout;
        is_leaf = f.is_leaf;
        is_position = found-append types (Some (f.leaf.prov, Named t)) path k ∙ ap (λ o. found_at types o (k ∷ [])) f.is_position ∙ ap (λ o. found_at types o []) step;
      } in
      let up = done.adds.more in
      let g = fetches plan of field f1 refl (some_path path k) (AllBelow-more old.slots mid.slots words up all) count in
      let long : length (hs ++ held ∷ []) ≡ k + 1 = length-append hs (held ∷ []) ∙ ap (λ i. i + 1) b.0 in
      let more = g.adds.more in (
        long,
        record {
          adds = Adds-trans plan old mid new done.adds g.adds;
          given = AllGiven-append plan new.slots hs (held ∷ []) (AllGiven-more plan mid.slots new.slots hs more done.given) (g.given, g.count, tt);
          kinds = map-append held_type hs (held ∷ []) ∙ ap (λ us. us ++ field ∷ []) (done.kinds ∙ ap (λ i. take i (types_or_none (fields_of types c))) b.0)
              ∙ sym (take_next (types_or_none (fields_of types c)) k field is_field) ∙ ap (λ i. take i (types_or_none (fields_of types c))) (sym long);
          runs = λ clean v part is_leaf is_part le.
              let us = subs part in
              let x = at_field us k (omega (arith, le, long)) in
              let fact = done.runs clean v part is_leaf is_part (omega (arith, le, long, b.0)) in
              let Pre = λ (s : List ℕ) (m : Memory). IsGood m × Rep plan m clean (Named t) v (slots_at s words) in
              let Held1 = λ (s : List ℕ) (m : Memory). AreHeld plan clean s m hs (take (length hs) us) in
              let There = λ (s : List ℕ) (m : Memory). Rep plan m clean field x.0 (slots_at s slots) in
              let first = ended_frame plan old.slots old mid (sum_by (mend_under plan.layouts) (take (length hs) ps)) Pre Pre Held1 (λ s s' m keeps z. (z.0, subst (λ ws. Rep plan m clean (Named t) v ws) (sym (slots_at-kept old.slots s s' words all keeps)) z.1)) fact in
              let first1 = ended_weaken plan old.slots old.slots old mid (sum_by (mend_under plan.layouts) (take (length hs) ps)) (sum_by (mend_under plan.layouts) (take (length hs) ps)) (λ s m. Pre s m × Pre s m) Pre (λ s m. Pre s m × Held1 s m)
              (λ s m. (IsGood m × Held1 s m) × Pre s m) (omega arith) (omega arith) (λ s m z. (z, z)) (λ s m z. ((z.0.0, z.1), z.0)) first in
              let one = g.runs clean v x.0 is_leaf (field_part types v part path k is_part ∙ x.1) in
              let second = ended_frame plan mid.slots mid new (mend_under plan.layouts sub) (λ s m. IsGood m × Held1 s m) Pre There
              (λ s s' m keeps z. (z.0, AreHeld-kept plan clean m m (Grown-extends m m [] m.next z.0 (Grown-refl m z.0)) mid.slots s s' keeps hs (take (length hs) us) done.given z.1)) one in
              let whole = ended_seq plan old.slots old mid new (sum_by (mend_under plan.layouts) (take (length hs) ps)) (mend_under plan.layouts sub) Pre (λ s m. (IsGood m × Held1 s m) × Pre s m) (λ s m. (IsGood m × Held1 s m) × There s m) up first1 second in
              let pats : take (length (hs ++ held ∷ [])) ps ≡ take (length hs) ps ++ sub ∷ [] = ap (λ i. take i ps) long ∙ take_next ps k sub is_sub ∙ ap (λ i. take i ps ++ sub ∷ []) (sym b.0) in
              let vals : take (length (hs ++ held ∷ [])) us ≡ take (length hs) us ++ x.0 ∷ [] = ap (λ i. take i us) long ∙ take_next us k x.0 x.1 ∙ ap (λ i. take i us ++ x.0 ∷ []) (sym b.0) in
              let sum = ap (sum_by (mend_under plan.layouts)) pats ∙ sum-last plan.layouts (take (length hs) ps) sub in
              ended_weaken plan old.slots old.slots old new (sum_by (mend_under plan.layouts) (take (length hs) ps) + mend_under plan.layouts sub) (sum_by (mend_under plan.layouts) (take (length (hs ++ held ∷ [])) ps)) Pre Pre
              (λ s m. (IsGood m × Held1 s m) × There s m) (λ s m. AreHeld plan clean s m (hs ++ held ∷ []) (take (length (hs ++ held ∷ [])) us)) (omega arith) (omega (arith, sum)) (λ s m z. z)
              (λ s m z. subst (λ ws. AreHeld plan clean s m (hs ++ held ∷ []) ws) (sym vals) (AreHeld-append plan clean s m hs (held ∷ []) (take (length hs) us) (x.0 ∷ []) z.0.1 (z.1, tt))) whole;
        },
      )
    where
      at_field : (us : List Value) (i : ℕ) → i + 1 ≤ length us → (x : Value) × (slice_get us i ≡ Some x)
      at_field [] i le = absurd (omega (arith, le))
      at_field (u ∷ us) zero le = (u, refl)
      at_field (u ∷ us) (suc i) le = at_field us i (omega (arith, le))

module _ (agreed : LaidOut) (typed : IsTyped agreed.covered.program) (flat : agreed.layouts ≡ flat_layouts agreed.covered.program) (agrees : Agrees agreed.covered.program) (t n : ℕ) where
  -- a wildcard
  pub part_open : (pat : Pat) (path words : List ℕ) (old new : Sheet) (slots : List ℕ) → ((ty : Ty) → open_type (out-Pat pat) ty ≡ Some ty) → FetchesOpen agreed t n path words old new slots → FetchesPart agreed t n pat path words old new slots
  part_open pat path words old new slots is_open fetches plan of ty f is some all count =
      let p = of_plan agreed typed flat agrees t plan of in
      let opened : open_type (out-Pat f.pat) ty ≡ Some ty = ap (λ q. open_type (out-Pat q) ty) is ∙ is_open ty in
      let x = position_open plan p.0 p.1 t n path ty f opened in
      let a = fetches plan of ty x.0 all count in
      record {
        adds = a.adds;
        given = a.given;
        count = a.count;
        origin = a.origin;
        runs = λ clean v part is_leaf is_part.
            let Pre = λ (s : List ℕ) (m : Memory). IsGood m × Rep plan m clean (Named t) v (slots_at s words) in
            let Post = λ (s : List ℕ) (m : Memory). Rep plan m clean ty part (slots_at s slots) in
            ended_weaken plan old.slots old.slots old new 0 (mend_under plan.layouts f.pat) Pre Pre Post Post (omega arith) (omega arith) (λ s m x. x) (λ s m x. x)
            (a.runs clean v part (ap (λ (l : Layout). leaf_of l v) x.1 ∙ is_leaf) is_part);
      }

  -- the same for the code of a last call
  pub wild_fetched : {E : Type 0} (r : Result (List ℕ) E) (pat : Pat) (path words : List ℕ) (old new : Sheet) → ((ty : Ty) → open_type (out-Pat pat) ty ≡ Some ty) → IfOk r (FetchesOpen agreed t n path words old new)
      → IfOk r (FetchesPart agreed t n pat path words old new)
  wild_fetched r pat path words old new is_open =
      IfOk-weaker r (FetchesOpen agreed t n path words old new) (FetchesPart agreed t n pat path words old new) (λ slots fetches. part_open pat path words old new slots is_open fetches)

  take_all : {A : Type 0} (xs : List A) (k : ℕ) → k ≡ length xs → take k xs ≡ xs
  take_all [] zero e = refl
  take_all [] (suc k) e = absurd (omega (arith, e))
  take_all (x ∷ xs) zero e = absurd (omega (arith, e))
  take_all (x ∷ xs) (suc k) e = ap (λ ys. x ∷ ys) (take_all xs k (omega (arith, e)))

  -- a constructor is rebuilt of its fields
  pub part_con : (at : ℕ) (c : ConRef) (ps : List Pat) (path words : List ℕ) (old mid new : Sheet) (hs : List Held) (held : Held) → FetchesParts agreed t n c ps (length ps) path words old mid hs → Constructs agreed c hs ps mid new held
      → FetchesPart agreed t n (Con at c ps) path words old new held.slots
  part_con at c ps path words old mid new hs held fetches builds plan of ty f is some all count =
      let types = plan.program.types in
      let p = of_plan agreed typed flat agrees t plan of in
      let e = p.1.0 in
      let flat1 : layout_of (flat_layouts plan.program) t ≡ Some f.layout = ap (λ ls. layout_of ls t) (sym e) ∙ f.is_layout in
      let place = subst (λ q. IsPlace types q ty) is (place_at types path f.leaf.prov (Named t) f.pat ty (root_place plan p.0 p.1 t n f.layout f.leaf f.is_layout f.is_leaf) f.is_position) in
      let x = con_place types at c ps ty place in
      let b = fetches plan of at ty f is all count in
      let done = b.1 in
      let many : length hs ≡ length x.fields = b.0 ∙ x.many in
      let kinds : map held_type hs ≡ x.fields = done.kinds ∙ ap (λ o. take (length hs) (types_or_none o)) x.is_fields ∙ take_all x.fields (length hs) many in
      let made = builds plan of x.fields x.is_fields kinds done.given in
      let there : found_at types (Some (f.leaf.prov, Named t)) path ≡ Some (Con at c ps, ty) = f.is_position ∙ ap (λ q. Some (q, ty)) is in
      let below = con_below types path f.leaf.prov (Named t) at c ps ty some there in
      let flattens : LeafFlattens f.leaf c.ty = record { number = below.0; con = c; is_below = below.1; is_type = refl } in
      let none0 = no_blocks plan.program p.0 p.1.1 c.ty (p.1.1.a9.no_pointer t f.layout n f.leaf flat1 f.is_leaf c.ty flattens) in
      let none : (v : Value) → blocks_of plan.layouts c.ty v ≡ [] = λ v. ap (λ ls. blocks_of ls c.ty v) e ∙ none0 v in
      let up = done.adds.more in
      record {
        adds = Adds-trans plan old mid new done.adds made.adds;
        given = made.given;
        count = made.count ∙ ap (words_needed plan) (sym x.kind);
        origin = λ y i. inl (let le = one-from mid.slots y held.slots made.fresh i in omega (arith, le, up));
        runs = λ clean v part is_leaf is_part.
            let m0 = part_matches types path f.leaf.prov (Named t) (Con at c ps) ty v part there (leaf_matches f.layout v n f.leaf is_leaf f.is_leaf) is_part in
            let k = con_value types at c ps part m0 in
            let us = k.fields in
            let fields : length hs ≡ length us = b.0 ∙ sym (passed_many types ps us k.pass) in
            let Pre = λ (s : List ℕ) (m : Memory). IsGood m × Rep plan m clean (Named t) v (slots_at s words) in
            let Post = λ (s : List ℕ) (m : Memory). Rep plan m clean ty part (slots_at s held.slots) in
            let Args = λ (s : List ℕ) (m : Memory). AreHeld plan clean s m hs (take (length hs) (subs part)) in
            let Args1 = λ (s : List ℕ) (m : Memory). IsGood m × AreHeld plan clean s m hs us in
            let some1 = sum_by (mend_under plan.layouts) (take (length hs) ps) in
            let length_same = ap length k.are_fields in
            let first = done.runs clean v part is_leaf is_part (omega (arith, fields, length_same)) in
            let vals : take (length hs) (subs part) ≡ us = ap (take (length hs)) k.are_fields ∙ take_all us (length hs) fields in
            let framed = ended_frame plan old.slots old mid some1 (λ s m. IsGood m) Pre Args (λ s s' m keeps z. z) first in
            let first1 = ended_weaken plan old.slots old.slots old mid some1 some1 (λ s m. IsGood m × Pre s m) Pre (λ s m. IsGood m × Args s m) Args1 (omega arith) (omega arith) (λ s m z. (z.0, z))
            (λ s m z. (z.0, subst (λ ws. AreHeld plan clean s m hs ws) vals z.1)) framed in
            let second = construct_piece plan c hs ps mid new held made none clean us k.pass in
            let Rep1 = λ (s : List ℕ) (m : Memory). Rep plan m clean (Named c.ty) (Values.Con c.con us) (slots_at s held.slots) in
            let whole = ended_seq plan old.slots old mid new some1 (choose_of plan.layouts c.ty c.con) Pre Args1 Rep1 up first1 second in
            let sum : some1 + choose_of plan.layouts c.ty c.con ≡ mend_under plan.layouts f.pat =
            (let a : some1 ≡ sum_by (mend_under plan.layouts) ps = ap (sum_by (mend_under plan.layouts)) (take_all ps (length hs) b.0) in
            let d = ap (mend_under plan.layouts) is ∙ mend-Con plan.layouts at c ps in omega (arith, a, d)) in
            ended_weaken plan old.slots old.slots old new (some1 + choose_of plan.layouts c.ty c.con) (mend_under plan.layouts f.pat) Pre Pre Rep1 Post (omega arith) (omega (arith, sum)) (λ s m z. z)
            (λ s m z. subst (λ u. Rep plan m clean u part (slots_at s held.slots)) (sym x.kind) (subst (λ u. Rep plan m clean (Named c.ty) u (slots_at s held.slots)) (sym k.is_con) z)) whole;
      }

  -- at an open position there is no switch
  pub field_open : (path words : List ℕ) (old new : Sheet) (slots : List ℕ) → FetchesField agreed t n path words old new slots → FetchesOpen agreed t n path words old new slots
  field_open path words old new slots fetches plan of ty f all count =
      let p = of_plan agreed typed flat agrees t plan of in
      let x = open_position plan p.0 p.1 t n path ty f in
      let a = fetches plan of ty x.0 all count in
      record {
        adds = a.adds;
        given = a.given;
        count = a.count;
        origin = a.origin;
        runs = λ clean v part is_leaf is_part.
            let Pre = λ (s : List ℕ) (m : Memory). IsGood m × Rep plan m clean (Named t) v (slots_at s words) in
            let Post = λ (s : List ℕ) (m : Memory). Rep plan m clean ty part (slots_at s slots) in
            let free = x.2 in
            ended_weaken plan old.slots old.slots old new (mend_under plan.layouts x.0.pat) 0 Pre Pre Post Post (omega arith) (omega (arith, free)) (λ s m z. z) (λ s m z. z)
            (a.runs clean v part (ap (λ (l : Layout). leaf_of l v) x.1 ∙ is_leaf) is_part);
      }

pub wild_open : (pat : Pat) (at : ℕ) → pat ≡ Wild at → (ty : Ty) → open_type (out-Pat pat) ty ≡ Some ty
wild_open pat at is ty = ap (λ p. open_type (out-Pat p) ty) is ∙ ap (λ (l : Pat-F Pat). open_type l ty) (outs-Wild at)

-- the fields of a constructor, either way
pub fields_same : (types : List DataDecl) (c : ConRef) → field_types types c ≡ types_or_none (fields_of types c)
fields_same types c = go (fields_of types c)
  where
    go : (o : Option (List Ty)) → unwrap_or o [] ≡ types_or_none o
    go None = refl
    go (Some ts) = refl
