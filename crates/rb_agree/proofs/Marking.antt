-- Types with a pointer part, and the constructors in patterns.
use Rattle.std.proofs.Common.{◌≡◌, ℕ, zero, suc, ◌+◌, ◌<◌, ◌⊎◌, inl, inr, List, [], ◌∷◌, ◌++◌, map, length, take, get_or, add-one, Bool, true, false, Option, Some, None, refl, sym, ap, subst, ◌∙◌, arith}
use Rattle.std.specs.Prelude.{slice_get, MatchBool}
use Rattle.std.specs.List.{flat_map}
use Rattle.std.proofs.lemmas.Option.{same_Some, slice_get_within}
use Rattle.std.proofs.lemmas.List.{length-append}
use Rattle.std.proofs.Math.Seq.{take-suc}
use Rattle.rb_core.specs.declared.types.ConRef.{ConRef}
use Rattle.rb_core.specs.declared.pattern.Pat.{Pat, Wild, Var, Num, Con}
use Rattle.rb_core.specs.declared.pattern.Pat.TheVariants as X
use Rattle.rb_core.proofs.PatternLaws.{fold-Wild, fold-Var, fold-Num, fold-Con}
use Rattle.rb_layout.specs.declared.layout.Layout.{Layout}
use Rattle.rb_layout.specs.declared.layout.Leaf.{Leaf}
use Rattle.rb_layout.specs.declared.layout.Block.{Block}
use Rattle.rb_layout.specs.declared.layout.WordRef.{WordRef}
use Rattle.rb_layout.specs.declared.evidence.Why.TheVariants as W
use Rattle.rb_layout.specs.Words.{words_of_block, words_in}
use Rattle.rb_layout.specs.Pointers.{PointsTo}
use Rattle.rb_layout.specs.A9.{FailsNoPointer, FlattensNoPointer, HasPointerPart, cons_below, cons_below_root, pattern_cons, cons_step}
use Rattle.rb_agree.specs.Lists.{SomeOf}
use Rattle.rb_agree.specs.inner.Lists.{EachOf, FindsIn}
use Rattle.rb_layout.specs.Graphs.{mark_in, mark_of}
use Rattle.rb_agree.specs.Pointing.{AreMarks, LeafPoints, LeavesPoint, WordsPoint}
use Rattle.rb_agree.specs.inner.Marks.{IsMarked, IsUnmarked}
use Rattle.rb_agree.proofs.Lists.{finds-first, finds-rest}

-- Searches for some -----------------------------------------------------------------------------------

pub none-of : {A : Type 0} (P : A → Type 0) (xs : List A) → EachOf (λ (x : A). P x → ⊥) xs → SomeOf P xs → ⊥
none-of P xs none some = none some.0 some.1 some.2 some.3

-- Constructors in patterns ----------------------------------------------------------------------------

joined-cons : (ps : List Pat) → flat_map (λ (cs : List ConRef). cs) (map pattern_cons ps) ≡ flat_map pattern_cons ps
joined-cons [] = refl
joined-cons (p ∷ ps) = ap (λ (cs : List ConRef). pattern_cons p ++ cs) (joined-cons ps)

pub cons-Con : (p : Pat) (at : ℕ) (c : ConRef) (ps : List Pat) → p ≡ Con at c ps → pattern_cons p ≡ c ∷ flat_map pattern_cons ps
cons-Con p at c ps is = ap pattern_cons is ∙ fold-Con (List ConRef) cons_step at c ps ∙ ap (λ (cs : List ConRef). c ∷ cs) (joined-cons ps)

pub cons-Wild : (p : Pat) (at : ℕ) → p ≡ Wild at → pattern_cons p ≡ []
cons-Wild p at is = ap pattern_cons is ∙ fold-Wild (List ConRef) cons_step at

pub cons-Var : (p : Pat) (at x : ℕ) → p ≡ Var at x → pattern_cons p ≡ []
cons-Var p at x is = ap pattern_cons is ∙ fold-Var (List ConRef) cons_step at x

pub cons-Num : (p : Pat) (at n : ℕ) → p ≡ Num at n → pattern_cons p ≡ []
cons-Num p at n is = ap pattern_cons is ∙ fold-Num (List ConRef) cons_step at n

pub below-Con : (p : Pat) (at : ℕ) (c : ConRef) (ps : List Pat) → p ≡ Con at c ps → cons_below p ≡ flat_map pattern_cons ps
below-Con p at c ps is = ap cons_below is ∙ ap cons_below_root (X.outs-Con at c ps)

module _ (marks : List Bool) where
  abbrev Finds : List ConRef → Option ℕ → Type 0
  Finds cs r = FindsIn (IsUnmarked marks) (IsMarked marks) cs r

  pub nothing-in : (cs : List ConRef) → cs ≡ [] → Finds cs None
  nothing-in cs none = subst (λ (xs : List ConRef). Finds xs None) (sym none) (λ k x e. absurd cc)

  module _ (p : Pat) (at : ℕ) (c : ConRef) (ps qs : List Pat) (is : p ≡ Con at c ps) (same : qs ≡ ps) where
    whole : pattern_cons p ≡ c ∷ flat_map pattern_cons qs
    whole = cons-Con p at c ps is ∙ ap (λ (xs : List Pat). c ∷ flat_map pattern_cons xs) (sym same)

    pub root-marked : (b : Bool) → b ≡ mark_of marks c.ty → b ≡ true → Finds (pattern_cons p) (Some c.ty)
    root-marked b mark marked =
        subst (λ (xs : List ConRef). Finds xs (Some c.ty)) (sym whole) (finds-first (IsUnmarked marks) (IsMarked marks) c (flat_map pattern_cons qs) c.ty (refl, sym mark ∙ marked))

    pub root-unmarked : (b : Bool) (r : Option ℕ) → b ≡ mark_of marks c.ty → b ≡ false → Finds (flat_map pattern_cons qs) r → Finds (pattern_cons p) r
    root-unmarked b r mark not rest =
        subst (λ (xs : List ConRef). Finds xs r) (sym whole) (finds-rest (IsUnmarked marks) (IsMarked marks) c (flat_map pattern_cons qs) r (sym mark ∙ not) rest)

  pub below-found : (p : Pat) (at : ℕ) (c : ConRef) (ps qs : List Pat) (r : Option ℕ) → p ≡ Con at c ps → qs ≡ ps → Finds (flat_map pattern_cons qs) r → Finds (cons_below p) r
  below-found p at c ps qs r is same h =
      subst (λ (xs : List ConRef). Finds xs r) (sym (below-Con p at c ps is ∙ ap (λ (xs : List Pat). flat_map pattern_cons xs) (sym same))) h

-- Pointer parts -----------------------------------------------------------------------------------------

module _ (leaf : Leaf) where
  in-words : (block : Option ℕ) → WordsPoint (words_in leaf block) → (r : WordRef) × (l : ℕ) × (align : ℕ) × (b : ℕ) × PointsTo leaf r l align b
  in-words block h = (
    record { block = block; word = h.0 },
    h.3.1.l,
    h.3.3.0,
    h.3.3.1,
    record { word = h.1; number = h.3.0; part = h.3.1; is_word = h.2; is_part = h.3.2; is_length = refl; is_pointer = h.3.3.2 },
  )

  points : LeafPoints leaf → (r : WordRef) × (l : ℕ) × (align : ℕ) × (b : ℕ) × PointsTo leaf r l align b
  points (inl h) = in-words None h
  points (inr h) = in-words (Some h.0) (subst (λ (x : Option Block). WordsPoint (words_of_block x)) (sym h.2) h.3)

  in-block : (b : ℕ) (x : Option Block) → slice_get leaf.blocks b ≡ x → WordsPoint (words_of_block x) → LeafPoints leaf
  in-block b None is h = absurd (cc h.2)
  in-block b (Some block) is h = inr (b, block, is, h)

  in-any : (block : Option ℕ) → WordsPoint (words_in leaf block) → LeafPoints leaf
  in-any None h = inl h
  in-any (Some b) h = in-block b (slice_get leaf.blocks b) refl h

  pointed : (r : WordRef) (l align b : ℕ) → PointsTo leaf r l align b → LeafPoints leaf
  pointed r l align b p = in-any r.block (r.word, p.word, p.is_word, (p.number, p.part, p.is_part, (align, b, p.is_pointer)))

marked-at : (marks : List Bool) (t : ℕ) → t < length marks → (m : Bool) × (slice_get marks t ≡ Some m)
marked-at [] t lt = absurd (omega (arith, lt))
marked-at (m ∷ marks) zero lt = (m, refl)
marked-at (m ∷ marks) (suc t) lt = marked-at marks t (omega (arith, lt))

beyond : (layouts : List Layout) (t : ℕ) → t < length layouts → slice_get layouts t ≡ None → ⊥
beyond [] t lt e = absurd (omega (arith, lt))
beyond (l ∷ layouts) zero lt e = absurd cc
beyond (l ∷ layouts) (suc t) lt e = beyond layouts t (omega (arith, lt)) e

module _ (layouts : List Layout) (marks : List Bool) (are : AreMarks layouts marks) where
  mark-at : (t : ℕ) (layout : Layout) → slice_get layouts t ≡ Some layout → (m : Bool) × (slice_get marks t ≡ Some m)
  mark-at t layout is = marked-at marks t (let lt = slice_get_within layouts t layout is in let count = are.count in omega (arith, lt, count))

  true-part : (t : ℕ) (layout : Option Layout) → slice_get layouts t ≡ layout → (mark : Option Bool) → slice_get marks t ≡ mark → mark_in mark ≡ true → HasPointerPart layouts t
  true-part t layout is None at e = absurd cc
  true-part t None is (Some m) at e =
      absurd (let lt = slice_get_within marks t m at in let count = are.count in beyond layouts t (omega (arith, lt, count)) is)
  true-part t (Some layout) is (Some m) at e =
      let here = subst (λ x. MatchBool x (LeavesPoint layout.leaves) (LeavesPoint layout.leaves → ⊥)) e (are.each t layout m is at) in
      let p = points here.1 here.3 in
      record { layout = layout; number = here.0; leaf = here.1; ref = p.0; length = p.1; align = p.2; block = p.3; is_layout = is; is_leaf = here.2; points = p.4 }

  false-part : (t : ℕ) → mark_of marks t ≡ false → HasPointerPart layouts t → ⊥
  false-part t not h =
      let m = mark-at t h.layout h.is_layout in
      let is : m.0 ≡ false = ap mark_in (sym m.1) ∙ not in
      (subst (λ x. MatchBool x (LeavesPoint h.layout.leaves) (LeavesPoint h.layout.leaves → ⊥)) is (are.each t h.layout m.0 h.is_layout m.1))
      (h.number, h.leaf, h.is_leaf, pointed h.leaf h.ref h.length h.align h.block h.points)

  pub no-pointer : (leaf : Leaf) → FindsIn (IsUnmarked marks) (IsMarked marks) (cons_below leaf.prov) None → FlattensNoPointer layouts leaf
  no-pointer leaf none = λ s flat has.
      let not : mark_of marks flat.con.ty ≡ false = none flat.number flat.con flat.is_below in false-part s (subst (λ t. mark_of marks t ≡ false) flat.is_type not) has

  pub has-pointer : (leaf : Leaf) (s : ℕ) → FindsIn (IsUnmarked marks) (IsMarked marks) (cons_below leaf.prov) (Some s) → FailsNoPointer layouts leaf (W.HasPointer s)
  has-pointer leaf s h = (
    record { number = h.0; con = h.1; is_below = h.2; is_type = h.3.0 },
    true-part s (slice_get layouts s) refl (slice_get marks s) refl (subst (λ t. mark_of marks t ≡ true) h.3.0 h.3.1),
  )

-- One layout more -------------------------------------------------------------------------------------------

snoc-get : {A : Type 0} (xs : List A) (x : A) (t : ℕ) (y : A) → slice_get (xs ++ x ∷ []) t ≡ Some y → (slice_get xs t ≡ Some y) ⊎ ((t ≡ length xs) × (x ≡ y))
snoc-get [] x zero y e = inr (refl, same_Some x y e)
snoc-get [] x (suc t) y e = absurd cc
snoc-get (z ∷ xs) x zero y e = inl e
snoc-get (z ∷ xs) x (suc t) y e = elim (snoc-get xs x t y e) [ inl h ↦ inl h | inr h ↦ inr (ap suc h.0, h.1) ]

abbrev Answer : Layout → Bool → Type 0
Answer layout mark = MatchBool mark (LeavesPoint layout.leaves) (LeavesPoint layout.leaves → ⊥)

snoc-marks : (xs : List Layout) (x : Layout) (marks : List Bool) (m : Bool) → AreMarks xs marks → Answer x m → AreMarks (xs ++ x ∷ []) (marks ++ m ∷ [])
snoc-marks xs x marks m are here = record {
  count = (let a = are.count in let b = length-append xs (x ∷ []) in let c = length-append marks (m ∷ []) in omega (arith, a, b, c));
  each = λ t layout mark el em. elim (snoc-get xs x t layout el) [
    | inl old ↦ elim (snoc-get marks m t mark em) [
      | inl same ↦ are.each t layout mark old same
      | inr new ↦ absurd (let lt = slice_get_within xs t layout old in let a = are.count in omega (arith, lt, a, new.0))
    ]
    | inr last ↦ elim (snoc-get marks m t mark em) [
      | inl same ↦ absurd (let lt = slice_get_within marks t mark same in let a = are.count in omega (arith, lt, a, last.0))
      | inr new ↦ subst (λ (b : Bool). Answer layout b) new.1 (subst (λ (l : Layout). Answer l m) last.1 here)
    ]
  ];
}

pub marks-more : (layouts : List Layout) (i : ℕ) (layout : Layout) (marks new : List Bool) (m : Bool) (ls : List Leaf) → i < length layouts → layout ≡ get_or layouts i layout
    → AreMarks (take i layouts) marks → ls ≡ layout.leaves → MatchBool m (LeavesPoint ls) (LeavesPoint ls → ⊥) → new ≡ marks ++ m ∷ [] → AreMarks (take (i + 1) layouts) new
marks-more layouts i layout marks new m ls lt is are same here pushed =
    let one : take (i + 1) layouts ≡ take i layouts ++ layout ∷ [] =
    ap (λ n. take n layouts) (add-one i) ∙ take-suc layouts i layout lt ∙ ap (λ (x : Layout). take i layouts ++ x ∷ []) (sym is) in
    subst (λ (ms : List Bool). AreMarks (take (i + 1) layouts) ms) (sym pushed)
    (subst (λ (xs : List Layout). AreMarks xs (marks ++ m ∷ [])) (sym one)
    (snoc-marks (take i layouts) layout marks m are (subst (λ (xs : List Leaf). MatchBool m (LeavesPoint xs) (LeavesPoint xs → ⊥)) same here)))
