-- Leaves that are alike at a location exclude the same numbers there.
use Rattle.std.proofs.Common.{◌≡◌, ℕ, suc, ◌+◌, ◌-◌, ◌<◌, ◌≤◌, inl, inr, min, List, [], ◌∷◌, ◌++◌, length, get_or, Bool, true, false, ◌&&◌, leb, ltb, if◌then◌else◌, Option, Some, None, refl, sym, ap, subst, ◌∙◌, arith}
use Rattle.std.specs.Prelude.{slice_get}
use Rattle.std.specs.Option.{option_or}
use Rattle.std.specs.Int.{bit_at}
use Rattle.std.proofs.lemmas.Bool.{ltb-true, ltb-false}
use Rattle.std.proofs.lemmas.Grind.{common_steps}
use Rattle.std.proofs.lemmas.Option.{same_Some, slice_get_within, slice_get-get_or}
use Rattle.rb_core.specs.declared.types.DataDecl.{DataDecl}
use Rattle.rb_core.specs.declared.types.Ty.TheVariants.{Named}
use Rattle.rb_core.specs.declared.pattern.Pat.{Pat}
use Rattle.rb_core.specs.declared.layout_decl.Loc.{Loc}
use Rattle.rb_core.specs.declared.layout_decl.Step.{Step}
use Rattle.rb_bits.specs.Words.{take_of}
use Rattle.rb_layout.specs.declared.layout.Layout.{Layout}
use Rattle.rb_layout.specs.declared.layout.Leaf.{Leaf}
use Rattle.rb_layout.specs.declared.layout.FlatWord.{FlatWord}
use Rattle.rb_layout.specs.declared.layout.Part.{Part}
use Rattle.rb_layout.specs.declared.layout.Kind.{Kind}
use Rattle.rb_layout.specs.declared.layout.Kind.TheVariants.{Const, Bits, Word, Pointer}
use Rattle.rb_layout.specs.declared.layout.WordRef.{WordRef}
use Rattle.rb_layout.specs.Positions.{open_positions}
use Rattle.rb_layout.specs.Flattening.{type_at}
use Rattle.rb_layout.specs.Locations.{Reached, reached_at, resolve_from, range_in, bit_of_kind, bit_of_part, constant_bit}
use Rattle.rb_layout.specs.Excluded.{Bars, differs, null, within, Excludes, HasNull, HasOtherBit}
use Rattle.rb_layout.specs.Excluded as X
use Rattle.rb_layout.specs.Splits.{IsNone, Test}
use Rattle.rb_layout.specs.A7.{MeetsTest}
use Rattle.rb_layout.proofs.OpenPositions.{position-typed, type-open}
use Rattle.rb_agree.specs.inner.Lists.{EachOf}
use Rattle.rb_agree.specs.declared.passing.Asking.{Asking}
use Rattle.rb_agree.specs.inner.Passing.{IsLike, IsPrior, test_at, test_of}
use Rattle.rb_agree.specs.inner.Splits.{literals_in}
use Rattle.rb_agree.proofs.Lists.{each-append, each-first, each-none}
use Rattle.rb_agree.specs.inner.Alike.{AreAlike, AreKinds, ArePartsAlike, IsBeside, IsPartAlike}

and-off : (a b : Bool) → b ≡ false → (a && b) ≡ false
and-off true b e = e
and-off false b e = refl

module _ (types : List DataDecl) (one other : Pat) (o l : ℕ) where
  abbrev Alike : List Part → List Part → Type 0
  Alike ps qs = ArePartsAlike types one other o l ps qs

  same-kind-bit : (a b : Kind) → AreKinds types one other a b → (i : ℕ) → bit_of_kind a i ≡ bit_of_kind b i
  same-kind-bit (Const c) (Const d) h i = ap (λ n. Some (bit_at n i)) h
  same-kind-bit (Const c) (Bits q b) h i = absurd h
  same-kind-bit (Const c) (Word q k) h i = absurd h
  same-kind-bit (Const c) (Pointer a b) h i = absurd h
  same-kind-bit (Bits p a) (Const d) h i = absurd h
  same-kind-bit (Bits p a) (Bits q b) h i = refl
  same-kind-bit (Bits p a) (Word q k) h i = refl
  same-kind-bit (Bits p a) (Pointer b c) h i = refl
  same-kind-bit (Word p j) (Const d) h i = absurd h
  same-kind-bit (Word p j) (Bits q b) h i = refl
  same-kind-bit (Word p j) (Word q k) h i = refl
  same-kind-bit (Word p j) (Pointer b c) h i = refl
  same-kind-bit (Pointer a b) (Const d) h i = absurd h
  same-kind-bit (Pointer a b) (Bits q c) h i = refl
  same-kind-bit (Pointer a b) (Word q k) h i = refl
  same-kind-bit (Pointer a b) (Pointer c d) h i = refl

  no-bit : (p : Part) (n : ℕ) → IsBeside o l p → o ≤ n → n < o + l → bit_of_part p n ≡ None
  no-bit p n (some, inl below) lo hi =
      let e : ltb n (p.o + p.l) ≡ false = grind (arith, common_steps, below, lo) in
      let off : (leb p.o n && ltb n (p.o + p.l)) ≡ false = and-off (leb p.o n) (ltb n (p.o + p.l)) e in rw off refl
  no-bit p n (some, inr above) lo hi = let e : leb p.o n ≡ false = grind (arith, common_steps, above, hi) in rw e refl

  same-bit-of : (p q : Part) (n : ℕ) → IsPartAlike types one other o l p q → o ≤ n → n < o + l → bit_of_part p n ≡ bit_of_part q n
  same-bit-of p q n (inl beside) lo hi = no-bit p n beside.0 lo hi ∙ sym (no-bit q n beside.1 lo hi)
  same-bit-of p q n (inr same) lo hi =
      ap (λ a. if leb a n && ltb n (a + p.l) then bit_of_kind p.kind (n - a) else None) same.0
      ∙ ap (λ b. if leb q.o n && ltb n (q.o + b) then bit_of_kind p.kind (n - q.o) else None) same.1
      ∙ ap (λ (x : Option ℕ). if leb q.o n && ltb n (q.o + q.l) then x else None) (same-kind-bit p.kind q.kind same.2 (n - q.o))

  same-bit : (ps qs : List Part) → Alike ps qs → (n : ℕ) → o ≤ n → n < o + l → constant_bit ps n ≡ constant_bit qs n
  same-bit [] [] h n lo hi = refl
  same-bit [] (q ∷ qs) h n lo hi = let e = h.0 in absurd (omega (arith, e))
  same-bit (p ∷ ps) [] h n lo hi = let e = h.0 in absurd (omega (arith, e))
  same-bit (p ∷ ps) (q ∷ qs) h n lo hi =
      let e = h.0 in
      ap (λ (x : Option ℕ). option_or x (constant_bit ps n)) (same-bit-of p q n (h.1 0 p q refl refl) lo hi)
      ∙ ap (λ (x : Option ℕ). option_or (bit_of_part q n) x) (same-bit ps qs (omega (arith, e), λ k. h.1 (suc k)) n lo hi)

  -- the part with the same number
  part-of : (ps qs : List Part) → Alike ps qs → (k : ℕ) (p : Part) → slice_get ps k ≡ Some p → (q : Part) × (slice_get qs k ≡ Some q) × IsPartAlike types one other o l p q
  part-of ps qs h k p e =
      let at : slice_get qs k ≡ Some (get_or qs k p) = slice_get-get_or qs k p (omega (arith, h.0, slice_get_within ps k p e)) in
      (get_or qs k p, at, h.1 k p (get_or qs k p) e at)

  a-pointer : (a b : Kind) → AreKinds types one other a b → (align block : ℕ) → a ≡ Pointer align block → (align : ℕ) × (block : ℕ) × (b ≡ Pointer align block)
  a-pointer (Const c) b h align block e = cc
  a-pointer (Bits p f) b h align block e = cc
  a-pointer (Word p j) b h align block e = cc
  a-pointer (Pointer f g) (Const d) h align block e = absurd h
  a-pointer (Pointer f g) (Bits q c) h align block e = absurd h
  a-pointer (Pointer f g) (Word q k) h align block e = absurd h
  a-pointer (Pointer f g) (Pointer c d) h align block e = (c, d, refl)

  a-word : (a b : Kind) → AreKinds types one other a b → (path : List ℕ) (j : ℕ) → a ≡ Word path j
      → (q : List ℕ) × (b ≡ Word q j) × (type_at (open_positions types one) path ≡ type_at (open_positions types other) q)
  a-word (Const c) b h path j e = cc
  a-word (Bits p f) b h path j e = cc
  a-word (Pointer f g) b h path j e = cc
  a-word (Word p i) (Const d) h path j e = absurd h
  a-word (Word p i) (Bits q c) h path j e = absurd h
  a-word (Word p i) (Pointer c d) h path j e = absurd h
  a-word (Word p i) (Word q k) h path j e =
      let path_is : p ≡ path = cc in let word_is : i ≡ j = cc in
      (q, ap (λ n. Word q n) (sym h.0 ∙ word_is), ap (type_at (open_positions types one)) (sym path_is) ∙ h.1)

  other-bit : (f g : FlatWord) (c : ℕ) → Alike f.parts g.parts → HasOtherBit f o l c → HasOtherBit g o l c
  other-bit f g c a h = record {
    i = h.i;
    bit = h.bit;
    inside = h.inside;
    constant = let lt = h.inside in sym (same-bit f.parts g.parts a (o + h.i) (omega arith) (omega (arith, lt))) ∙ h.constant;
    other = h.other;
  }

  null-of : (f g : FlatWord) (c : ℕ) → Alike f.parts g.parts → HasNull f o l c → HasNull g o l c
  null-of f g c a h = let r = part-of f.parts g.parts a h.number h.part h.is_part in at r.0 r.1 r.2 where
    at : (q : Part) → slice_get g.parts h.number ≡ Some q → IsPartAlike types one other o l h.part q → HasNull g o l c
    at q e (inl ((some, inl below), there)) = let lo = h.first in absurd (omega (arith, some, below, lo))
    at q e (inl ((some, inr above), there)) = let hi = h.last in absurd (omega (arith, some, above, hi))
    at q e (inr same) = let p = a-pointer h.part.kind q.kind same.2 h.align h.block h.is_pointer in record {
      number = h.number;
      part = q;
      align = p.0;
      block = p.1;
      is_part = e;
      is_pointer = p.2;
      first = subst (λ n. o ≤ n) same.0 h.first;
      last = let hi = h.last in omega (arith, hi, same.0, same.1);
      zeros = subst (λ n. take_of c (n - o) q.l ≡ 0) same.0 (subst (λ n. take_of c (h.part.o - o) n ≡ 0) same.1 h.zeros);
    }

module _ (types : List DataDecl) (one other : Leaf) (o l : ℕ) where
  meets-of : (f g : FlatWord) (s j p a b : ℕ) → ArePartsAlike types one.prov other.prov o l f.parts g.parts → X.MeetsRange types one f o l s j p a b → X.MeetsRange types other g o l s j p a b
  meets-of f g s j p a b alike h = let r = part-of types one.prov other.prov o l f.parts g.parts alike h.number h.part h.is_part in at r.0 r.1 r.2 where
    at : (q : Part) → slice_get g.parts h.number ≡ Some q → IsPartAlike types one.prov other.prov o l h.part q → X.MeetsRange types other g o l s j p a b
    at q e (inl ((some, inl below), there)) = let x = h.first in let y = h.last in let z = h.some in let w = h.from in absurd (omega (arith, some, below, x, y, z, w))
    at q e (inl ((some, inr above), there)) = let x = h.first in let y = h.last in let z = h.some in let w = h.from in absurd (omega (arith, some, above, x, y, z, w))
    at q e (inr same) =
        let w = a-word types one.prov other.prov o l h.part.kind q.kind same.2 h.place.path j h.is_word in
        let typed : type_at (open_positions types other.prov) w.0 ≡ Some (Named s) =
        sym w.2 ∙ position-typed types one.prov h.open_number h.place h.is_open ∙ ap Some h.is_type in
        let there = type-open (open_positions types other.prov) w.0 (Named s) typed in
        record {
          number = h.number;
          part = q;
          is_part = e;
          from = sym same.0 ∙ h.from;
          open_number = there.0;
          place = there.1;
          is_open = there.2;
          is_word = w.1 ∙ ap (λ (path : List ℕ). Word path j) (sym there.3);
          is_type = there.4;
          first = h.first;
          last = h.last ∙ ap (λ n. min (o + l) (p + n)) same.1;
          some = h.some;
        }

module _ (types : List DataDecl) (layouts : List Layout) where
  bars-of : {one : Leaf} {f : FlatWord} {o l c : ℕ} → Bars types layouts one f o l c → (other : Leaf) (g : FlatWord) → ArePartsAlike types one.prov other.prov o l f.parts g.parts
      → Bars types layouts other g o l c
  bars-of (differs leaf f o l c h) other g alike = differs other g o l c (other-bit types leaf.prov other.prov o l f g c alike h)
  bars-of (null leaf f o l c h) other g alike = null other g o l c (null-of types leaf.prov other.prov o l f g c alike h)
  bars-of (within leaf f o l c s j p a b m layout is some words below) other g alike =
      within other g o l c s j p a b (meets-of types leaf other o l f g s j p a b alike m) layout is some words below

  -- the word and the range of a location in a root word
  abbrev root_ref : Loc → WordRef
  root_ref loc = record { block = None; word = loc.word }

  at-root : (leaf : Leaf) (loc : Loc) (f : FlatWord) → loc.steps ≡ [] → slice_get leaf.root loc.word ≡ Some f → reached_at leaf loc ≡ range_in (Some f) (root_ref loc) loc.o loc.l
  at-root leaf loc f none is =
      ap (λ (steps : List Step). resolve_from leaf (Some (root_ref loc)) loc.o loc.l steps) none ∙ ap (λ (x : Option FlatWord). range_in x (root_ref loc) loc.o loc.l) is

  range-is : (f : FlatWord) (r : WordRef) (o l : ℕ) (x : Reached) → range_in (Some f) r o l ≡ Some x → (leb 1 l && leb (o + l) f.width ≡ true) × (record { ref = r; word = f; o = o; l = l } ≡ x)
  range-is f r o l x = elim (leb 1 l && leb (o + l) f.width) as (λ (b : Bool). (if b then Some (record { ref = r; word = f; o = o; l = l }) else None) ≡ Some x → (b ≡ true) × (record { ref = r; word = f; o = o; l = l } ≡ x)) [
    | true ↦ λ e. (refl, cc)
    | false ↦ λ e. cc
  ]

  module _ (one other : Leaf) (loc : Loc) (h : AreAlike types one other loc) where
    reached-too : (x : Reached) → reached_at one loc ≡ Some x
        → (x ≡ record { ref = root_ref loc; word = h.first; o = loc.o; l = loc.l }) × (reached_at other loc ≡ Some (record { ref = root_ref loc; word = h.second; o = loc.o; l = loc.l }))
    reached-too x e =
        let r = range-is h.first (root_ref loc) loc.o loc.l x (sym (at-root one loc h.first h.root h.is_first) ∙ e) in
        let fits : (leb 1 loc.l && leb (loc.o + loc.l) h.second.width) ≡ true = ap (λ n. leb 1 loc.l && leb (loc.o + loc.l) n) (sym h.width) ∙ r.0 in
        (sym r.1, at-root other loc h.second h.root h.is_second ∙ rw fits refl)

    excludes-too : (c : ℕ) → Excludes types layouts one loc c → Excludes types layouts other loc c
    excludes-too c e =
        let r = reached-too e.reached e.resolves in
        record {
          reached = record { ref = root_ref loc; word = h.second; o = loc.o; l = loc.l };
          resolves = r.1;
          bars = bars-of (subst (λ (x : Reached). Bars types layouts one x.word x.o x.l c) r.0 e.bars) other h.second h.parts;
        }

    pub meets-too : (literals : List ℕ) → MeetsTest types layouts one (IsNone loc literals) → MeetsTest types layouts other (IsNone loc literals)
    meets-too literals m = ((record { ref = root_ref loc; word = h.second; o = loc.o; l = loc.l }, (reached-too m.0.0 m.0.1).1), λ c is. excludes-too c (m.1 c is))

-- Pairs of items, one by one ----------------------------------------------------------------------------

abbrev pub PairsBefore : (Part → Part → Type 0) → List Part → List Part → ℕ → Type 0
PairsBefore R ps qs n = (k : ℕ) (p q : Part) → k < n → slice_get ps k ≡ Some p → slice_get qs k ≡ Some q → R p q

pub pairs-next : (R : Part → Part → Type 0) (ps qs : List Part) (i : ℕ) (p q : Part) → slice_get ps i ≡ Some p → slice_get qs i ≡ Some q → R p q → PairsBefore R ps qs i
    → PairsBefore R ps qs (i + 1)
pairs-next R ps qs i p q at there here before k x y lt e f = elim (ltb k i) as (λ (b : Bool). ltb k i ≡ b → R x y) [
  | true ↦ λ h. before k x y (ltb-true k i h) e f
  | false ↦ λ h. let m = ltb-false k i h in
      let same : i ≡ k = omega (arith, m, lt) in
      subst (λ (z : Part). R z y) (same_Some p x (sym at ∙ subst (λ n. slice_get ps n ≡ Some x) (sym same) e))
      (subst (λ (z : Part). R p z) (same_Some q y (sym there ∙ subst (λ n. slice_get qs n ≡ Some y) (sym same) f)) here)
] refl

pub pairs-all : (R : Part → Part → Type 0) (ps qs : List Part) (i : ℕ) → length ps ≤ i → PairsBefore R ps qs i
    → (k : ℕ) (p q : Part) → slice_get ps k ≡ Some p → slice_get qs k ≡ Some q → R p q
pairs-all R ps qs i all before k p q e f = before k p q (omega (arith, all, slice_get_within ps k p e)) e f

-- A leaf that is alike to one that meets the test of an `else` -------------------------------------------

like-meets : (types : List DataDecl) (layouts : List Layout) (leaves : List Leaf) (leaf : Leaf) (loc : Loc) (literals : List ℕ) (priors : List ℕ) → IsLike types leaves leaf loc priors
    → EachOf (IsPrior types layouts leaves (IsNone loc literals)) priors → MeetsTest types layouts leaf (IsNone loc literals)
like-meets types layouts leaves leaf loc literals priors h known = meets-too types layouts h.3.0 leaf loc h.3.2 literals (known h.0 h.1 h.2 h.3.0 h.3.1)

module _ (types : List DataDecl) (layouts : List Layout) (leaves : List Leaf) where
  abbrev Priors : Test → List ℕ → Type 0
  Priors test ns = EachOf (IsPrior types layouts leaves test) ns

  pub spared-meets : (leaf : Leaf) (a : Asking) (seen priors : List ℕ) → seen ≡ priors → (a.literal ≡ None) × IsLike types leaves leaf a.loc.now seen → Priors (test_of a) priors
      → MeetsTest types layouts leaf (test_of a)
  spared-meets leaf a seen priors same spared known =
      let as_else : test_of a ≡ IsNone a.loc.now (literals_in a.arms.now) = ap (λ (o : Option ℕ). test_at a.loc.now a.arms.now o) spared.0 in
      subst (λ (t : Test). MeetsTest types layouts leaf t) (sym as_else) (like-meets types layouts leaves leaf a.loc.now (literals_in a.arms.now) priors
      (subst (λ (ns : List ℕ). IsLike types leaves leaf a.loc.now ns) same spared.1) (subst (λ (t : Test). Priors t priors) as_else known))

  pub priors-none : (test : Test) (ns : List ℕ) → ns ≡ [] → Priors test ns
  priors-none test ns none = subst (λ (ms : List ℕ). Priors test ms) (sym none) (each-none (IsPrior types layouts leaves test))

  pub priors-more : (test : Test) (old new : List ℕ) (n : ℕ) (leaf : Leaf) → new ≡ old ++ n ∷ [] → slice_get leaves n ≡ Some leaf → MeetsTest types layouts leaf test → Priors test old → Priors test new
  priors-more test old new n leaf is at meets known =
      subst (λ (ns : List ℕ). Priors test ns) (sym is) (each-append (IsPrior types layouts leaves test) old (n ∷ []) known (each-first (IsPrior types layouts leaves test) n []
      (λ x there. subst (λ (y : Leaf). MeetsTest types layouts y test) (same_Some leaf x (sym at ∙ there)) meets) (each-none (IsPrior types layouts leaves test))))
