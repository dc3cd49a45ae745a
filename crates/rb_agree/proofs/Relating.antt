-- Graphs of types, and the relations that they show.
use Rattle.std.proofs.Common.{◌≡◌, ℕ, zero, suc, ◌≤◌, ◌⊎◌, inl, inr, List, [], ◌∷◌, ◌++◌, map, length, drop, Option, Some, None, refl, sym, ap, subst, ◌∙◌}
use Rattle.std.specs.Prelude.{slice_get, MatchOption}
use Rattle.std.specs.List.{flat_map}
use Rattle.std.proofs.lemmas.Option.{same_Some}
use Rattle.std.proofs.lemmas.List.{map-append, append-nil, append_assoc, drop_all}
use Rattle.rb_core.specs.declared.types.ConRef.{ConRef}
use Rattle.rb_core.specs.declared.types.Ty.{Ty}
use Rattle.rb_core.specs.declared.types.Ty.TheVariants.{Int, Named}
use Rattle.rb_core.specs.declared.types.DataDecl.{DataDecl}
use Rattle.rb_core.specs.declared.pattern.Pat.{Pat, Con}
use Rattle.rb_layout.specs.declared.layout.Layout.{Layout}
use Rattle.rb_layout.specs.declared.layout.Kind.{Kind}
use Rattle.rb_layout.specs.declared.layout.Kind.TheVariants.{Const, Bits, Word, Pointer}
use Rattle.rb_layout.specs.Cycles.{HasNoCycle, IsChain, IsCycleFrom}
use Rattle.rb_layout.specs.Positions.{open_positions}
use Rattle.rb_layout.specs.Flattening.{type_at}
use Rattle.rb_layout.specs.A9.{Flattens, cons_below, pattern_cons}
use Rattle.rb_layout.specs.A10.{HoldsField}
use Rattle.rb_layout.specs.Graphs.{Leads}
use Rattle.rb_agree.specs.Graphs.{IsGraphOf}
use Rattle.rb_agree.specs.inner.Rows.{below_types, flat_row, held_row, held_type, kind_holds, leaf_holds, leaf_types, part_holds, pattern_types, types_of_cons, word_holds}
use Rattle.rb_agree.specs.Lists.{SomeOf}
use Rattle.rb_agree.proofs.Lists.{map-at}
use Rattle.rb_agree.proofs.Marking.{cons-Con, below-Con}

-- Chains by one relation and another --------------------------------------------------------------------

module _ (R Q : ℕ → ℕ → Type 0) (go : (t s : ℕ) → R t s → Q t s) where
  chain-by : (t : ℕ) (ts : List ℕ) (last : ℕ) → IsChain R t ts last → IsChain Q t ts last
  chain-by t [] last r = go t last r
  chain-by t (s ∷ ts) last r = (go t s r.0, chain-by s ts last r.1)

  pub cycle-by : (t : ℕ) (ts : List ℕ) → IsCycleFrom R t ts → IsCycleFrom Q t ts
  cycle-by t [] h = h
  cycle-by t (s ∷ ts) h = (h.0, chain-by s ts s h.1, h.2)

  pub no-cycle-by : (t : ℕ) → HasNoCycle Q t → HasNoCycle R t
  no-cycle-by t none = λ ts cycle. none ts (chain-by t ts t cycle)

-- Items of lists made of lists ---------------------------------------------------------------------------

abbrev Among : {A : Type 0} → List A → A → Type 0
Among {A} xs x = (k : ℕ) × (slice_get xs k ≡ Some x)

among-append : {A : Type 0} (xs ys : List A) (x : A) → Among (xs ++ ys) x → Among xs x ⊎ Among ys x
among-append [] ys x h = inr h
among-append (z ∷ xs) ys x (zero, e) = inl (0, e)
among-append (z ∷ xs) ys x (suc k, e) = elim (among-append xs ys x (k, e)) [ inl h ↦ inl (suc h.0, h.1) | inr h ↦ inr h ]

among-left : {A : Type 0} (xs ys : List A) (x : A) → Among xs x → Among (xs ++ ys) x
among-left [] ys x h = absurd (cc h.1)
among-left (z ∷ xs) ys x (zero, e) = (0, e)
among-left (z ∷ xs) ys x (suc k, e) = let r = among-left xs ys x (k, e) in (suc r.0, r.1)

among-right : {A : Type 0} (xs ys : List A) (x : A) → Among ys x → Among (xs ++ ys) x
among-right [] ys x h = h
among-right (z ∷ xs) ys x h = let r = among-right xs ys x h in (suc r.0, r.1)

among-flat : {A B : Type 0} (f : A → List B) (xs : List A) (y : B) → Among (flat_map f xs) y → SomeOf (λ (x : A). Among (f x) y) xs
among-flat f [] y h = absurd (cc h.1)
among-flat f (x ∷ xs) y h = elim (among-append (f x) (flat_map f xs) y h) [
  | inl here ↦ (0, x, refl, here)
  | inr rest ↦ let r = among-flat f xs y rest in (suc r.0, r.1, r.2, r.3)
]

flat-among : {A B : Type 0} (f : A → List B) (xs : List A) (y : B) (k : ℕ) (x : A) → slice_get xs k ≡ Some x → Among (f x) y → Among (flat_map f xs) y
flat-among f [] y k x e h = absurd cc
flat-among {A} f (z ∷ xs) y zero x e h = among-left (f z) (flat_map f xs) y (subst (λ (w : A). Among (f w) y) (sym (same_Some z x e)) h)
flat-among f (z ∷ xs) y (suc k) x e h = among-right (f z) (flat_map f xs) y (flat-among f xs y k x e h)

among-map : {A B : Type 0} (f : A → B) (xs : List A) (y : B) → Among (map f xs) y → (k : ℕ) × (x : A) × (slice_get xs k ≡ Some x) × (f x ≡ y)
among-map f [] y h = absurd (cc h.1)
among-map f (x ∷ xs) y (zero, e) = (0, x, refl, same_Some (f x) y e)
among-map f (x ∷ xs) y (suc k, e) = let r = among-map f xs y (k, e) in (suc r.0, r.1, r.2, r.3)

-- Rows of layouts ------------------------------------------------------------------------------------------

module _ (row : Layout → List ℕ) where
  row-at : (ls : List Layout) (t s : ℕ) → Leads (map row ls) t s → (l : Layout) × (slice_get ls t ≡ Some l) × Among (row l) s
  row-at [] t s h = absurd (cc h.1)
  row-at (l ∷ ls) zero s h = (l, refl, h)
  row-at (l ∷ ls) (suc t) s h = row-at ls t s h

  at-row : (ls : List Layout) (t s : ℕ) (l : Layout) → slice_get ls t ≡ Some l → Among (row l) s → Leads (map row ls) t s
  at-row [] t s l e h = absurd cc
  at-row (x ∷ ls) zero s l e h = subst (λ (y : Layout). Among (row y) s) (sym (same_Some x l e)) h
  at-row (x ∷ ls) (suc t) s l e h = at-row ls t s l e h

module _ (layouts : List Layout) (t s : ℕ) where
  flat-leads : Leads (map flat_row layouts) t s → Flattens layouts t s
  flat-leads h =
      let l = row-at flat_row layouts t s h in
      let leaf = among-flat leaf_types l.0.leaves s l.2 in
      let c = among-map (λ (x : ConRef). x.ty) (cons_below leaf.1.prov) s leaf.3 in
      record { layout = l.0; number = leaf.0; leaf = leaf.1; is_layout = l.1; is_leaf = leaf.2; flattens = record { number = c.0; con = c.1; is_below = c.2; is_type = c.3 } }

  leads-flat : Flattens layouts t s → Leads (map flat_row layouts) t s
  leads-flat f =
      let c = f.flattens in
      let among : Among (leaf_types f.leaf) s = (c.number, map-at (λ (x : ConRef). x.ty) (cons_below f.leaf.prov) c.number c.con c.is_below ∙ ap Some c.is_type) in
      at-row flat_row layouts t s f.layout f.is_layout (flat-among leaf_types f.layout.leaves s f.number f.leaf f.is_leaf among)

pub is-flat-graph : (layouts : List Layout) (graph : List (List ℕ)) → graph ≡ map flat_row layouts → IsGraphOf (Flattens layouts) graph
is-flat-graph layouts graph is =
    subst (λ (g : List (List ℕ)). IsGraphOf (Flattens layouts) g) (sym is) (λ t s. (flat-leads layouts t s, leads-flat layouts t s))

-- Words of fields --------------------------------------------------------------------------------------------

held-is : (x : Option Ty) (s : ℕ) → Among (held_type x) s → x ≡ Some (Named s)
held-is None s h = absurd (cc h.1)
held-is (Some (Int bits)) s h = absurd (cc h.1)
held-is (Some (Named r)) s (zero, e) = ap (λ n. Some (Named n)) (same_Some r s e)
held-is (Some (Named r)) s (suc k, e) = absurd cc

module _ (types : List DataDecl) (prov : Pat) where
  abbrev IsHeld : Kind → ℕ → Type 0
  IsHeld kind s = (path : List ℕ) × (j : ℕ) × (kind ≡ Word path j) × (type_at (open_positions types prov) path ≡ Some (Named s))

  kind-held : (kind : Kind) (s : ℕ) → Among (kind_holds types prov kind) s → IsHeld kind s
  kind-held (Const c) s h = absurd (cc h.1)
  kind-held (Bits path a) s h = absurd (cc h.1)
  kind-held (Word path j) s h = (path, j, refl, held-is (type_at (open_positions types prov) path) s h)
  kind-held (Pointer align b) s h = absurd (cc h.1)

  held-kind : (kind : Kind) (s : ℕ) → IsHeld kind s → Among (kind_holds types prov kind) s
  held-kind kind s h =
      subst (λ (k : Kind). Among (kind_holds types prov k) s) (sym h.2) (subst (λ (x : Option Ty). Among (held_type x) s) (sym h.3) (0, refl))

module _ (types : List DataDecl) (layouts : List Layout) (t s : ℕ) where
  holds-leads : Leads (map (held_row types) layouts) t s → HoldsField types layouts t s
  holds-leads h =
      let l = row-at (held_row types) layouts t s h in
      let leaf = among-flat (leaf_holds types) l.0.leaves s l.2 in
      let word = among-flat (word_holds types leaf.1.prov) leaf.1.root s leaf.3 in
      let part = among-flat (part_holds types leaf.1.prov) word.1.parts s word.3 in
      let kind = kind-held types leaf.1.prov part.1.kind s part.3 in
      record {
        layout = l.0;
        leaf_number = leaf.0;
        leaf = leaf.1;
        word_number = word.0;
        word = word.1;
        part_number = part.0;
        part = part.1;
        path = kind.0;
        index = kind.1;
        is_layout = l.1;
        is_leaf = leaf.2;
        is_word = word.2;
        is_part = part.2;
        is_kind = kind.2;
        is_field = kind.3;
      }

  leads-holds : HoldsField types layouts t s → Leads (map (held_row types) layouts) t s
  leads-holds f =
      let kind = held-kind types f.leaf.prov f.part.kind s (f.path, f.index, f.is_kind, f.is_field) in
      let word = flat-among (part_holds types f.leaf.prov) f.word.parts s f.part_number f.part f.is_part kind in
      let leaf = flat-among (word_holds types f.leaf.prov) f.leaf.root s f.word_number f.word f.is_word word in
      at-row (held_row types) layouts t s f.layout f.is_layout (flat-among (leaf_holds types) f.layout.leaves s f.leaf_number f.leaf f.is_leaf leaf)

pub is-held-graph : (types : List DataDecl) (layouts : List Layout) (graph : List (List ℕ)) → graph ≡ map (held_row types) layouts → IsGraphOf (HoldsField types layouts) graph
is-held-graph types layouts graph is =
    subst (λ (g : List (List ℕ)). IsGraphOf (HoldsField types layouts) g) (sym is) (λ t s. (holds-leads types layouts t s, leads-holds types layouts t s))

-- What is found of a type -----------------------------------------------------------------------------------

module _ (R : ℕ → ℕ → Type 0) (graph : List (List ℕ)) (is : IsGraphOf R graph) (t : ℕ) where
  pub no-cycle-of : HasNoCycle (Leads graph) t → HasNoCycle R t
  no-cycle-of none = no-cycle-by R (Leads graph) (λ a b r. (is a b).1 r) t none

  pub cycle-of : (ts : List ℕ) → IsCycleFrom (Leads graph) t ts → IsCycleFrom R t ts
  cycle-of ts h = cycle-by (Leads graph) R (λ a b r. (is a b).0 r) t ts h

-- Patterns ----------------------------------------------------------------------------------------------------

types-flat : (ps : List Pat) → types_of_cons (flat_map pattern_cons ps) ≡ flat_map pattern_types ps
types-flat [] = refl
types-flat (p ∷ ps) = map-append (λ (c : ConRef). c.ty) (pattern_cons p) (flat_map pattern_cons ps) ∙ ap (λ (ns : List ℕ). pattern_types p ++ ns) (types-flat ps)

pub types-Con : (p : Pat) (at : ℕ) (c : ConRef) (ps : List Pat) → p ≡ Con at c ps → pattern_types p ≡ c.ty ∷ flat_map pattern_types ps
types-Con p at c ps is = ap types_of_cons (cons-Con p at c ps is) ∙ ap (λ (ns : List ℕ). c.ty ∷ ns) (types-flat ps)

pub types-below : (p : Pat) (at : ℕ) (c : ConRef) (ps : List Pat) → p ≡ Con at c ps → below_types p ≡ flat_map pattern_types ps
types-below p at c ps is = ap types_of_cons (below-Con p at c ps is) ∙ types-flat ps

pub types-added : (p : Pat) (at : ℕ) (c : ConRef) (ps qs : List Pat) (old middle new : List ℕ) → p ≡ Con at c ps → qs ≡ ps → middle ≡ old ++ c.ty ∷ [] → new ≡ middle ++ flat_map pattern_types qs
    → new ≡ old ++ pattern_types p
types-added p at c ps qs old middle new is same one rest =
    rest ∙ ap (λ (ns : List ℕ). ns ++ flat_map pattern_types qs) one ∙ append_assoc old (c.ty ∷ []) (flat_map pattern_types qs)
    ∙ ap (λ (xs : List Pat). old ++ c.ty ∷ flat_map pattern_types xs) same ∙ ap (λ (ns : List ℕ). old ++ ns) (sym (types-Con p at c ps is))

pub mapped-end : {A B : Type 0} (f : A → B) (xs : List A) (i : ℕ) (here start : List B) → length xs ≤ i → here ++ map f (drop i xs) ≡ start → here ≡ start
mapped-end {A} {B} f xs i here start le all =
    sym (append-nil here) ∙ ap (λ (ys : List B). here ++ ys) (sym (ap (λ (ys : List A). map f ys) (drop_all i xs le))) ∙ all

module _ (R : ℕ → ℕ → Type 0) (graph : List (List ℕ)) (is : IsGraphOf R graph) (t : ℕ) where
  abbrev Answer : Option (List ℕ) → Type 0
  Answer r = MatchOption r (HasNoCycle (Leads graph) t) (IsCycleFrom (Leads graph) t)

  pub none-found : (r : Option (List ℕ)) → r ≡ None → Answer r → HasNoCycle R t
  none-found r none h = no-cycle-of R graph is t (subst Answer none h)

  pub some-found : (r : Option (List ℕ)) (ts : List ℕ) → r ≡ Some ts → Answer r → IsCycleFrom R t ts
  some-found r ts some h = cycle-of R graph is t ts (subst Answer some h)
