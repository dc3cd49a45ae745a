-- Values at positions: their own leaves, their fields, and the provenances that match them.
use Rattle.std.proofs.Common.{◌≡◌, ℕ, zero, suc, ◌+◌, inl, inr, map, Bool, true, false, List, [], ◌∷◌, ◌++◌, Some, Ok, refl, sym, subst, ap, ◌∙◌, arith, append_assoc, append-nil}
use Rattle.std.specs.Prelude.{slice_get, ◌==◌}
use Rattle.std.specs.List.{flat_map, list_all}
use Rattle.std.proofs.lemmas.Bool.{and_parts}
use Rattle.std.proofs.lemmas.Option.{same_Some}
use Rattle.std.proofs.lemmas.List.Folds.{list_all-map}
use Rattle.rb_core.specs.declared.pattern.Pat.{Pat, Wild, Var, Num, Con, out-Pat, fold-Pat}
use Rattle.rb_core.specs.declared.pattern.Pat.TheOpen as P
use Rattle.rb_core.specs.declared.pattern.Pat.TheOpen.{Pat-F}
use Rattle.rb_core.specs.declared.pattern.Pat.TheVariants.{outs-Wild, outs-Var, outs-Num, outs-Con}
use Rattle.rb_core.specs.declared.program.Program.{Program}
use Rattle.rb_core.specs.declared.types.ConRef.{ConRef}
use Rattle.rb_core.specs.declared.types.Ty.{Ty}
use Rattle.rb_core.specs.declared.types.Ty.TheVariants.{Int, Named}
use Rattle.rb_core.specs.declared.types.DataDecl.{DataDecl}
use Rattle.rb_core.specs.declared.value.Value.{Value, out-Value, Num as VNum, Con as VCon}
use Rattle.rb_core.specs.declared.value.Value.TheVariants.{outs-Num as V-outs-Num, outs-Con as V-outs-Con}
use Rattle.rb_core.specs.Matching.{all_pass, is_con, is_number, matches_of}
use Rattle.rb_core.specs.TypedPrograms.{IsTyped}
use Rattle.rb_core.specs.Values.{all_of_types, are_of, fields_in, fields_of, is_of_type, part_from, subs}
use Rattle.rb_core.proofs.MatchingForms.{matches-Con}
use Rattle.rb_core.specs.WellNumbered.{Below, below_step, either, is_provenance, may_be_below}
use Rattle.rb_core.proofs.ValueLaws.{is_of_type-Con, subs-Con}
use Rattle.rb_core.proofs.ValueLaws.{induction as value_induction}
use Rattle.rb_core.proofs.PatternLaws.{Each, fold-Con, fold-Num, fold-Var, fold-Wild, induction}
use Rattle.rb_core.proofs.MatchingLemmas.{all_at}
use Rattle.rb_bytes.specs.Memory.{Memory, IsGood}
use Rattle.rb_layout.specs.declared.layout.Layout.{Layout}
use Rattle.rb_layout.specs.declared.layout.Leaf.{Leaf}
use Rattle.rb_layout.specs.A9.{HasPointerPart, cons_below_root, pattern_cons, cons_step}
use Rattle.rb_layout.specs.Agreement.{Agrees}
use Rattle.rb_layout.specs.Flattening.{flat_layouts}
use Rattle.rb_layout.specs.Positions.{Open, below, layout_of, opens_below, opens_of, root_type, types_or_none}
use Rattle.rb_rel.specs.Relation.{Represents}
use Rattle.rb_rel.proofs.Agreeing.{lawful}
use Rattle.rb_rel.proofs.Lawful.{ProvenancesFit}
use Rattle.rb_rel.specs.Provenances.{fits_type, is_named}
use Rattle.rb_rel.proofs.Leaves.{leaf_matches}
use Rattle.rb_rel.proofs.Lists.{and_true, get-left, get-mapped, get-right}
use Rattle.rb_rel.proofs.Opens.{fits-Con, fitting, opens-Con, opens-Var, opens-Wild}
use Rattle.rb_rel.proofs.Reading.{same_nat}
use Rattle.rb_image_text.specs.declared.image.ImageBlock.{ImageBlock}
use Rattle.rb_image.specs.declared.kept.Kept.{Kept}
use Rattle.rb_image.specs.Fields.{field_in, field_of, with_type}
use Rattle.rb_image.proofs.SpotLemmas.{In, get_in, in_get, in_right}
use Rattle.rb_peek.specs.Rebuilds.{numbers_of}
use Rattle.rb_peek.specs.RebuiltValues.{IsInner, ValueStands, is_numberless, plain_step}
use Rattle.rb_peek.specs.TakenApart.{open_words}
use Rattle.rb_peek.specs.Views.{LeafPosition, down, down_to, from_root, settled_at, settled_here, words_here}
use Rattle.rb_peek.specs.Walks.{data_of, open_data, open_in}
use Rattle.rb_peek.proofs.SeenValues.{values_are_seen}

-- Patterns -----------------------------------------------------------------------------------
pub data Form (q : Pat) : Type 0 where
  wild : (at : ℕ) → q ≡ Wild at → Form q
  var : (at x : ℕ) → q ≡ Var at x → Form q
  num : (at n : ℕ) → q ≡ Num at n → Form q
  con : (at : ℕ) (c : ConRef) (ps : List Pat) → q ≡ Con at c ps → Form q

pub forms : (q : Pat) → Form q
forms = induction Form (record {
  wild = λ at. wild at refl;
  var = λ at x. var at x refl;
  num = λ at n. num at n refl;
  con = λ at c ps each. con at c ps refl;
})

-- lists that are checked item by item --------------------------------------------------------
module _ {A B : Type 0} (f : A → B → Bool) where
  -- where a test of items passes for items of another list, one each
  abbrev pub all_two : List A → List B → Type 0
  all_two [] [] = Unit {0}
  all_two [] (y ∷ ys) = ⊥
  all_two (x ∷ xs) [] = ⊥
  all_two (x ∷ xs) (y ∷ ys) = (f x y ≡ true) × all_two xs ys

  pub two_at : (xs : List A) (ys : List B) → all_two xs ys → (j : ℕ) (y : B) → slice_get ys j ≡ Some y → (x : A) × (slice_get xs j ≡ Some x) × (f x y ≡ true)
  two_at [] [] h j y e = absurd cc
  two_at [] (z ∷ ys) h j y e = absurd h
  two_at (x ∷ xs) [] h j y e = absurd h
  two_at (x ∷ xs) (z ∷ ys) h zero y e = (x, refl, subst (λ w. f x w ≡ true) (same_Some z y e) h.0)
  two_at (x ∷ xs) (z ∷ ys) h (suc j) y e = two_at xs ys h.1 j y e

  pub two_from : (xs : List A) (ys : List B) → all_two xs ys → (j : ℕ) (x : A) → slice_get xs j ≡ Some x → (y : B) × (slice_get ys j ≡ Some y) × (f x y ≡ true)
  two_from [] [] h j x e = absurd cc
  two_from [] (z ∷ ys) h j x e = absurd h
  two_from (w ∷ xs) [] h j x e = absurd h
  two_from (w ∷ xs) (z ∷ ys) h zero x e = (z, refl, subst (λ u. f u z ≡ true) (same_Some w x e) h.0)
  two_from (w ∷ xs) (z ∷ ys) h (suc j) x e = two_from xs ys h.1 j x e

pub types_two : {A : Type 0} (f : A → Ty → Bool) (xs : List A) (ts : List Ty) → all_of_types (map f xs) ts ≡ true → all_two f xs ts
types_two f [] [] e = tt
types_two f [] (t ∷ ts) e = absurd cc
types_two f (x ∷ xs) [] e = absurd cc
types_two f (x ∷ xs) (t ∷ ts) e = let h = and_parts (f x t) (all_of_types (map f xs) ts) e in (h.0, types_two f xs ts h.1)

pub pass_two : (ps : List Pat) (vs : List Value) → all_pass (map matches_of ps) vs ≡ true → all_two matches_of ps vs
pass_two [] [] e = tt
pass_two [] (v ∷ vs) e = absurd cc
pass_two (p ∷ ps) [] e = absurd cc
pass_two (p ∷ ps) (v ∷ vs) e = let h = and_parts (matches_of p v) (all_pass (map matches_of ps) vs) e in (h.0, pass_two ps vs h.1)

pub plain_at : (ps : List Pat) → list_all (λ so. so) (map is_numberless ps) ≡ true → (j : ℕ) (q : Pat) → slice_get ps j ≡ Some q → is_numberless q ≡ true
plain_at ps h j q e = all_at is_numberless ps j q (sym (list_all-map (λ so. so) is_numberless ps) ∙ h) e

pub in_one : (c : ConRef) (css : List (List ConRef)) (j : ℕ) (cs : List ConRef) → slice_get css j ≡ Some cs → In c cs → In c (flat_map (λ ds. ds) css)
in_one c [] j cs e h = absurd cc
in_one c (ds ∷ css) zero cs e h = left ds (flat_map (λ es. es) css) (subst (In c) (sym (same_Some ds cs e)) h)
  where
    left : (xs ys : List ConRef) → In c xs → In c (xs ++ ys)
    left [] ys g = absurd g
    left (x ∷ xs) ys (inl g) = inl g
    left (x ∷ xs) ys (inr g) = inr (left xs ys g)
in_one c (ds ∷ css) (suc j) cs e h = in_right c ds (flat_map (λ es. es) css) (in_one c css j cs e h)

pub cons-Con : (at : ℕ) (c : ConRef) (ps : List Pat) → pattern_cons (Con at c ps) ≡ c ∷ flat_map (λ cs. cs) (map pattern_cons ps)
cons-Con at c ps = fold-Con (List ConRef) cons_step at c ps

pub plain-Con : (at : ℕ) (c : ConRef) (ps : List Pat) → is_numberless (Con at c ps) ≡ list_all (λ so. so) (map is_numberless ps)
plain-Con at c ps = fold-Con Bool plain_step at c ps

-- an open position of a field is one of the constructor
pub below_among : (fs : List (Ty → List Open)) (ts : List Ty) (i j : ℕ) (f : Ty → List Open) (t : Ty) (k : ℕ) (o : Open) → slice_get fs j ≡ Some f → slice_get ts j ≡ Some t → slice_get (f t) k ≡ Some o
    → (n : ℕ) × (slice_get (opens_below fs ts i) n ≡ Some (below (i + j) o))
below_among [] ts i j f t k o ef et e = absurd cc
below_among (g ∷ fs) [] i j f t k o ef et e = absurd cc
below_among (g ∷ fs) (s ∷ ts) i zero f t k o ef et e =
    let z : i ≡ i + 0 = omega arith in
    let there : slice_get (g s) k ≡ Some o = ap (λ (h : Ty → List Open). slice_get (h s) k) (same_Some g f ef) ∙ ap (λ (r : Ty). slice_get (f r) k) (same_Some s t et) ∙ e in
    (k, get-left (map (below i) (g s)) (opens_below fs ts (i + 1)) k (below i o) (get-mapped (below i) (g s) k o there) ∙ ap (λ n. Some (below n o)) z)
below_among (g ∷ fs) (s ∷ ts) i (suc j) f t k o ef et e =
    let r = below_among fs ts (i + 1) j f t k o ef et e in
    let q = get-right (map (below i) (g s)) (opens_below fs ts (i + 1)) r.0 (below (i + 1 + j) o) r.1 in
    let z : i + 1 + j ≡ i + suc j = omega arith in
    (q.0, q.1 ∙ ap (λ n. Some (below n o)) z)

-- Provenances --------------------------------------------------------------------------------
abbrev Plain : Pat → Type 0
Plain q = may_be_below (fold-Pat Below below_step q) ≡ true → is_numberless q ≡ true

all_plain : (ps : List Pat) → Each Plain ps → list_all may_be_below (map (fold-Pat Below below_step) ps) ≡ true → list_all (λ so. so) (map is_numberless ps) ≡ true
all_plain [] each h = refl
all_plain (q ∷ ps) each h =
    let b = and_parts (may_be_below (fold-Pat Below below_step q)) (list_all may_be_below (map (fold-Pat Below below_step) ps)) h in
    and_true (is_numberless q) (list_all (λ so. so) (map is_numberless ps)) (each.0 b.0) (all_plain ps each.1 b.1)

plain_below : (q : Pat) → Plain q
plain_below = induction Plain (record {
  wild = λ at h. fold-Wild Bool plain_step at;
  var = λ at x h. fold-Var Bool plain_step at x;
  num = λ at n h. absurd (let z = sym (ap may_be_below (fold-Num Below below_step at n)) ∙ h in cc);
  con = λ at c ps each h. plain-Con at c ps ∙ all_plain ps each (sym (ap may_be_below (fold-Con Below below_step at c ps)) ∙ h);
})

either_right : (a b : Bool) → b ≡ true → either a b ≡ true
either_right true b e = refl
either_right false b e = e

pub plain_provenance : (q : Pat) → is_provenance q ≡ true → is_numberless q ≡ true
plain_provenance q h = plain_below q (either_right (fold-Pat Below below_step q).wild (fold-Pat Below below_step q).provenance h)

pub flat_same : (ps : List Pat) → flat_map (λ (cs : List ConRef). cs) (map pattern_cons ps) ≡ flat_map pattern_cons ps
flat_same [] = refl
flat_same (q ∷ ps) = ap (λ cs. pattern_cons q ++ cs) (flat_same ps)

-- Values -------------------------------------------------------------------------------------
data ValueForm (v : Value) : Type 0 where
  number : (n : ℕ) → v ≡ VNum n → ValueForm v
  built : (k : ℕ) (vs : List Value) → v ≡ VCon k vs → ValueForm v

value_forms : (v : Value) → ValueForm v
value_forms = value_induction ValueForm (λ n. number n refl) (λ k vs each. built k vs refl)

-- a value that a constructor matches
pub record Matched (c : ConRef) (ps : List Pat) (v : Value) : Type 0 where
  pub vs : List Value
  pub is : v ≡ VCon c.con vs
  pub pass : all_two matches_of ps vs

pub matched : (at : ℕ) (c : ConRef) (ps : List Pat) (v : Value) → matches_of (Con at c ps) v ≡ true → Matched c ps v
matched at c ps v m = go (value_forms v)
  where
    go : ValueForm v → Matched c ps v
    go (number n e) = absurd (let z = sym (ap (is_con c.con (map matches_of ps)) (ap out-Value e ∙ V-outs-Num n)) ∙ sym (matches-Con v at c ps) ∙ m in cc)
    go (built k vs e) =
        let b = and_parts (c.con == k) (all_pass (map matches_of ps) vs) (sym (ap (is_con c.con (map matches_of ps)) (ap out-Value e ∙ V-outs-Con k vs)) ∙ sym (matches-Con v at c ps) ∙ m) in
        record { vs = vs; is = e ∙ ap (λ i. VCon i vs) (sym (same_nat c.con k b.0)); pass = pass_two ps vs b.1 }

module _ (p : Program) (typed : IsTyped p) (agrees : Agrees p) (m : Memory) (good : IsGood m) (blocks : List ImageBlock) where
  abbrev pub types : List DataDecl
  types = p.types

  abbrev pub layouts : List Layout
  layouts = flat_layouts p

  abbrev Stand : LeafPosition → Value → Pat → Ty → Type 0
  Stand x v q ty = ValueStands p m blocks x v q ty

  -- Patterns ---------------------------------------------------------------------------------
  module _ (at : ℕ) (c : ConRef) (ps : List Pat) (ty : Ty) (inner : IsInner p (Con at c ps) ty) where
    abbrev pub tys : List Ty
    tys = types_or_none (fields_of types c)

    pub con_fits : (is_named c.ty ty ≡ true) × all_two (fits_type types) ps tys
    con_fits =
        let b = and_parts (is_named c.ty ty) (are_of (map (fits_type types) ps) (fields_of types c)) (sym (fits-Con types at c ps ty) ∙ inner.fits) in
        (b.0, types_two (fits_type types) ps tys (fitting types (map (fits_type types) ps) (fields_of types c) b.1))

    pub head_free : HasPointerPart layouts c.ty → ⊥
    head_free = inner.free 0 c (ap (λ (cs : List ConRef). slice_get cs 0) (cons-Con at c ps))

    pub sub_inner : (j : ℕ) (q : Pat) (t : Ty) → slice_get ps j ≡ Some q → fits_type types q t ≡ true → IsInner p q t
    sub_inner j q t e fits = record {
      fits = fits;
      plain = plain_at ps (sym (plain-Con at c ps) ∙ inner.plain) j q e;
      free = λ k d h.
          let i = in_one d (map pattern_cons ps) j (pattern_cons q) (get-mapped pattern_cons ps j q e) (get_in d (pattern_cons q) k h) in
          let g = in_get d (c ∷ flat_map (λ (cs : List ConRef). cs) (map pattern_cons ps)) (inr i) in
          inner.free g.0 d (ap (λ (cs : List ConRef). slice_get cs g.0) (cons-Con at c ps) ∙ g.1);
    }

  -- Fields -----------------------------------------------------------------------------------
  pub record Step (x : LeafPosition) (j : ℕ) (t : Ty) (w : Value) : Type 0 where
    pub z : LeafPosition
    pub pat : Pat
    pub is_down : down types x j ≡ Some z
    pub stands : ValueStands p m blocks z w pat t

  named_is : (c : ConRef) (s : ℕ) → is_named c.ty (Named s) ≡ true → s ≡ c.ty
  named_is c s e = same_nat s c.ty e

  pub step : (x : LeafPosition) (v : Value) (at : ℕ) (c : ConRef) (ps : List Pat) (s : ℕ) → Stand x v (Con at c ps) (Named s)
      → (j : ℕ) (t : Ty) (w : Value) → slice_get (types_or_none (fields_of types c)) j ≡ Some t → slice_get (subs v) j ≡ Some w → Step x j t w
  step x v at c ps s st j t w et ew =
      let ts = types_or_none (fields_of types c) in
      let fits = con_fits at c ps (Named s) st.inner in
      let q = two_at (fits_type types) ps ts fits.1 j t et in
      let l = matched at c ps v st.matches in
      let same : subs v ≡ l.vs = ap subs l.is ∙ subs-Con c.con l.vs in
      let there : slice_get l.vs j ≡ Some w = ap (λ vs. slice_get vs j) (sym same) ∙ ew in
      let listed : are_of (map (is_of_type types) l.vs) (fields_in (slice_get types s) c.con) ≡ true =
      sym (ap (λ u. is_of_type types u (Named s)) l.is ∙ is_of_type-Con types c.con l.vs (Named s)) ∙ st.typed in
      let two = types_two (is_of_type types) l.vs (types_or_none (fields_in (slice_get types s) c.con)) (fitting types (map (is_of_type types) l.vs) (fields_in (slice_get types s) c.con) listed) in
      let r = two_from (is_of_type types) l.vs (types_or_none (fields_in (slice_get types s) c.con)) two j w there in
      let one_type : r.0 ≡ t = same_Some r.0 t (sym r.1 ∙ ap (λ i. slice_get (types_or_none (fields_in (slice_get types i) c.con)) j) (named_is c s fits.0) ∙ et) in
      let h = two_from matches_of ps l.vs l.pass j q.0 q.1 in
      let one_value : h.0 ≡ w = same_Some h.0 w (sym h.1 ∙ there) in
      let z : LeafPosition = record x { at = x.at ++ j ∷ []; here = record { pat = q.0; ty = t } } in
      record {
        z = z;
        pat = q.0;
        is_down = ap (λ (r : Pat). down_to x j (field_of types r j)) st.is_pat ∙ ap (λ (l : Pat-F Pat). down_to x j (field_in types j l)) (outs-Con at c ps)
            ∙ ap (λ o. down_to x j (with_type o (slice_get ts j))) q.1 ∙ ap (λ o. down_to x j (with_type (Some q.0) o)) et;
        stands = record {
          is_pat = refl;
          is_ty = refl;
          inner = sub_inner at c ps (Named s) st.inner j q.0 t q.1 q.2;
          typed = subst (λ ty. is_of_type types w ty ≡ true) one_type r.2;
          matches = subst (λ u. matches_of q.0 u ≡ true) one_value h.2;
          fields = λ k o e.
              let n = below_among (map (opens_of types) ps) ts 0 j (opens_of types q.0) t k o (get-mapped (opens_of types) ps j q.0 q.1) et e in
              let i : 0 + j ≡ j = omega arith in
              let f = st.fields n.0 (below j o) (ap (λ (os : List Open). slice_get os n.0) (opens-Con types at c ps (Named s)) ∙ n.1 ∙ ap (λ k. Some (below k o)) i) in (
                f.0,
                ap (λ u. part_from u o.path) (sym ew) ∙ f.1,
                subst (λ path. Represents types layouts m false o.ty f.0 (open_words layouts blocks x path o.ty)) (sym (append_assoc x.at (j ∷ []) o.path)) f.2,
              );
        };
      }

  -- Own leaves -------------------------------------------------------------------------------
  pub record Settled (x : LeafPosition) (v : Value) (s : ℕ) : Type 0 where
    pub y : LeafPosition
    pub at : ℕ
    pub con : ConRef
    pub ps : List Pat
    pub is_settled : settled_here layouts blocks x ≡ Ok y
    pub stands : ValueStands p m blocks y v (Con at con ps) (Named s)

  int_named : (s : ℕ) → Int 64 ≡ Named s → ⊥
  int_named s e = cc

  same_Named : (a c : ℕ) → Named a ≡ Named c → a ≡ c
  same_Named a c e = cc

  cons_free : (s : ℕ) (layout : Layout) (n : ℕ) (leaf : Leaf) → layout_of layouts s ≡ Some layout → slice_get layout.leaves n ≡ Some leaf → (HasPointerPart layouts s → ⊥)
      → (at : ℕ) (c : ConRef) (ps : List Pat) → leaf.prov ≡ Con at c ps → c.ty ≡ s → (k : ℕ) (d : ConRef) → slice_get (c ∷ flat_map (λ (cs : List ConRef). cs) (map pattern_cons ps)) k ≡ Some d
      → HasPointerPart layouts d.ty → ⊥
  cons_free s layout n leaf is_layout is_number free at c ps form own zero d e = subst (λ i. HasPointerPart layouts i → ⊥) (sym own ∙ ap (λ (r : ConRef). r.ty) (same_Some c d e)) free
  cons_free s layout n leaf is_layout is_number free at c ps form own (suc k) d e =
      agrees.a9.no_pointer s layout n leaf is_layout is_number d.ty (record {
        number = k;
        con = d;
        is_below = ap (λ (l : Pat-F Pat). slice_get (cons_below_root l) k) (ap out-Pat form ∙ outs-Con at c ps) ∙ ap (λ (cs : List ConRef). slice_get cs k) (sym (flat_same ps)) ∙ e;
        is_type = refl;
      })

  -- the provenance of a leaf of a type without pointers
  pub prov_inner : (s : ℕ) (layout : Layout) (n : ℕ) (leaf : Leaf) → layout_of layouts s ≡ Some layout → slice_get layout.leaves n ≡ Some leaf → (HasPointerPart layouts s → ⊥) → IsInner p leaf.prov (Named s)
  prov_inner s layout n leaf is_layout is_number free = record {
    fits = law.fits s layout n leaf is_layout is_number;
    plain = plain_provenance leaf.prov (law.shaped s layout n leaf is_layout is_number);
    free = λ k d e. by_form (forms leaf.prov) k d e;
  }
    where
      law : ProvenancesFit types layouts
      law = (lawful p agrees typed).provenances

      root : root_type (out-Pat leaf.prov) ≡ Named s
      root = law.root s layout n leaf is_layout is_number

      by_form : Form leaf.prov → (k : ℕ) (d : ConRef) → slice_get (pattern_cons leaf.prov) k ≡ Some d → HasPointerPart layouts d.ty → ⊥
      by_form (wild at e) k d h = absurd (int_named s (sym (ap root_type (ap out-Pat e ∙ outs-Wild at)) ∙ root))
      by_form (var at y e) k d h = absurd (int_named s (sym (ap root_type (ap out-Pat e ∙ outs-Var at y)) ∙ root))
      by_form (num at i e) k d h = absurd (int_named s (sym (ap root_type (ap out-Pat e ∙ outs-Num at i)) ∙ root))
      by_form (con at c ps e) k d h =
          cons_free s layout n leaf is_layout is_number free at c ps e (same_Named c.ty s (sym (ap root_type (ap out-Pat e ∙ outs-Con at c ps)) ∙ root)) k d
          (ap (λ (cs : List ConRef). slice_get cs k) (sym (cons-Con at c ps) ∙ sym (ap pattern_cons e)) ∙ h)

  -- a value of a type without pointers that stands open
  open_settles : (x : LeafPosition) (v : Value) (q : Pat) (s : ℕ) → Stand x v q (Named s) → (HasPointerPart layouts s → ⊥)
      → opens_of types q (Named s) ≡ record { path = []; ty = Named s } ∷ [] → open_data x.here ≡ Some s → Settled x v s
  open_settles x v q s st free alone is_open =
      let f = st.fields 0 (record { path = []; ty = Named s }) (ap (λ (os : List Open). slice_get os 0) alone) in
      let ws = words_here layouts blocks x s in
      let rep : Represents types layouts m false (Named s) v (numbers_of ws) =
      subst (λ u. Represents types layouts m false (Named s) u (numbers_of ws)) (sym (same_Some v f.0 f.1))
      (subst (λ path. Represents types layouts m false (Named s) f.0 (open_words layouts blocks x path (Named s))) (append-nil x.at) f.2) in
      let seen = values_are_seen p typed agrees m good s v ws free rep in
      let leaf = seen.leaf in
      let law = (lawful p agrees typed).provenances in
      let root = law.root s seen.layout seen.number leaf seen.is_layout seen.is_number in
      let z : 0 + seen.number ≡ seen.number = omega arith in
      let stands : (at : ℕ) (c : ConRef) (ps : List Pat) → leaf.prov ≡ Con at c ps → Stand (from_root s ws leaf) v leaf.prov (Named s) = λ at c ps form. (
      record {
        is_pat = refl;
        is_ty = refl;
        inner = prov_inner s seen.layout seen.number leaf seen.is_layout seen.is_number free;
        typed = st.typed;
        matches = leaf_matches seen.layout.leaves v 0 seen.number leaf seen.is_leaf seen.number z seen.is_number;
        fields = λ k o e. seen.fields blocks k o (ap (λ (ty : Ty). slice_get (opens_of types leaf.prov ty) k) root ∙ e);
      }) in
      by_form x v s ws leaf root (ap (settled_at layouts blocks x) is_open ∙ seen.is_seen) stands (forms leaf.prov)
    where
      by_form : (x : LeafPosition) (v : Value) (s : ℕ) (ws : List Kept) (leaf : Leaf) → root_type (out-Pat leaf.prov) ≡ Named s → settled_here layouts blocks x ≡ Ok (from_root s ws leaf)
          → ((at : ℕ) (c : ConRef) (ps : List Pat) → leaf.prov ≡ Con at c ps → Stand (from_root s ws leaf) v leaf.prov (Named s)) → Form leaf.prov → Settled x v s
      by_form x v s ws leaf root is stands (wild at e) = absurd (int_named s (sym (ap root_type (ap out-Pat e ∙ outs-Wild at)) ∙ root))
      by_form x v s ws leaf root is stands (var at y e) = absurd (int_named s (sym (ap root_type (ap out-Pat e ∙ outs-Var at y)) ∙ root))
      by_form x v s ws leaf root is stands (num at n e) = absurd (int_named s (sym (ap root_type (ap out-Pat e ∙ outs-Num at n)) ∙ root))
      by_form x v s ws leaf root is stands (con at c ps e) =
          record { y = from_root s ws leaf; at = at; con = c; ps = ps; is_settled = is; stands = subst (λ q. Stand (from_root s ws leaf) v q (Named s)) e (stands at c ps e) }

  open_is : (x : LeafPosition) (q : Pat) (s : ℕ) (l : Pat-F Pat) → x.here.pat ≡ q → x.here.ty ≡ Named s → out-Pat q ≡ l → open_data x.here ≡ open_in l (Some s)
  open_is x q s l is_pat is_ty out = ap (λ (r : Pat). open_in (out-Pat r) (data_of x.here.ty)) is_pat ∙ ap (λ (r : Pat-F Pat). open_in r (data_of x.here.ty)) out ∙ ap (λ ty. open_in l (data_of ty)) is_ty

  -- one comes to the constructor of a value of a type without pointers
  pub settles : (x : LeafPosition) (v : Value) (q : Pat) (s : ℕ) → Stand x v q (Named s) → (HasPointerPart layouts s → ⊥) → Settled x v s
  settles x v q s st free = go (forms q)
    where
      go : Form q → Settled x v s
      go (wild at e) = open_settles x v q s st free (ap (λ r. opens_of types r (Named s)) e ∙ opens-Wild types at (Named s)) (open_is x q s (P.Wild at) st.is_pat st.is_ty (ap out-Pat e ∙ outs-Wild at))
      go (var at y e) = open_settles x v q s st free (ap (λ r. opens_of types r (Named s)) e ∙ opens-Var types at y (Named s)) (open_is x q s (P.Var at y) st.is_pat st.is_ty (ap out-Pat e ∙ outs-Var at y))
      go (num at n e) = absurd (let z = sym (fold-Num Bool plain_step at n) ∙ sym (ap is_numberless e) ∙ st.inner.plain in cc)
      go (con at c ps e) = record {
        y = x;
        at = at;
        con = c;
        ps = ps;
        is_settled = ap (settled_at layouts blocks x) (open_is x q s (P.Con at c ps) st.is_pat st.is_ty (ap out-Pat e ∙ outs-Con at c ps));
        stands = subst (λ r. Stand x v r (Named s)) e st;
      }
