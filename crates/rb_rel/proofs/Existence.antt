-- Every value whose blocks fit has a clean representation.
use Rattle.std.proofs.Common.{◌≡◌, ℕ, zero, suc, ◌+◌, ◌<◌, ◌≤◌, ◌==◌, inl, inr, length, map, List, [], ◌∷◌, ◌++◌, Bool, true, false, Option, Some, None, refl, sym, subst, ap, ◌∙◌, arith, append-nil}
use Rattle.std.specs.Prelude.{slice_get, unwrap_or, nat_lt, ◌^◌, if◌then◌else◌}
use Rattle.std.proofs.lemmas.Bool.{and_parts}
use Rattle.std.proofs.lemmas.Option.{same_Some, slice_get_within}
use Rattle.std.proofs.lemmas.Bool.Decides.{leb_tells}
use Rattle.std.proofs.lemmas.Grind.{common_steps, flat_map-append}
use Rattle.rb_core.specs.declared.value.Value.{Value, Num, Con, out-Value}
use Rattle.rb_core.specs.declared.value.Value.TheVariants.{outs-Con}
use Rattle.rb_core.specs.declared.value.Value.TheOpen as V
use Rattle.rb_core.specs.declared.value.Value.TheOpen.{Value-F}
use Rattle.rb_core.specs.declared.types.Ty.{Ty}
use Rattle.rb_core.specs.declared.types.Ty.TheVariants.{Int, Named}
use Rattle.rb_core.specs.declared.types.ConRef.{ConRef}
use Rattle.rb_core.specs.declared.types.DataDecl.{DataDecl}
use Rattle.rb_core.specs.declared.outcome.Event.TheVariants.{Built}
use Rattle.rb_core.specs.declared.pattern.Pat.{Pat, Wild, Var, Num as NumPat, Con as ConPat}
use Rattle.rb_core.specs.declared.program.Program.{Program}
use Rattle.rb_core.specs.TypedPrograms.{IsTyped}
use Rattle.rb_core.specs.Matching.{matches_of, all_pass, is_con}
use Rattle.rb_core.specs.Values.{is_of_type, all_of_types, are_of, fields_in, fields_of, subs, subs_in, part_from, part_at}
use Rattle.rb_core.proofs.MatchingForms.{matches-Con}
use Rattle.rb_core.proofs.PatternLaws as PL
use Rattle.rb_core.proofs.ValueLaws.{Each, induction, subs-Con, subs-Num, is_of_type-Num, is_of_type-Con}
use Rattle.rb_bytes.specs.Memory.{Memory, IsGood, least_multiple}
use Rattle.rb_bytes.specs.Growth.{Grown}
use Rattle.rb_bytes.proofs.GrowthLemmas.{Grown-refl, Grown-trans, Grown-extends}
use Rattle.rb_layout.specs.declared.layout.Leaf.{Leaf}
use Rattle.rb_layout.specs.declared.layout.Layout.{Layout}
use Rattle.rb_core.specs.declared.pattern.Pat.{out-Pat}
use Rattle.rb_core.specs.declared.pattern.Pat.TheVariants.{outs-Wild, outs-Var, outs-Num}
use Rattle.rb_core.specs.declared.layout_decl.LayoutDecl.{LayoutDecl}
use Rattle.rb_bytes.specs.Laws.{Extends}
use Rattle.rb_layout.specs.declared.layout.WordRef.{WordRef}
use Rattle.rb_layout.specs.Pointers.{PointsTo}
use Rattle.rb_layout.specs.Agreement.{Agrees}
use Rattle.rb_layout.specs.A1.{HasShape}
use Rattle.rb_layout.specs.A4.{IsAlignment}
use Rattle.rb_layout.specs.Flattening.{decl_of, flat_layout, flat_or_none, flat_from, flat_layouts}
use Rattle.rb_rel.proofs.Agreeing.{lawful}
use Rattle.rb_rel.proofs.Layers.{sound, stored, root_words, layer_shown}
use Rattle.rb_layout.specs.Positions.{Open, root_type, below, opens_below, opens_of, opens_step, open_positions, types_or_none, leaf_from, leaf_of, layout_of}
use Rattle.rb_rel.specs.Placing.{Fits, Over, Request, request_of, requests_of, requests_at, blocks_of, leaf_requests, leaf_in, leaf_numbered, block_before, lay}
use Rattle.rb_rel.specs.Relation.{Represent, Represents, number}
use Rattle.rb_rel.specs.Answers.{Making, making_of, all_makings, in_turn}
use Rattle.rb_rel.proofs.Makings.{making-Num, making-Con}
use Rattle.rb_rel.proofs.Growth.{Represents-kept}
use Rattle.rb_rel.specs.Provenances.{fits_type, is_named}
use Rattle.rb_rel.proofs.Lists.{get-append, get-map}
use Rattle.rb_rel.proofs.Opens.{fits-Con, opens-Con, opens-Wild, opens-Var, fitting}
use Rattle.rb_rel.proofs.Reading.{same_nat}
use Rattle.rb_rel.proofs.Storing.{laid_more}

-- Laying in two parts --------------------------------------------------------------------------
pub laid_parts : (limit next : ℕ) (rs qs : List Request) (bs : List (ℕ × ℕ)) (p : ℕ) → lay limit next (rs ++ qs) ≡ Fits bs p
    → (cs : List (ℕ × ℕ)) × (q : ℕ) × (ds : List (ℕ × ℕ)) × (lay limit next rs ≡ Fits cs q) × (lay limit q qs ≡ Fits ds p) × (bs ≡ cs ++ ds)
laid_parts limit next [] qs bs p e = ([], next, bs, refl, e, refl)
laid_parts limit next (r ∷ rs) qs bs p e =
    let l = laid_more (λ f. 0) limit next r (rs ++ qs) bs p e in
    let a = least_multiple next r.align in
    let h = laid_parts limit (a + r.size) rs qs l.1 p l.2 in
    let yes : lay limit next (r ∷ rs) ≡ Fits ((a, r.size) ∷ h.0) h.1 = elim (leb_tells (a + r.size) limit) [
      | inl t ↦ ap (λ x. if x then block_before (a, r.size) (lay limit (a + r.size) rs) else Over (record { next = next; size = r.size; align = r.align; limit = limit })) t.0 ∙ ap (block_before (a, r.size)) h.3
      | inr f ↦ absurd (let le = l.0 in omega (arith, f.1, le))
    ] in
    ((a, r.size) ∷ h.0, h.1, h.2, yes, h.4, l.3 ∙ ap (λ x. (a, r.size) ∷ x) h.5)

-- Typed positions ------------------------------------------------------------------------------
module _ (types : List DataDecl) where
  -- the types of a value's subvalues
  abbrev pub sub_types : Ty → Value-F Value → List Ty
  sub_types ty (V.Num n) = []
  sub_types (Int bits) (V.Con k vs) = []
  sub_types (Named t) (V.Con k vs) = types_or_none (fields_in (slice_get types t) k)

  -- u, of type s, is the part at a path of a value of a type
  abbrev pub PartIs : Value → Ty → List ℕ → Ty → Value → Type 0
  PartIs v ty [] s u = (v ≡ u) × (ty ≡ s)
  PartIs v ty (i ∷ path) s u =
      (x : Value) × (t : Ty) × (slice_get (subs v) i ≡ Some x) × (slice_get (sub_types ty (out-Value v)) i ≡ Some t) × PartIs x t path s u

  pub part_is : (v : Value) (ty : Ty) (path : List ℕ) (s : Ty) (u : Value) → PartIs v ty path s u → part_from (Some v) path ≡ Some u
  part_is v ty [] s u h = ap Some h.0
  part_is v ty (i ∷ path) s u h = ap (λ o. part_from o path) h.2 ∙ part_is h.0 h.1 path s u h.4

  abbrev AreParts : List Open → Value → Ty → Type 0
  AreParts opens v ty = (k : ℕ) (o : Open) → slice_get opens k ≡ Some o → (u : Value) × PartIs v ty o.path o.ty u

  -- an open position below the root
  pub record Below (vs : List Value) (ts : List Ty) (i : ℕ) (o : Open) : Type 0 where
    pub field : ℕ
    pub path : List ℕ
    pub is_path : o.path ≡ (i + field) ∷ path
    pub value : Value
    pub ty : Ty
    pub is_value : slice_get vs field ≡ Some value
    pub is_type : slice_get ts field ≡ Some ty
    pub part : Value
    pub is_part : PartIs value ty path o.ty part

  abbrev OpensAre : Pat → Type 0
  OpensAre q = (ty : Ty) (v : Value) → fits_type types q ty ≡ true → matches_of q v ≡ true → AreParts (opens_of types q ty) v ty

  fields_are : (ps : List Pat) → PL.Each OpensAre ps → (ts : List Ty) (vs : List Value) (i : ℕ) → all_of_types (map (fits_type types) ps) ts ≡ true → all_pass (map matches_of ps) vs ≡ true
      → (k : ℕ) (o : Open) → slice_get (opens_below (map (opens_of types) ps) ts i) k ≡ Some o → Below vs ts i o
  fields_are [] each ts vs i f m k o e = absurd cc
  fields_are (q ∷ ps) each [] vs i f m k o e = absurd cc
  fields_are (q ∷ ps) each (t ∷ ts) [] i f m k o e = absurd cc
  fields_are (q ∷ ps) each (t ∷ ts) (x ∷ vs) i f m k o e =
      let bf = and_parts (fits_type types q t) (all_of_types (map (fits_type types) ps) ts) f in
      let bm = and_parts (matches_of q x) (all_pass (map matches_of ps) vs) m in
      elim (get-append (map (below i) (opens_of types q t)) (opens_below (map (opens_of types) ps) ts (i + 1)) k o e) [
        | inl h ↦
            let g = get-map (below i) (opens_of types q t) k o h in
            let a = each.0 t x bf.0 bm.0 k g.0 g.1 in
            let z : i ≡ i + 0 = omega arith in
            record {
              field = 0;
              path = g.0.path;
              is_path = ap (λ (y : Open). y.path) g.2 ∙ ap (λ j. j ∷ g.0.path) z;
              value = x;
              ty = t;
              is_value = refl;
              is_type = refl;
              part = a.0;
              is_part = subst (λ s. PartIs x t g.0.path s a.0) (sym (ap (λ (y : Open). y.ty) g.2)) a.1;
            }
        | inr h ↦
            let r = fields_are ps each.1 ts vs (i + 1) bf.1 bm.1 h.0 o h.1 in
            let z : i + 1 + r.field ≡ i + suc r.field = omega arith in
            record { field = suc r.field; path = r.path; is_path = r.is_path ∙ ap (λ j. j ∷ r.path) z; value = r.value; ty = r.ty; is_value = r.is_value; is_type = r.is_type; part = r.part; is_part = r.is_part }
      ]

  -- the layer of a value that a constructor matches
  record Matched (c : ConRef) (ps : List Pat) (v : Value) : Type 0 where
    vs : List Value
    is_layer : out-Value v ≡ V.Con c.con vs
    pass : all_pass (map matches_of ps) vs ≡ true

  matched : (c : ConRef) (ps : List Pat) (v : Value) (l : Value-F Value) → out-Value v ≡ l → is_con c.con (map matches_of ps) l ≡ true → Matched c ps v
  matched c ps v (V.Num n) is e = absurd cc
  matched c ps v (V.Con k vs) is e =
      let b = and_parts (c.con == k) (all_pass (map matches_of ps) vs) e in
      let s = same_nat c.con k b.0 in
      record { vs = vs; is_layer = is ∙ ap (λ i. V.Con i vs) (sym s); pass = b.1 }

  -- the open positions of a constructor, by fields
  con_opens : (at : ℕ) (c : ConRef) (ps : List Pat) → PL.Each OpensAre ps → (ty : Ty) (v : Value) → fits_type types (ConPat at c ps) ty ≡ true → matches_of (ConPat at c ps) v ≡ true
      → (k : ℕ) (o : Open) → slice_get (opens_of types (ConPat at c ps) ty) k ≡ Some o → Below (subs v) (sub_types ty (out-Value v)) 0 o
  con_opens at c ps each ty v f m k o e =
      let bf = and_parts (is_named c.ty ty) (are_of (map (fits_type types) ps) (fields_of types c)) (sym (fits-Con types at c ps ty) ∙ f) in
      let l = matched c ps v (out-Value v) refl (sym (matches-Con v at c ps) ∙ m) in
      let b = fields_are ps each (types_or_none (fields_of types c)) l.vs 0 (fitting types (map (fits_type types) ps) (fields_of types c) bf.1) l.pass k o (ap (λ (os : List Open). slice_get os k) (sym (opens-Con types at c ps ty)) ∙ e) in
      subst (λ xs. Below xs (sub_types ty (out-Value v)) 0 o) (sym (ap subs_in l.is_layer)) (subst (λ ts. Below l.vs ts 0 o) (sym (field_list ty bf.0 l)) b)
    where
      field_list : (s : Ty) → is_named c.ty s ≡ true → (l : Matched c ps v) → sub_types s (out-Value v) ≡ types_or_none (fields_of types c)
      field_list (Int bits) e2 l = absurd cc
      field_list (Named t) e2 l = ap (λ (x : Value-F Value). sub_types (Named t) x) l.is_layer ∙ ap (λ i. types_or_none (fields_in (slice_get types i) c.con)) (same_nat t c.ty e2)

  pub below_is : (v : Value) (ty : Ty) (o : Open) → Below (subs v) (sub_types ty (out-Value v)) 0 o → (u : Value) × PartIs v ty o.path o.ty u
  below_is v ty o b =
      let z : 0 + b.field ≡ b.field = omega arith in
      (b.part, subst (λ path. PartIs v ty path o.ty b.part) (sym (b.is_path ∙ ap (λ j. j ∷ b.path) z)) (b.value, b.ty, b.is_value, b.is_type, b.is_part))

  one_open : (os : List Open) (ty : Ty) (v : Value) → os ≡ record { path = []; ty = ty } ∷ [] → AreParts os v ty
  one_open os ty v is zero o e = let s = same_Some _ o (sym (ap (λ (xs : List Open). slice_get xs 0) is) ∙ e) in subst (λ (y : Open). (u : Value) × PartIs v ty y.path y.ty u) s (v, (refl, refl))
  one_open os ty v is (suc k) o e = let h = sym (ap (λ (xs : List Open). slice_get xs (suc k)) is) ∙ e in absurd cc

  no_open : (os : List Open) (ty : Ty) (v : Value) → os ≡ [] → AreParts os v ty
  no_open os ty v is k o e = let h = sym (ap (λ (xs : List Open). slice_get xs k) is) ∙ e in absurd cc

  opens_are : (q : Pat) → OpensAre q
  opens_are = PL.induction OpensAre (record {
    wild = λ at ty v f m. one_open (opens_of types (Wild at) ty) ty v (opens-Wild types at ty);
    var = λ at x ty v f m. one_open (opens_of types (Var at x) ty) ty v (opens-Var types at x ty);
    num = λ at n ty v f m. no_open (opens_of types (NumPat at n) ty) ty v (ap (λ (g : Ty → List Open). g ty) (PL.fold-Num (Ty → List Open) (opens_step types) at n));
    con = λ at c ps each ty v f m k o e. below_is v ty o (con_opens at c ps each ty v f m k o e);
  })

  all_opens : (ps : List Pat) → PL.Each OpensAre ps
  all_opens [] = tt
  all_opens (q ∷ ps) = (opens_are q, all_opens ps)

  -- those of a provenance, with a constructor at its root, are below the root
  abbrev pub RootOpens : Pat → Type 0
  RootOpens q = (t : ℕ) (v : Value) → root_type (out-Pat q) ≡ Named t → fits_type types q (Named t) ≡ true → matches_of q v ≡ true
      → (k : ℕ) (o : Open) → slice_get (opens_of types q (Named t)) k ≡ Some o → Below (subs v) (sub_types (Named t) (out-Value v)) 0 o

  pub root_opens : (q : Pat) → RootOpens q
  root_opens = PL.induction RootOpens (record {
    wild = λ at t v r f m k o e. absurd (let h : Int 64 ≡ Named t = sym (ap root_type (outs-Wild at)) ∙ r in cc);
    var = λ at x t v r f m k o e. absurd (let h : Int 64 ≡ Named t = sym (ap root_type (outs-Var at x)) ∙ r in cc);
    num = λ at n t v r f m k o e. absurd (let h : Int 64 ≡ Named t = sym (ap root_type (outs-Num at n)) ∙ r in cc);
    con = λ at c ps each t v r f m k o e. con_opens at c ps (all_opens ps) (Named t) v f m k o e;
  })

-- The first leaf that matches
pub first_leaf : (ls : List Leaf) (v : Value) (k : ℕ) (leaf : Leaf) → slice_get ls k ≡ Some leaf → matches_of leaf.prov v ≡ true → (i : ℕ)
    → (n : ℕ) × (l : Leaf) × (leaf_from ls v i ≡ Some (i + n)) × (slice_get ls n ≡ Some l) × (matches_of l.prov v ≡ true)
first_leaf [] v k leaf is m i = absurd cc
first_leaf (x ∷ ls) v k leaf is m i = go (matches_of x.prov v) refl k is (λ j e. first_leaf ls v j leaf e m (i + 1))
  where
    go : (b : Bool) → matches_of x.prov v ≡ b → (k : ℕ) → slice_get (x ∷ ls) k ≡ Some leaf
        → ((j : ℕ) → slice_get ls j ≡ Some leaf → (n : ℕ) × (l : Leaf) × (leaf_from ls v (i + 1) ≡ Some (i + 1 + n)) × (slice_get ls n ≡ Some l) × (matches_of l.prov v ≡ true))
        → (n : ℕ) × (l : Leaf) × ((if b then Some i else leaf_from ls v (i + 1)) ≡ Some (i + n)) × (slice_get (x ∷ ls) n ≡ Some l) × (matches_of l.prov v ≡ true)
    go true e k h rest = let z : i ≡ i + 0 = omega arith in (0, x, ap Some z, refl, e)
    go false e zero h rest = absurd (let s = ap (λ (y : Leaf). matches_of y.prov v) (same_Some x leaf h) in let q = sym e ∙ s ∙ m in cc)
    go false e (suc j) h rest = let r = rest j h in let z : i + 1 + r.0 ≡ i + suc r.0 = omega arith in (suc r.0, r.1, r.2 ∙ ap Some z, r.3, r.4)

module _ (p : Program) (typed : IsTyped p) (agrees : Agrees p) where
  abbrev types : List DataDecl
  types = p.types

  abbrev layouts : List Layout
  layouts = flat_layouts p

  abbrev Shown : Memory → Ty → Value → List ℕ → Type 0
  Shown m = Represents types layouts m true

  -- each type has a flat layout
  some_decl : (o : Option LayoutDecl) → HasShape o → (d : LayoutDecl) × (o ≡ Some d)
  some_decl None h = absurd h
  some_decl (Some d) h = (d, refl)

  flat_some : (ds : List DataDecl) (t : ℕ) → ((k : ℕ) → k < length ds → (d : LayoutDecl) × (decl_of p.layouts (t + k) ≡ Some d)) → (k : ℕ) → k < length ds
      → (layout : Layout) × (slice_get (flat_from p ds t) k ≡ Some layout)
  flat_some [] t some k lt = absurd (omega (arith, lt))
  flat_some (x ∷ ds) t some k lt =
      let s = some 0 (omega arith) in
      let z : t ≡ t + 0 = omega arith in
      let e : flat_from p (x ∷ ds) t ≡ flat_layout p s.0 ∷ flat_from p ds (t + 1) = ap (λ o. flat_or_none p o ++ flat_from p ds (t + 1)) (ap (decl_of p.layouts) z ∙ s.1) in
      behind_first (flat_layout p s.0) (flat_from p ds (t + 1)) (flat_from p (x ∷ ds) t) e k
      (λ j le. flat_some ds (t + 1) (λ i li. let q = some (suc i) (omega (arith, li)) in let y : t + 1 + i ≡ t + suc i = omega arith in (q.0, ap (decl_of p.layouts) y ∙ q.1)) j le) lt
    where
      behind_first : (l : Layout) (ls all : List Layout) → all ≡ l ∷ ls → (k : ℕ) → ((j : ℕ) → j < length ds → (layout : Layout) × (slice_get ls j ≡ Some layout)) → k < length (x ∷ ds) → (layout : Layout) × (slice_get all k ≡ Some layout)
      behind_first l ls all e zero rest h = (l, ap (λ (ys : List Layout). slice_get ys 0) e)
      behind_first l ls all e (suc j) rest h = let r = rest j (omega (arith, h)) in (r.0, ap (λ (ys : List Layout). slice_get ys (suc j)) e ∙ r.1)

  pub has_layout : (t : ℕ) → t < length types → (layout : Layout) × (layout_of layouts t ≡ Some layout)
  has_layout t lt =
      flat_some types 0 (λ k le. let s = some_decl (decl_of p.layouts k) (agrees.a1 k le) in let z : 0 + k ≡ k = omega arith in (s.0, ap (decl_of p.layouts) z ∙ s.1)) t lt

  -- a value that is made, and the words of each of its parts
  record Encoded (v : Value) (ty : Ty) (m : Memory) (bs : List (ℕ × ℕ)) (next : ℕ) : Type 0 where
    memory : Memory
    grown : Grown m memory bs next
    words : List ℕ → List ℕ
    shown : (path : List ℕ) (s : Ty) (u : Value) → PartIs types v ty path s u → Shown memory s u (words path)

  record FieldsEncoded (vs : List Value) (ts : List Ty) (m : Memory) (bs : List (ℕ × ℕ)) (next : ℕ) : Type 0 where
    memory : Memory
    grown : Grown m memory bs next
    words : ℕ → List ℕ → List ℕ
    shown : (i : ℕ) (x : Value) (t : Ty) → slice_get vs i ≡ Some x → slice_get ts i ≡ Some t → (path : List ℕ) (s : Ty) (u : Value) → PartIs types x t path s u → Shown memory s u (words i path)

  abbrev Encodes : Value → Type 0
  Encodes v = (ty : Ty) (m : Memory) → IsGood m → is_of_type types v ty ≡ true → (bs : List (ℕ × ℕ)) (next : ℕ)
      → lay m.limit m.next (requests_of layouts (making_of types v ty)) ≡ Fits bs next → Encoded v ty m bs next

  nothing_laid : (m : Memory) → IsGood m → (rs : List Request) → rs ≡ [] → (bs : List (ℕ × ℕ)) (next : ℕ) → lay m.limit m.next rs ≡ Fits bs next → Grown m m bs next
  nothing_laid m good rs none bs next e =
      let h : Fits [] m.next ≡ Fits bs next = sym (ap (lay m.limit m.next) none) ∙ e in
      let x : bs ≡ [] = cc in
      let y : m.next ≡ next = cc in
      subst (λ q. Grown m m bs q) y (subst (λ cs. Grown m m cs m.next) (sym x) (Grown-refl m good))

  pub below_lt : (a b : ℕ) → nat_lt a b ≡ true → a < b
  below_lt a b e = grind (arith, common_steps)

  num_encodes : (n : ℕ) → Encodes (Num n)
  num_encodes n (Named t) m good of_type bs next e = absurd (let h = sym (is_of_type-Num types n (Named t)) ∙ of_type in cc)
  num_encodes n (Int bits) m good of_type bs next e = record {
    memory = m;
    grown = nothing_laid m good (requests_of layouts (making_of types (Num n) (Int bits))) (ap (requests_of layouts) (making-Num types n (Int bits))) bs next e;
    words = λ path. n ∷ [];
    shown = shown;
  }
    where
      shown : (path : List ℕ) (s : Ty) (u : Value) → PartIs types (Num n) (Int bits) path s u → Shown m s u (n ∷ [])
      shown [] s u h = subst (λ ty. Shown m ty u (n ∷ [])) h.1 (subst (λ v. Shown m (Int bits) v (n ∷ [])) h.0 (number bits n (below_lt n (2 ^ bits) (sym (is_of_type-Num types n (Int bits)) ∙ of_type))))
      shown (i ∷ path) s u h = absurd (let q = sym (ap (λ xs. slice_get xs i) (subs-Num n)) ∙ h.2 in cc)

  abbrev pub makings : List Value → List Making
  makings vs = map (making_of types) vs

  abbrev words_of_fields : (List ℕ → List ℕ) → (ℕ → List ℕ → List ℕ) → ℕ → List ℕ → List ℕ
  words_of_fields first rest zero path = first path
  words_of_fields first rest (suc i) path = rest i path

  fields_encode : (vs : List Value) → Each Encodes vs → (ts : List Ty) → all_of_types (map (is_of_type types) vs) ts ≡ true → (m : Memory) → IsGood m → (bs : List (ℕ × ℕ)) (next : ℕ)
      → lay m.limit m.next (requests_of layouts (in_turn (makings vs) ts)) ≡ Fits bs next → FieldsEncoded vs ts m bs next
  fields_encode [] each ts of_types m good bs next e = record {
    memory = m;
    grown = nothing_laid m good [] refl bs next e;
    words = λ i path. [];
    shown = λ i x t is_value is_type path s u h. absurd cc;
  }
  fields_encode (v ∷ vs) each [] of_types m good bs next e = absurd cc
  fields_encode (v ∷ vs) each (t ∷ ts) of_types m good bs next e =
      let b = and_parts (is_of_type types v t) (all_of_types (map (is_of_type types) vs) ts) of_types in
      let split = flat_map-append (requests_at layouts) (making_of types v t) (in_turn (makings vs) ts) in
      let h = laid_parts m.limit m.next (requests_of layouts (making_of types v t)) (requests_of layouts (in_turn (makings vs) ts)) bs next (ap (lay m.limit m.next) (sym split) ∙ e) in
      let first = each.0 t m good b.0 h.0 h.1 h.3 in
      let m1 = first.memory in
      let g1 = first.grown in
      let e1 : lay m1.limit m1.next (requests_of layouts (in_turn (makings vs) ts)) ≡ Fits h.2 next =
      ap (λ l. lay l m1.next (requests_of layouts (in_turn (makings vs) ts))) g1.limit ∙ ap (λ n. lay m.limit n (requests_of layouts (in_turn (makings vs) ts))) g1.next ∙ h.4 in
      let rest = fields_encode vs each.1 ts b.1 m1 g1.good h.2 next e1 in
      let more = Grown-extends m1 rest.memory h.2 next g1.good rest.grown in
      record {
        memory = rest.memory;
        grown = subst (λ cs. Grown m rest.memory cs next) (sym h.5) (Grown-trans m m1 rest.memory h.0 h.2 h.1 next g1 rest.grown);
        words = words_of_fields first.words rest.words;
        shown = λ i. both_shown i m1 first.words first.shown rest.memory rest.words rest.shown more;
      }
    where
      both_shown : (i : ℕ) (m1 : Memory) (w1 : List ℕ → List ℕ) → ((path : List ℕ) (s : Ty) (u : Value) → PartIs types v t path s u → Shown m1 s u (w1 path)) → (m2 : Memory) (w2 : ℕ → List ℕ → List ℕ)
          → ((i : ℕ) (x : Value) (t : Ty) → slice_get vs i ≡ Some x → slice_get ts i ≡ Some t → (path : List ℕ) (s : Ty) (u : Value) → PartIs types x t path s u → Shown m2 s u (w2 i path))
          → Extends m1 m2 → (x : Value) (y : Ty) → slice_get (v ∷ vs) i ≡ Some x → slice_get (t ∷ ts) i ≡ Some y → (path : List ℕ) (s : Ty) (u : Value) → PartIs types x y path s u → Shown m2 s u (words_of_fields w1 w2 i path)
      both_shown zero m1 w1 shown1 m2 w2 shown2 more x y is_value is_type path s u h =
          let ev = same_Some v x is_value in
          let et = same_Some t y is_type in
          let h1 : PartIs types v t path s u = subst (λ q. PartIs types v q path s u) (sym et) (subst (λ q. PartIs types q y path s u) (sym ev) h) in
          Represents-kept m1 m2 more types layouts true (shown1 path s u h1)
      both_shown (suc i) m1 w1 shown1 m2 w2 shown2 more x y is_value is_type path s u h = shown2 i x y is_value is_type path s u h

  -- the log of a construction
  firsts : (vs : List Value) → map (λ (x : Value × Making). x.0) (map (λ v. (v, making_of types v)) vs) ≡ vs
  firsts [] = refl
  firsts (v ∷ vs) = ap (λ xs. v ∷ xs) (firsts vs)

  seconds : (vs : List Value) → map (λ (x : Value × Making). x.1) (map (λ v. (v, making_of types v)) vs) ≡ makings vs
  seconds [] = refl
  seconds (v ∷ vs) = ap (λ xs. making_of types v ∷ xs) (seconds vs)

  pub con_log : (t k : ℕ) (vs : List Value) (ts : List Ty) → fields_in (slice_get types t) k ≡ Some ts → making_of types (Con k vs) (Named t) ≡ in_turn (makings vs) ts ++ Built t (Con k vs) ∷ []
  con_log t k vs ts is =
      making-Con types k vs (Named t)
      ∙ ap (λ xs. in_turn xs (unwrap_or (fields_in (slice_get types t) k) []) ++ Built t (Con k (map (λ (x : Value × Making). x.0) (map (λ v. (v, making_of types v)) vs))) ∷ []) (seconds vs)
      ∙ ap (λ xs. in_turn (makings vs) (unwrap_or (fields_in (slice_get types t) k) []) ++ Built t (Con k xs) ∷ []) (firsts vs)
      ∙ ap (λ o. in_turn (makings vs) (unwrap_or o []) ++ Built t (Con k vs) ∷ []) is

  pub declared_type : (t k : ℕ) (ts : List Ty) → fields_in (slice_get types t) k ≡ Some ts → t < length types
  declared_type t k ts is = go (slice_get types t) refl is
    where
      go : (o : Option DataDecl) → slice_get types t ≡ o → fields_in o k ≡ Some ts → t < length types
      go None e h = absurd cc
      go (Some d) e h = slice_get_within types t d e

  abbrev subs_words : (ℕ → List ℕ → List ℕ) → List ℕ → List ℕ
  subs_words fields [] = []
  subs_words fields (i ∷ path) = fields i path

  abbrev own_words : List ℕ → (ℕ → List ℕ → List ℕ) → List ℕ → List ℕ
  own_words ws fields [] = ws
  own_words ws fields (i ∷ path) = fields i path

  abbrev FieldsShown : List Value → List Ty → Memory → (ℕ → List ℕ → List ℕ) → Type 0
  FieldsShown xs ys m fields = (i : ℕ) (x : Value) (t : Ty) → slice_get xs i ≡ Some x → slice_get ys i ≡ Some t → (path : List ℕ) (s : Ty) (u : Value) → PartIs types x t path s u → Shown m s u (fields i path)

  pub con_types : (t k : ℕ) (vs : List Value) (ts : List Ty) → fields_in (slice_get types t) k ≡ Some ts → sub_types types (Named t) (out-Value (Con k vs)) ≡ ts
  con_types t k vs ts is = ap (λ (x : Value-F Value). sub_types types (Named t) x) (outs-Con k vs) ∙ ap types_or_none is

  open_shown : (t k : ℕ) (vs : List Value) (ts : List Ty) → fields_in (slice_get types t) k ≡ Some ts → (m : Memory) (fields : ℕ → List ℕ → List ℕ) → FieldsShown vs ts m fields
      → (o : Open) → Below types (subs (Con k vs)) (sub_types types (Named t) (out-Value (Con k vs))) 0 o → (u : Value) × (part_at (Con k vs) o.path ≡ Some u) × Shown m o.ty u (subs_words fields o.path)
  unfolding below_is
  open_shown t k vs ts is m fields shown o b =
      let z : 0 + b.field ≡ b.field = omega arith in
      let path = b.is_path ∙ ap (λ j. j ∷ b.path) z in
      let u = below_is types (Con k vs) (Named t) o b in
      let r = shown b.field b.value b.ty (ap (λ xs. slice_get xs b.field) (sym (subs-Con k vs)) ∙ b.is_value) (ap (λ xs. slice_get xs b.field) (sym (con_types t k vs ts is)) ∙ b.is_type) b.path o.ty b.part b.is_part in
      (b.part, part_is types (Con k vs) (Named t) o.path o.ty b.part u.1, subst (λ q. Shown m o.ty b.part (subs_words fields q)) (sym path) r)

  parts_shown : (t k : ℕ) (vs : List Value) (ts : List Ty) → fields_in (slice_get types t) k ≡ Some ts → (m : Memory) (fields : ℕ → List ℕ → List ℕ) → FieldsShown vs ts m fields
      → (m' : Memory) (ws : List ℕ) → Shown m' (Named t) (Con k vs) ws → Extends m m' → (path : List ℕ) (s : Ty) (u : Value) → PartIs types (Con k vs) (Named t) path s u → Shown m' s u (own_words ws fields path)
  parts_shown t k vs ts is m fields shown m' ws here more [] s u h = subst (λ ty. Shown m' ty u ws) h.1 (subst (λ v. Shown m' (Named t) v ws) h.0 here)
  parts_shown t k vs ts is m fields shown m' ws here more (i ∷ path) s u h =
      Represents-kept m m' more types layouts true
      (shown i h.0 h.1 (ap (λ xs. slice_get xs i) (sym (subs-Con k vs)) ∙ h.2) (ap (λ xs. slice_get xs i) (sym (con_types t k vs ts is)) ∙ h.3) path s u h.4)

  made_encodes : (t k : ℕ) (vs : List Value) → Each Encodes vs → (ts : List Ty) → fields_in (slice_get types t) k ≡ Some ts → all_of_types (map (is_of_type types) vs) ts ≡ true
      → is_of_type types (Con k vs) (Named t) ≡ true → (m : Memory) → IsGood m → (bs : List (ℕ × ℕ)) (next : ℕ)
      → lay m.limit m.next (requests_of layouts (making_of types (Con k vs) (Named t))) ≡ Fits bs next → Encoded (Con k vs) (Named t) m bs next
  made_encodes t k vs each ts is_fields of_types of_type m good bs next e =
      let v = Con k vs in
      let l = has_layout t (declared_type t k ts is_fields) in
      let layout = l.0 in
      let c = agrees.a5.complete t layout l.1 v of_type in
      let f = first_leaf layout.leaves v c.0 c.1 c.2 c.3 0 in
      let n = f.0 in
      let leaf = f.1 in
      let z : 0 + n ≡ n = omega arith in
      let is_leaf : leaf_of layout v ≡ Some n = f.2 ∙ ap Some z in
      let blocks : blocks_of layouts t v ≡ map request_of leaf.blocks =
      ap (λ o. leaf_requests (leaf_in o v)) l.1 ∙ ap (λ o. leaf_requests (leaf_numbered layout.leaves o)) is_leaf ∙ ap leaf_requests f.3 in
      let log = con_log t k vs ts is_fields in
      let split = flat_map-append (requests_at layouts) (in_turn (makings vs) ts) (Built t v ∷ []) in
      let all : requests_of layouts (making_of types v (Named t)) ≡ requests_of layouts (in_turn (makings vs) ts) ++ map request_of leaf.blocks =
      ap (requests_of layouts) log ∙ split ∙ ap (λ xs. requests_of layouts (in_turn (makings vs) ts) ++ xs) (append-nil (blocks_of layouts t v) ∙ blocks) in
      let h = laid_parts m.limit m.next (requests_of layouts (in_turn (makings vs) ts)) (map request_of leaf.blocks) bs next (ap (lay m.limit m.next) (sym all) ∙ e) in
      let fe = fields_encode vs each ts of_types m good h.0 h.1 h.3 in
      let m1 = fe.memory in
      let g1 = fe.grown in
      let e1 : lay m1.limit m1.next (map request_of leaf.blocks) ≡ Fits h.2 next =
      ap (λ x. lay x m1.next (map request_of leaf.blocks)) g1.limit ∙ ap (λ x. lay m.limit x (map request_of leaf.blocks)) g1.next ∙ h.4 in
      let ok = sound p agrees t layout n leaf typed l.1 f.3 in
      let law = lawful p agrees typed in
      let root = law.provenances.root t layout n leaf l.1 f.3 in
      let fits = law.provenances.fits t layout n leaf l.1 f.3 in
      let a4 = agrees.a4 t layout n leaf l.1 f.3 in
      let ss = subs_words fe.words in
      let opens : (i : ℕ) (o : Open) → slice_get (open_positions types leaf.prov) i ≡ Some o → (u : Value) × (part_at v o.path ≡ Some u) × Shown m1 o.ty u (ss o.path)
      = λ i o at. open_shown t k vs ts is_fields m1 fe.words fe.shown o
      (root_opens types leaf.prov t v root fits f.4 i o (ap (λ (ty : Ty). slice_get (opens_of types leaf.prov ty) i) (sym root) ∙ at)) in
      let wide : (r : WordRef) (x align b : ℕ) → PointsTo leaf r x align b → IsAlignment align × ((j : ℕ) → align ≡ 2 ^ j → 24 ≤ x + j) = λ r x align b q. (a4.alignments r x align b q, a4.wide r x align b q) in
      let reps : (i : ℕ) (o : Open) → slice_get (open_positions types leaf.prov) i ≡ Some o → (u : Value) × Shown m1 o.ty u (ss o.path) = λ i o at. let q = opens i o at in (q.0, q.2) in
      let st = stored p agrees true t layout n leaf ok m1 g1.good ss reps wide h.2 next e1 in
      let ws = root_words p agrees true t layout n leaf ok m1 g1.good ss reps wide h.2 next e1 in
      let here = layer_shown p agrees true t layout n leaf ok m1 g1.good ss reps wide h.2 next e1 v l.1 is_leaf f.3 (λ path. unwrap_or (part_at v path) v)
      (λ i o at. let q = opens i o at in let x = ap (λ y. unwrap_or y v) q.1 in (q.1 ∙ ap Some (sym x), subst (λ u. Shown m1 o.ty u (ss o.path)) (sym x) q.2)) in
      record {
        memory = st.memory;
        grown = subst (λ cs. Grown m st.memory cs next) (sym h.5) (Grown-trans m m1 st.memory h.0 h.2 h.1 next g1 st.grown);
        words = own_words ws fe.words;
        shown = parts_shown t k vs ts is_fields m1 fe.words fe.shown st.memory ws here (Grown-extends m1 st.memory h.2 next g1.good st.grown);
      }

  con_encodes : (k : ℕ) (vs : List Value) → Each Encodes vs → Encodes (Con k vs)
  con_encodes k vs each (Int bits) m good of_type bs next e = absurd (let h = sym (is_of_type-Con types k vs (Int bits)) ∙ of_type in cc)
  con_encodes k vs each (Named t) m good of_type bs next e = go (fields_in (slice_get types t) k) refl (sym (is_of_type-Con types k vs (Named t)) ∙ of_type)
    where
      go : (o : Option (List Ty)) → fields_in (slice_get types t) k ≡ o → are_of (map (is_of_type types) vs) o ≡ true → Encoded (Con k vs) (Named t) m bs next
      go None is h = absurd cc
      go (Some ts) is h = made_encodes t k vs each ts is h of_type m good bs next e

  encodes : (v : Value) → Encodes v
  encodes = induction Encodes num_encodes con_encodes

  -- a clean representation, in a memory with exactly the blocks that are laid
  pub represented : (ty : Ty) (v : Value) (m : Memory) → IsGood m → is_of_type types v ty ≡ true → (bs : List (ℕ × ℕ)) (next : ℕ)
      → lay m.limit m.next (requests_of layouts (making_of types v ty)) ≡ Fits bs next → (new : Memory) × (ws : List ℕ) × Grown m new bs next × Represents types layouts new true ty v ws
  represented ty v m good of_type bs next e =
      let r = encodes v ty m good of_type bs next e in (r.memory, r.words [], r.grown, r.shown [] ty v (refl, refl))

  -- several values, one after the other
  all_encode : (vs : List Value) → Each Encodes vs
  all_encode [] = tt
  all_encode (v ∷ vs) = (encodes v, all_encode vs)

  all_shown : (vs : List Value) (ts : List Ty) (m : Memory) (fields : ℕ → List ℕ → List ℕ) → all_of_types (map (is_of_type types) vs) ts ≡ true → FieldsShown vs ts m fields
      → (ws : List ℕ) × Represent types layouts m true ts vs ws
  all_shown [] [] m fields of_types shown = ([], refl)
  all_shown [] (t ∷ ts) m fields of_types shown = absurd cc
  all_shown (v ∷ vs) [] m fields of_types shown = absurd cc
  all_shown (v ∷ vs) (t ∷ ts) m fields of_types shown =
      let b = and_parts (is_of_type types v t) (all_of_types (map (is_of_type types) vs) ts) of_types in
      let r = all_shown vs ts m (λ i path. fields (suc i) path) b.1 (λ i x y is_value is_type path s u h. shown (suc i) x y is_value is_type path s u h) in
      (fields 0 [] ++ r.0, (fields 0 [], r.0, refl, shown 0 v t refl refl [] t v (refl, refl), r.1))

  pub all_represented : (ts : List Ty) (vs : List Value) (m : Memory) → IsGood m → all_of_types (map (is_of_type types) vs) ts ≡ true → (bs : List (ℕ × ℕ)) (next : ℕ)
      → lay m.limit m.next (requests_of layouts (all_makings types vs ts)) ≡ Fits bs next → (new : Memory) × (ws : List ℕ) × Grown m new bs next × Represent types layouts new true ts vs ws
  all_represented ts vs m good of_types bs next e =
      let r = fields_encode vs (all_encode vs) ts of_types m good bs next e in
      let w = all_shown vs ts r.memory r.words of_types r.shown in (r.memory, w.0, r.grown, w.1)
