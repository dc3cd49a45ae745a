-- The leaf that is chosen for a value at a position is its own, and the fields there are come to.
use Rattle.std.proofs.Common.{◌≡◌, ℕ, zero, suc, ◌+◌, inl, inr, length, map, Bool, true, false, List, [], ◌∷◌, Option, Some, None, Result, Ok, refl, sym, subst, ap, ◌∙◌, arith}
use Rattle.std.specs.Prelude.{slice_get, ◌==◌, ◌&&◌, if◌then◌else◌}
use Rattle.std.proofs.lemmas.Option.{same_Some}
use Rattle.rb_core.specs.declared.pattern.Pat.{Pat, Wild, Var, Con, out-Pat}
use Rattle.rb_core.specs.declared.pattern.Pat.TheVariants.{outs-Con}
use Rattle.rb_core.specs.declared.program.Program.{Program}
use Rattle.rb_core.specs.declared.types.ConRef.{ConRef}
use Rattle.rb_core.specs.declared.types.DataDecl.{DataDecl}
use Rattle.rb_core.specs.declared.types.Ty.{Ty}
use Rattle.rb_core.specs.declared.types.Ty.TheVariants.{Int, Named}
use Rattle.rb_core.specs.declared.value.Value.{Value, out-Value, Con as VCon}
use Rattle.rb_core.specs.declared.value.Value.TheVariants.{outs-Con as V-outs-Con}
use Rattle.rb_core.specs.Matching.{all_pass, is_con, matches_of}
use Rattle.rb_core.specs.TypedPrograms.{IsTyped}
use Rattle.rb_core.specs.Values.{fields_in, fields_of, part_at, part_from, subs}
use Rattle.rb_core.proofs.MatchingForms.{matches-Con, matches-Var, matches-Wild}
use Rattle.rb_core.proofs.PatternLaws.{Each, fold-Con, fold-Num, fold-Var, fold-Wild, induction}
use Rattle.rb_core.proofs.ValueLaws.{subs-Con}
use Rattle.rb_bytes.specs.Memory.{Memory, IsGood}
use Rattle.rb_layout.specs.declared.layout.Layout.{Layout}
use Rattle.rb_layout.specs.declared.layout.Leaf.{Leaf}
use Rattle.rb_layout.specs.A9.{HasPointerPart}
use Rattle.rb_layout.specs.Agreement.{Agrees}
use Rattle.rb_layout.specs.Flattening.{flat_layouts}
use Rattle.rb_layout.specs.Positions.{Open, below, leaf_from, opens_below, opens_of, types_or_none}
use Rattle.rb_rel.specs.Provenances.{fits_type}
use Rattle.rb_rel.proofs.Lists.{get-append, get-map}
use Rattle.rb_rel.proofs.Opens.{opens-Con, opens-Var, opens-Wild}
use Rattle.rb_rel.proofs.Reading.{same_nat}
use Rattle.rb_image_text.specs.declared.fault.ImageFault.{ImageFault}
use Rattle.rb_image_text.specs.declared.fault.ImageFault.TheVariants.{Memory as NoMemory}
use Rattle.rb_image_text.specs.declared.image.ImageBlock.{ImageBlock}
use Rattle.rb_image.specs.Splits.{and_then, or_fault}
use Rattle.rb_image.proofs.FallingWords.{same_is}
use Rattle.rb_peek.specs.Rebuilds.{Matching, leaf_chosen, match_con, match_field, match_fields, match_step, matches, or_later, same_con}
use Rattle.rb_peek.specs.RebuiltValues.{IsInner, ValueStands, plain_step}
use Rattle.rb_peek.specs.Views.{LeafPosition, along, down, step_down}
use Rattle.rb_peek.proofs.StandingParts.{Matched, Settled, Step, all_two, con_fits, head_free, matched, settles, step, sub_inner, two_from}

each_at : (P : Pat → Type 0) (qs : List Pat) → Each P qs → (j : ℕ) (q : Pat) → slice_get qs j ≡ Some q → P q
each_at P [] each j q e = absurd cc
each_at P (r ∷ qs) each zero q e = subst P (same_Some r q e) each.0
each_at P (r ∷ qs) each (suc j) q e = each_at P qs each.1 j q e

-- the field in which an open position stands
record Within (fs : List (Ty → List Open)) (ts : List Ty) (i : ℕ) (o : Open) : Type 0 where
  field : ℕ
  f : Ty → List Open
  ty : Ty
  number : ℕ
  place : Open
  is_f : slice_get fs field ≡ Some f
  is_ty : slice_get ts field ≡ Some ty
  is_place : slice_get (f ty) number ≡ Some place
  is : o ≡ below (i + field) place

within : (fs : List (Ty → List Open)) (ts : List Ty) (i k : ℕ) (o : Open) → slice_get (opens_below fs ts i) k ≡ Some o → Within fs ts i o
within [] ts i k o e = absurd cc
within (f ∷ fs) [] i k o e = absurd cc
within (f ∷ fs) (t ∷ ts) i k o e = elim (get-append (map (below i) (f t)) (opens_below fs ts (i + 1)) k o e) [
  | inl h ↦
      let g = get-map (below i) (f t) k o h in
      let z : i ≡ i + 0 = omega arith in
      record { field = 0; f = f; ty = t; number = k; place = g.0; is_f = refl; is_ty = refl; is_place = g.1; is = g.2 ∙ ap (λ n. below n g.0) z }
  | inr h ↦
      let r = within fs ts (i + 1) h.0 o h.1 in
      let z : i + 1 + r.field ≡ i + suc r.field = omega arith in
      record { field = suc r.field; f = r.f; ty = r.ty; number = r.number; place = r.place; is_f = r.is_f; is_ty = r.is_ty; is_place = r.is_place; is = r.is ∙ ap (λ n. below n r.place) z }
]

alone : (r o : Open) (os : List Open) (k : ℕ) → os ≡ r ∷ [] → slice_get os k ≡ Some o → r ≡ o
alone r o os zero is e = same_Some r o (sym (ap (λ (xs : List Open). slice_get xs 0) is) ∙ e)
alone r o os (suc k) is e = let z : ◌≡◌ {A = Option Open} None (Some o) = sym (ap (λ (xs : List Open). slice_get xs (suc k)) is) ∙ e in absurd cc

two_long : {A B : Type 0} (f : A → B → Bool) (xs : List A) (ys : List B) → all_two f xs ys → length xs ≡ length ys
two_long f [] [] h = refl
two_long f [] (y ∷ ys) h = absurd h
two_long f (x ∷ xs) [] h = absurd h
two_long f (x ∷ xs) (y ∷ ys) h = ap suc (two_long f xs ys h.1)

con_same : (a c : ℕ) (us ws : List Value) → VCon a us ≡ VCon c ws → a ≡ c
con_same a c us ws e = let z = sym (V-outs-Con a us) ∙ ap out-Value e ∙ V-outs-Con c ws in cc

decided : (b : Bool) (rest : Result Bool ImageFault) (c : Bool) → rest ≡ Ok c → ◌≡◌ {A = Result Bool ImageFault} (if b then rest else Ok false) (Ok (b && c))
decided true rest c e = e
decided false rest c e = refl

module _ (p : Program) (typed : IsTyped p) (agrees : Agrees p) (m : Memory) (good : IsGood m) (blocks : List ImageBlock) where
  abbrev types : List DataDecl
  types = p.types

  abbrev layouts : List Layout
  layouts = flat_layouts p

  abbrev Match : Pat → LeafPosition → Result Bool ImageFault
  Match = matches types layouts blocks

  abbrev Stand : LeafPosition → Value → Pat → Ty → Type 0
  Stand x v q ty = ValueStands p m blocks x v q ty

  abbrev FieldAt : LeafPosition → ℕ → Ty → Value → Type 0
  FieldAt y j t w = Step p typed agrees m good blocks y j t w

  -- A constructor ----------------------------------------------------------------------------
  -- what is known of a value of a type, where a pattern with a constructor at its head is of that type
  record Headed (x : LeafPosition) (v : Value) (c : ConRef) (qs : List Pat) (s : ℕ) : Type 0 where
    settled_ : Settled p typed agrees m good blocks x v s
    fits : all_two (fits_type types) qs (types_or_none (fields_of types c))
    own : c.ty ≡ settled_.con.ty
    value : Matched settled_.con settled_.ps v

  headed : (x : LeafPosition) (v : Value) (q : Pat) (s at : ℕ) (c : ConRef) (qs : List Pat) → Stand x v q (Named s) → IsInner p (Con at c qs) (Named s) → Headed x v c qs s
  headed x v q s at c qs st inner =
      let f = con_fits p typed agrees m good blocks at c qs (Named s) inner in
      let own : s ≡ c.ty = same_nat s c.ty f.0 in
      let t = settles p typed agrees m good blocks x v q s st (subst (λ i. HasPointerPart layouts i → ⊥) (sym own) (head_free p typed agrees m good blocks at c qs (Named s) inner)) in
      let g = con_fits p typed agrees m good blocks t.at t.con t.ps (Named s) t.stands.inner in
      record { settled_ = t; fits = f.1; own = sym own ∙ same_nat s t.con.ty g.0; value = matched t.at t.con t.ps v t.stands.matches }

  types_same : (c d : ConRef) → c.ty ≡ d.ty → c.con ≡ d.con → types_or_none (fields_of types c) ≡ types_or_none (fields_of types d)
  types_same c d ty con = ap (λ i. types_or_none (fields_in (slice_get types i) c.con)) ty ∙ ap (λ k. types_or_none (fields_in (slice_get types d.ty) k)) con

  -- a field of it
  field : (x : LeafPosition) (v : Value) (s : ℕ) (c : ConRef) (qs : List Pat) (h : Headed x v c qs s) → c.con ≡ h.settled_.con.con → (j : ℕ) (t : Ty) (w : Value)
      → slice_get (types_or_none (fields_of types c)) j ≡ Some t → slice_get (subs v) j ≡ Some w → FieldAt h.settled_.y j t w
  field x v s c qs h con j t w et ew =
      step p typed agrees m good blocks h.settled_.y v h.settled_.at h.settled_.con h.settled_.ps s h.settled_.stands j t w
      (ap (λ ts. slice_get ts j) (sym (types_same c h.settled_.con h.own con)) ∙ et) ew

  -- Matching ---------------------------------------------------------------------------------
  abbrev Claim : Pat → Type 0
  Claim q = (x : LeafPosition) (v : Value) (r : Pat) (ty : Ty) → Stand x v r ty → IsInner p q ty → ◌≡◌ {A = Result Bool ImageFault} (Match q x) (Ok (matches_of q v))

  all_match : (y : LeafPosition) (qs : List Pat) → Each Claim qs → (i : ℕ) (ts : List Ty) (ws : List Value) → all_two (fits_type types) qs ts → length ws ≡ length qs
      → ((j : ℕ) (q : Pat) (t : Ty) → slice_get qs j ≡ Some q → fits_type types q t ≡ true → IsInner p q t)
      → ((j : ℕ) (t : Ty) (w : Value) → slice_get ts j ≡ Some t → slice_get ws j ≡ Some w → FieldAt y (i + j) t w)
      → ◌≡◌ {A = Result Bool ImageFault} (match_fields types (map Match qs) y i) (Ok (all_pass (map matches_of qs) ws))
  all_match y [] each i ts [] fits long inners steps = refl
  all_match y [] each i ts (w ∷ ws) fits long inners steps = absurd (omega (arith, long))
  all_match y (q ∷ qs) each i [] ws fits long inners steps = absurd fits
  all_match y (q ∷ qs) each i (t ∷ ts) [] fits long inners steps = absurd (omega (arith, long))
  all_match y (q ∷ qs) each i (t ∷ ts) (w ∷ ws) fits long inners steps =
      let s = steps 0 t w refl refl in
      let z : i ≡ i + 0 = omega arith in
      let there : down types y i ≡ Some s.z = ap (down types y) z ∙ s.is_down in
      let first = each.0 s.z w s.pat t s.stands (inners 0 q t refl fits.0) in
      let shift : (j : ℕ) → i + suc j ≡ i + 1 + j = λ j. omega arith in
      let rest = all_match y qs each.1 (i + 1) ts ws fits.1 (omega (arith, long)) (λ j. inners (suc j))
      (λ j u x eu ex. subst (λ n. FieldAt y n u x) (shift j) (steps (suc j) u x eu ex)) in
      let go = λ (so : Bool). if so then match_fields types (map Match qs) y (i + 1) else Ok false in
      ap (λ o. and_then (match_field (Match q) o) go) there ∙ ap (λ (r : Result Bool ImageFault). and_then r go) first
      ∙ decided (matches_of q w) (match_fields types (map Match qs) y (i + 1)) (all_pass (map matches_of qs) ws) rest

  con_claim : (at : ℕ) (c : ConRef) (qs : List Pat) → Each Claim qs → Claim (Con at c qs)
  con_claim at c qs each x v r (Int bits) st inner = absurd (let f = (con_fits p typed agrees m good blocks at c qs (Int bits) inner).0 in cc)
  con_claim at c qs each x v r (Named s) st inner =
      let h = headed x v r s at c qs st inner in
      let t = h.settled_ in
      let d = t.con in
      let l = h.value in
      let y = t.y in
      let fields = match_fields types (map Match qs) y 0 in
      let pass = all_pass (map matches_of qs) l.vs in
      let go = λ (z : LeafPosition). match_con types c (map Match qs) z (out-Pat z.here.pat) in
      let left : ◌≡◌ {A = Result Bool ImageFault} (Match (Con at c qs) x) (if same_con c d then fields else Ok false) =
      ap (λ (g : Matching). g x) (fold-Con Matching (match_step types layouts blocks) at c qs) ∙ ap (λ (o : Result LeafPosition ImageFault). and_then o go) t.is_settled
      ∙ ap (match_con types c (map Match qs) y) (ap out-Pat t.stands.is_pat ∙ outs-Con t.at d t.ps) in
      let right : matches_of (Con at c qs) v ≡ ((c.con == d.con) && pass) = matches-Con v at c qs ∙ ap (is_con c.con (map matches_of qs)) (ap out-Value l.is ∙ V-outs-Con d.con l.vs) in
      let same : same_con c d ≡ (c.con == d.con) = ap (λ b. b && (c.con == d.con)) (ap (λ i. c.ty == i) (sym h.own) ∙ same_is c.ty) in
      left ∙ ap (λ b. if b then fields else Ok false) same
      ∙ decide (c.con == d.con) fields pass (λ e. all c qs x v s h each (same_nat c.con d.con e) (λ j q u eq fits. sub_inner p typed agrees m good blocks at c qs (Named s) inner j q u eq fits))
      ∙ ap (λ b. Ok b) (sym right)
    where
      decide : (b : Bool) (fields : Result Bool ImageFault) (pass : Bool) → (b ≡ true → fields ≡ Ok pass) → ◌≡◌ {A = Result Bool ImageFault} (if b then fields else Ok false) (Ok (b && pass))
      decide true fields pass h = h refl
      decide false fields pass h = refl

      all : (c : ConRef) (qs : List Pat) (x : LeafPosition) (v : Value) (s : ℕ) (h : Headed x v c qs s) → Each Claim qs → c.con ≡ h.settled_.con.con
          → ((j : ℕ) (q : Pat) (t : Ty) → slice_get qs j ≡ Some q → fits_type types q t ≡ true → IsInner p q t)
          → ◌≡◌ {A = Result Bool ImageFault} (match_fields types (map Match qs) h.settled_.y 0) (Ok (all_pass (map matches_of qs) h.value.vs))
      all c qs x v s h each con inners =
          let t = h.settled_ in
          let l = h.value in
          let ts = types_or_none (fields_of types c) in
          let a = two_long (fits_type types) qs ts h.fits in
          let b = two_long (fits_type types) t.ps (types_or_none (fields_of types t.con)) (con_fits p typed agrees m good blocks t.at t.con t.ps (Named s) t.stands.inner).1 in
          let e = ap length (types_same c t.con h.own con) in
          let g = two_long matches_of t.ps l.vs l.pass in
          let long : length l.vs ≡ length qs = sym (a ∙ e ∙ sym b ∙ g) in
          let parts : subs v ≡ l.vs = ap subs l.is ∙ subs-Con t.con.con l.vs in
          let zs : (j : ℕ) → j ≡ 0 + j = λ j. omega arith in
          all_match t.y qs each 0 ts l.vs h.fits long inners
          (λ j u w eu ew. subst (λ n. FieldAt t.y n u w) (zs j) (field x v s c qs h con j u w eu (ap (λ us. slice_get us j) parts ∙ ew)))

  pub claims : (q : Pat) → Claim q
  claims = induction Claim (record {
    wild = λ at x v r ty st inner. ap (λ (g : Matching). g x) (fold-Wild Matching (match_step types layouts blocks) at) ∙ sym (ap (λ b. Ok b) (matches-Wild v at));
    var = λ at y x v r ty st inner. ap (λ (g : Matching). g x) (fold-Var Matching (match_step types layouts blocks) at y) ∙ sym (ap (λ b. Ok b) (matches-Var v at y));
    num = λ at n x v r ty st inner. absurd (let z = sym (fold-Num Bool plain_step at n) ∙ inner.plain in cc);
    con = con_claim;
  })

  -- The leaf ---------------------------------------------------------------------------------
  pub record IsChosen (leaves : List Leaf) (x : LeafPosition) (i n : ℕ) : Type 0 where
    pub number : ℕ
    pub leaf : Leaf
    pub is_chosen : ◌≡◌ {A = Result Leaf ImageFault} (leaf_chosen types layouts blocks leaves x) (Ok leaf)
    pub is_leaf : slice_get leaves number ≡ Some leaf
    pub is_number : i + number ≡ n

  pub chosen_is : (x : LeafPosition) (v : Value) (leaves : List Leaf) → ((k : ℕ) (leaf : Leaf) → slice_get leaves k ≡ Some leaf → ◌≡◌ {A = Result Bool ImageFault} (Match leaf.prov x) (Ok (matches_of leaf.prov v)))
      → (i n : ℕ) → leaf_from leaves v i ≡ Some n → IsChosen leaves x i n
  chosen_is x v [] all i n e = absurd cc
  chosen_is x v (leaf ∷ leaves) all i n e = go (matches_of leaf.prov v) refl (λ h. chosen_is x v leaves (λ k l is. all (suc k) l is) (i + 1) n h)
    where
      go : (b : Bool) → matches_of leaf.prov v ≡ b → (leaf_from leaves v (i + 1) ≡ Some n → IsChosen leaves x (i + 1) n) → IsChosen (leaf ∷ leaves) x i n
      go true is more =
          let same = same_Some i n (sym (ap (λ b. if b then Some i else leaf_from leaves v (i + 1)) is) ∙ e) in
          record {
            number = 0;
            leaf = leaf;
            is_chosen = ap (λ r. or_later r leaf (leaf_chosen types layouts blocks leaves x)) (all 0 leaf refl ∙ ap (λ b. Ok b) is);
            is_leaf = refl;
            is_number = omega (arith, same);
          }
      go false is more =
          let r = more (sym (ap (λ b. if b then Some i else leaf_from leaves v (i + 1)) is) ∙ e) in
          let z = r.is_number in
          record {
            number = suc r.number;
            leaf = r.leaf;
            is_chosen = ap (λ r. or_later r leaf (leaf_chosen types layouts blocks leaves x)) (all 0 leaf refl ∙ ap (λ b. Ok b) is) ∙ r.is_chosen;
            is_leaf = r.is_leaf;
            is_number = omega (arith, z);
          }

  -- Positions --------------------------------------------------------------------------------
  pub record Ends (x : LeafPosition) (v : Value) (o : Open) : Type 0 where
    pub y : LeafPosition
    pub w : Value
    pub pat : Pat
    pub is_along : ◌≡◌ {A = Result LeafPosition ImageFault} (along types layouts blocks x o.path) (Ok y)
    pub is_part : part_at v o.path ≡ Some w
    pub stands : ValueStands p m blocks y w pat o.ty

  abbrev Comes : Pat → Type 0
  Comes q = (x : LeafPosition) (v : Value) (r : Pat) (ty : Ty) → Stand x v r ty → IsInner p q ty → matches_of q v ≡ true → (k : ℕ) (o : Open) → slice_get (opens_of types q ty) k ≡ Some o → Ends x v o

  at_once : (x : LeafPosition) (v : Value) (r : Pat) (ty : Ty) → Stand x v r ty → (os : List Open) → os ≡ record { path = []; ty = ty } ∷ [] → (k : ℕ) (o : Open) → slice_get os k ≡ Some o → Ends x v o
  at_once x v r ty st os is k o e =
      subst (Ends x v) (alone (record { path = []; ty = ty }) o os k is e) (record { y = x; w = v; pat = r; is_along = refl; is_part = refl; stands = st })

  con_comes : (at : ℕ) (c : ConRef) (qs : List Pat) → Each Comes qs → Comes (Con at c qs)
  con_comes at c qs each x v r (Int bits) st inner mt k o e = absurd (let f = (con_fits p typed agrees m good blocks at c qs (Int bits) inner).0 in cc)
  con_comes at c qs each x v r (Named s) st inner mt k o e =
      let h = headed x v r s at c qs st inner in
      let t = h.settled_ in
      let own = matched at c qs v mt in
      let con : c.con ≡ t.con.con = con_same c.con t.con.con own.vs h.value.vs (sym own.is ∙ h.value.is) in
      let ts = types_or_none (fields_of types c) in
      let i = within (map (opens_of types) qs) ts 0 k o (ap (λ (os : List Open). slice_get os k) (sym (opens-Con types at c qs (Named s))) ∙ e) in
      let q = get-map (opens_of types) qs i.field i.f i.is_f in
      let u = two_from matches_of qs own.vs own.pass i.field q.0 q.1 in
      let f = two_from (fits_type types) qs ts h.fits i.field q.0 q.1 in
      let one : f.0 ≡ i.ty = same_Some f.0 i.ty (sym f.1 ∙ i.is_ty) in
      let there : slice_get (subs v) i.field ≡ Some u.0 = ap (λ us. slice_get us i.field) (ap subs own.is ∙ subs-Con c.con own.vs) ∙ u.1 in
      let g = field x v s c qs h con i.field i.ty u.0 i.is_ty there in
      let n = each_at Comes qs each i.field q.0 q.1 g.z u.0 g.pat i.ty g.stands
      (sub_inner p typed agrees m good blocks at c qs (Named s) inner i.field q.0 i.ty q.1 (subst (λ ty. fits_type types q.0 ty ≡ true) one f.2)) u.2
      i.number i.place (ap (λ (f : Ty → List Open). slice_get (f i.ty) i.number) (sym q.2) ∙ i.is_place) in
      let down_ : ◌≡◌ {A = Result LeafPosition ImageFault} (step_down types layouts blocks x i.field) (Ok g.z) =
      ap (λ (r : Result LeafPosition ImageFault). and_then r (λ y. or_fault (down types y i.field) NoMemory)) t.is_settled ∙ ap (λ (o : Option LeafPosition). or_fault o NoMemory) g.is_down in
      let z : i.field ≡ 0 + i.field = omega arith in
      subst (Ends x v) (ap (λ j. below j i.place) z ∙ sym i.is) (record {
        y = n.y;
        w = n.w;
        pat = n.pat;
        is_along = ap (λ (r : Result LeafPosition ImageFault). and_then r (λ y. along types layouts blocks y i.place.path)) down_ ∙ n.is_along;
        is_part = ap (λ (u : Option Value). part_from u i.place.path) there ∙ n.is_part;
        stands = n.stands;
      })

  pub comes : (q : Pat) → Comes q
  comes = induction Comes (record {
    wild = λ at x v r ty st inner mt k o e. at_once x v r ty st (opens_of types (Wild at) ty) (opens-Wild types at ty) k o e;
    var = λ at y x v r ty st inner mt k o e. at_once x v r ty st (opens_of types (Var at y) ty) (opens-Var types at y ty) k o e;
    num = λ at n x v r ty st inner mt k o e. absurd (let z = sym (fold-Num Bool plain_step at n) ∙ inner.plain in cc);
    con = con_comes;
  })
