-- A leaf that alone is for a constructor, and takes no field apart: it is that of all its values, and its open
-- positions are the constructor's fields.
use Rattle.std.proofs.Common.{◌≡◌, ℕ, zero, suc, ◌+◌, ◌<◌, ◌==◌, ◌&&◌, inl, inr, length, map, List, [], ◌∷◌, ◌++◌, Bool, true, false, Some, drop, refl, sym, subst, ap, ◌∙◌, arith}
use Rattle.std.specs.Prelude.{slice_get, if◌then◌else◌}
use Rattle.std.specs.List.{list_all}
use Rattle.std.proofs.lemmas.Bool.{and_parts}
use Rattle.std.proofs.lemmas.Option.{same_Some}
use Rattle.std.proofs.lemmas.List.{length-map}
use Rattle.rb_core.specs.declared.value.Value.{Value, Con}
use Rattle.rb_core.specs.declared.value.Value.TheVariants.{outs-Con}
use Rattle.rb_core.specs.declared.value.Value.TheOpen as V
use Rattle.rb_core.specs.declared.types.Ty.{Ty}
use Rattle.rb_core.specs.declared.types.Ty.TheVariants.{Int, Named}
use Rattle.rb_core.specs.declared.types.ConRef.{ConRef}
use Rattle.rb_core.specs.declared.types.DataDecl.{DataDecl}
use Rattle.rb_core.specs.declared.pattern.Pat.{Pat, out-Pat, Con as ConPat}
use Rattle.rb_core.specs.declared.pattern.Pat.TheFolds.{fold-Pat}
use Rattle.rb_core.specs.declared.pattern.Pat.TheVariants.{outs-Wild, outs-Var, outs-Num}
use Rattle.rb_core.specs.TypedPrograms.{IsTyped}
use Rattle.rb_core.specs.WellNumbered.{Below, below_step, is_provenance, may_be_below}
use Rattle.rb_core.specs.Matching.{matches_of, all_pass, is_con}
use Rattle.rb_core.specs.Values.{all_of_types, are_of, fields_in, fields_of, part_at}
use Rattle.rb_core.proofs.MatchingForms.{matches-Wild, matches-Var, matches-Con}
use Rattle.rb_core.proofs.PatternLaws as PL
use Rattle.rb_layout.specs.declared.layout.Leaf.{Leaf}
use Rattle.rb_layout.specs.declared.layout.Layout.{Layout}
use Rattle.rb_layout.specs.Flattening.{flat_layouts}
use Rattle.rb_layout.specs.Positions.{Open, root_type, below, opens_below, opens_of, open_positions, types_or_none, leaf_from, leaf_of, layout_of}
use Rattle.rb_rel.specs.Switches.{HeadAt, begins_with, choose_of, inner_heads, is_leaf_for, head_below, heads_below, heads_of, heads_step}
use Rattle.rb_rel.proofs.Agreeing.{lawful}
use Rattle.rb_rel.specs.Provenances.{fits_type, is_named}
use Rattle.rb_rel.proofs.Lists.{and_true, get-append, get-map}
use Rattle.rb_rel.proofs.Opens.{fits-Con, opens-Con, opens-Wild, opens-Var}
use Rattle.rb_rel.proofs.Reading.{same_nat}
use Rattle.rb_core.proofs.ValueLaws.{subs-Con}
use Rattle.rb_bytes.specs.Memory.{Memory}
use Rattle.rb_target.specs.Meaning.{World, slots_at}
use Rattle.rb_target.specs.Sheet.{Sheet}
use Rattle.rb_layout.specs.Agreement.{AreAgreed}
use Rattle.rb_layout.specs.Flattening.{same_path}
use Rattle.rb_rel.specs.Placing.{blocks_of, lay}
use Rattle.rb_fragment.specs.declared.held.Held.{Held}
use Rattle.rb_fragment.specs.Fragments.{Comes}
use Rattle.rb_fragment.specs.Holding.{AllGiven, AreHeld, held_type}
use Rattle.rb_fragment.specs.Plan.{Plan, Rep, words_needed}
use Rattle.rb_fragment.specs.Slots.{AllBelow}
use Rattle.rb_compose.specs.Making.{MakesLeaf}
use Rattle.rb_compose.specs.Subvalues.{AreGivenAt, ArePartsHeld, subvalue_at}
use Rattle.rb_fetch.specs.Constructing.{IsConstructed}
use Rattle.rb_fetch.specs.inner.Choosing.{parts_from}
use Rattle.rb_target.proofs.Growing.{below_or}
use Rattle.rb_fetch.specs.inner.Constructing.{IsAlone, NoneFor}
use Rattle.rb_fetch.proofs.Meeting.{ends_map}

append_none : {A : Type 0} (xs ys : List A) → xs ++ ys ≡ [] → (xs ≡ []) × (ys ≡ [])
append_none [] ys e = (refl, e)
append_none (x ∷ xs) ys e = absurd cc

map_none : {A B : Type 0} (f : A → B) (xs : List A) → map f xs ≡ [] → xs ≡ []
map_none f [] e = refl
map_none f (x ∷ xs) e = absurd cc

root_con : (k at : ℕ) (c : ConRef) (ps : List Pat) → begins_with k (heads_of (ConPat at c ps)) ≡ (c.con == k)
root_con k at c ps = ap (begins_with k) (PL.fold-Con (List HeadAt) heads_step at c ps)

module _ (types : List DataDecl) where
  -- Provenances ----------------------------------------------------------------------------------

  -- a pattern that matches every value, and is an open position itself
  record IsFree (q : Pat) : Type 0 where
    matches : (v : Value) → matches_of q v ≡ true
    opens : (ty : Ty) → opens_of types q ty ≡ record { path = []; ty = ty } ∷ []

  abbrev Frees : Pat → Type 0
  Frees q = may_be_below (fold-Pat Below below_step q) ≡ true → heads_of q ≡ [] → IsFree q

  frees : (q : Pat) → Frees q
  frees = PL.induction Frees (record {
    wild = λ at b h. record { matches = λ v. matches-Wild v at; opens = λ ty. opens-Wild types at ty };
    var = λ at x b h. record { matches = λ v. matches-Var v at x; opens = λ ty. opens-Var types at x ty };
    num = λ at n b h. absurd (let e = sym (ap may_be_below (PL.fold-Num Below below_step at n)) ∙ b in cc);
    con = λ at c ps each b h. absurd (let e = sym (PL.fold-Con (List HeadAt) heads_step at c ps) ∙ h in cc);
  })

  abbrev AllFree : List Pat → Type 0
  AllFree [] = Unit {0}
  AllFree (q ∷ ps) = IsFree q × AllFree ps

  all_free : (ps : List Pat) (i : ℕ) → list_all may_be_below (map (fold-Pat Below below_step) ps) ≡ true → heads_below (map heads_of ps) i ≡ [] → AllFree ps
  all_free [] i b h = tt
  all_free (q ∷ ps) i b h =
      let c = and_parts (may_be_below (fold-Pat Below below_step q)) (list_all may_be_below (map (fold-Pat Below below_step) ps)) b in
      let n = append_none (map (head_below i) (heads_of q)) (heads_below (map heads_of ps) (i + 1)) h in
      (frees q c.0 (map_none (head_below i) (heads_of q) n.0), all_free ps (i + 1) c.1 n.1)

  all_matched : (ps : List Pat) → AllFree ps → (vs : List Value) → length ps ≡ length vs → all_pass (map matches_of ps) vs ≡ true
  all_matched [] free [] e = refl
  all_matched [] free (v ∷ vs) e = absurd (omega (arith, e))
  all_matched (q ∷ ps) free [] e = absurd (omega (arith, e))
  all_matched (q ∷ ps) free (v ∷ vs) e = and_true (matches_of q v) (all_pass (map matches_of ps) vs) (free.0.matches v) (all_matched ps free.1 vs (omega (arith, e)))

  one_open : (ty : Ty) (os : List Open) (k : ℕ) (o : Open) → os ≡ record { path = []; ty = ty } ∷ [] → slice_get os k ≡ Some o → o ≡ record { path = []; ty = ty }
  one_open ty os zero o is e = sym (same_Some _ o (sym (ap (λ (xs : List Open). slice_get xs 0) is) ∙ e))
  one_open ty os (suc k) o is e = absurd (let h = sym (ap (λ (xs : List Open). slice_get xs (suc k)) is) ∙ e in cc)

  -- a field of a constructor
  abbrev pub IsField : List Ty → ℕ → Open → Type 0
  IsField ts i o = (j : ℕ) × (o.path ≡ (i + j) ∷ []) × (slice_get ts j ≡ Some o.ty)

  fields_open : (ps : List Pat) → AllFree ps → (ts : List Ty) (i k : ℕ) (o : Open) → slice_get (opens_below (map (opens_of types) ps) ts i) k ≡ Some o → IsField ts i o
  fields_open [] free ts i k o e = absurd cc
  fields_open (q ∷ ps) free [] i k o e = absurd cc
  fields_open (q ∷ ps) free (t ∷ ts) i k o e =
      elim (get-append (map (below i) (opens_of types q t)) (opens_below (map (opens_of types) ps) ts (i + 1)) k o e) [
        | inl h ↦
            let g = get-map (below i) (opens_of types q t) k o h in
            let y = one_open t (opens_of types q t) k g.0 (free.0.opens t) g.1 in
            let z : i ≡ i + 0 = omega arith in
            let is : o ≡ record { path = i ∷ []; ty = t } = g.2 ∙ ap (below i) y in
            (0, ap (λ (x : Open). x.path) is ∙ ap (λ j. j ∷ []) z, ap Some (sym (ap (λ (x : Open). x.ty) is)))
        | inr h ↦
            let r = fields_open ps free.1 ts (i + 1) h.0 o h.1 in
            let z : i + 1 + r.0 ≡ i + suc r.0 = omega arith in
            (suc r.0, r.1 ∙ ap (λ j. j ∷ []) z, r.2)
      ]

  as_many : (ps : List (Ty → Bool)) (ts : List Ty) → all_of_types ps ts ≡ true → length ps ≡ length ts
  as_many [] [] e = refl
  as_many [] (t ∷ ts) e = absurd cc
  as_many (p ∷ ps) [] e = absurd cc
  as_many (p ∷ ps) (t ∷ ts) e = ap suc (as_many ps ts (and_parts (p t) (all_of_types ps ts) e).1)

  module _ (t k : ℕ) (ts : List Ty) (is_fields : fields_in (slice_get types t) k ≡ Some ts) where
    -- what a plain provenance with the constructor at its root matches, and its open positions
    pub record IsFor (q : Pat) : Type 0 where
      pub matches : (vs : List Value) → length vs ≡ length ts → matches_of q (Con k vs) ≡ true
      pub opens : (i : ℕ) (o : Open) → slice_get (opens_of types q (Named t)) i ≡ Some o → IsField ts 0 o

    abbrev Serves : Pat → Type 0
    Serves q = begins_with k (heads_of q) ≡ true → is_provenance q ≡ true → drop 1 (heads_of q) ≡ [] → fits_type types q (Named t) ≡ true → IsFor q

    con_serves : (at : ℕ) (c : ConRef) (ps : List Pat) → Serves (ConPat at c ps)
    con_serves at c ps root prov none fits =
        let con : c.con ≡ k = same_nat c.con k (sym (root_con k at c ps) ∙ root) in
        let shaped : list_all may_be_below (map (fold-Pat Below below_step) ps) ≡ true = sym (ap (λ (b : Below). b.provenance) (PL.fold-Con Below below_step at c ps)) ∙ prov in
        let heads : heads_below (map heads_of ps) 0 ≡ [] = sym (ap (λ hs. drop 1 hs) (PL.fold-Con (List HeadAt) heads_step at c ps)) ∙ none in
        let free = all_free ps 0 shaped heads in
        let f = and_parts (is_named c.ty (Named t)) (are_of (map (fits_type types) ps) (fields_of types c)) (sym (fits-Con types at c ps (Named t)) ∙ fits) in
        let ty : t ≡ c.ty = same_nat t c.ty f.0 in
        let fields : fields_of types c ≡ Some ts = ap (λ y. fields_in (slice_get types y) c.con) (sym ty) ∙ ap (λ y. fields_in (slice_get types t) y) con ∙ is_fields in
        let all : all_of_types (map (fits_type types) ps) ts ≡ true = ap (are_of (map (fits_type types) ps)) (sym fields) ∙ f.1 in
        let many : length ps ≡ length ts = sym (length-map ps (fits_type types)) ∙ as_many (map (fits_type types) ps) ts all in
        record {
          matches = λ vs n.
              matches-Con (Con k vs) at c ps ∙ ap (is_con c.con (map matches_of ps)) (outs-Con k vs)
              ∙ and_true (c.con == k) (all_pass (map matches_of ps) vs) (sym (root_con k at c ps) ∙ root) (all_matched ps free vs (many ∙ sym n));
          opens = λ i o e.
              fields_open ps free ts 0 i o (ap (λ os. slice_get (opens_below (map (opens_of types) ps) os 0) i) (sym (ap types_or_none fields)) ∙ ap (λ (os : List Open). slice_get os i) (sym (opens-Con types at c ps (Named t))) ∙ e);
        }

    serves : (q : Pat) → Serves q
    serves = PL.induction Serves (record {
      wild = λ at root prov none fits. absurd (let e = sym (ap (begins_with k) (PL.fold-Wild (List HeadAt) heads_step at)) ∙ root in cc);
      var = λ at x root prov none fits. absurd (let e = sym (ap (begins_with k) (PL.fold-Var (List HeadAt) heads_step at x)) ∙ root in cc);
      num = λ at n root prov none fits. absurd (let e = sym (ap (begins_with k) (PL.fold-Num (List HeadAt) heads_step at n)) ∙ root in cc);
      con = λ at c ps each. con_serves at c ps;
    })

  -- what matches a construction has its constructor at the root
  abbrev Roots : Pat → Type 0
  Roots q = (t k : ℕ) (vs : List Value) → root_type (out-Pat q) ≡ Named t → matches_of q (Con k vs) ≡ true → begins_with k (heads_of q) ≡ true

  roots : (q : Pat) → Roots q
  roots = PL.induction Roots (record {
    wild = λ at t k vs r m. absurd (let h : Int 64 ≡ Named t = sym (ap root_type (outs-Wild at)) ∙ r in cc);
    var = λ at x t k vs r m. absurd (let h : Int 64 ≡ Named t = sym (ap root_type (outs-Var at x)) ∙ r in cc);
    num = λ at n t k vs r m. absurd (let h : Int 64 ≡ Named t = sym (ap root_type (outs-Num at n)) ∙ r in cc);
    con = λ at c ps each t k vs r m.
        let h : is_con c.con (map matches_of ps) (V.Con k vs) ≡ true = sym (ap (is_con c.con (map matches_of ps)) (outs-Con k vs)) ∙ sym (matches-Con (Con k vs) at c ps) ∙ m in
        root_con k at c ps ∙ (and_parts (c.con == k) (all_pass (map matches_of ps) vs) h).0;
  })

-- Leaves -----------------------------------------------------------------------------------------

-- the first that matches
leaf_is : (leaves : List Leaf) (v : Value) (n : ℕ) (leaf : Leaf) → slice_get leaves n ≡ Some leaf → matches_of leaf.prov v ≡ true
    → ((i : ℕ) (x : Leaf) → i < n → slice_get leaves i ≡ Some x → matches_of x.prov v ≡ true → ⊥) → (at : ℕ) → leaf_from leaves v at ≡ Some (at + n)
leaf_is [] v n leaf is m before at = absurd cc
leaf_is (x ∷ leaves) v zero leaf is m before at =
    let z : at ≡ at + 0 = omega arith in
    ap (λ t. if t then Some at else leaf_from leaves v (at + 1)) (ap (λ (y : Leaf). matches_of y.prov v) (same_Some x leaf is) ∙ m) ∙ ap Some z
leaf_is (x ∷ leaves) v (suc n) leaf is m before at =
    let z : at + 1 + n ≡ at + suc n = omega arith in
    go (matches_of x.prov v) refl (leaf_is leaves v n leaf is m (λ i y lt h q. before (suc i) y (omega (arith, lt)) h q) (at + 1) ∙ ap Some z)
  where
    go : (t : Bool) → matches_of x.prov v ≡ t → leaf_from leaves v (at + 1) ≡ Some (at + suc n) → leaf_from (x ∷ leaves) v at ≡ Some (at + suc n)
    go true e rest = absurd (before 0 x (omega arith) refl e)
    go false e rest = ap (λ t. if t then Some at else leaf_from leaves v (at + 1)) e ∙ rest

-- Values that are held -----------------------------------------------------------------------------

pub given_at : (plan : Plan) (n : ℕ) (hs : List Held) → AllGiven plan n hs → (j : ℕ) (h : Held) → slice_get hs j ≡ Some h → AllBelow n h.slots × (length h.slots ≡ words_needed plan h.ty)
given_at plan n [] given j h e = absurd cc
given_at plan n (x ∷ hs) given zero h e = subst (λ (y : Held). AllBelow n y.slots × (length y.slots ≡ words_needed plan y.ty)) (same_Some x h e) (given.0, given.1)
given_at plan n (x ∷ hs) given (suc j) h e = given_at plan n hs given.2 j h e

pub held_at : (plan : Plan) (clean : Bool) (s : List ℕ) (m : Memory) (hs : List Held) (vs : List Value) → AreHeld plan clean s m hs vs → (j : ℕ) (h : Held) → slice_get hs j ≡ Some h
    → (v : Value) × (slice_get vs j ≡ Some v) × Rep plan m clean h.ty v (slots_at s h.slots)
held_at plan clean s m [] vs held j h e = absurd cc
held_at plan clean s m (x ∷ hs) [] held j h e = absurd held
held_at plan clean s m (x ∷ hs) (v ∷ vs) held zero h e = (v, refl, subst (λ (y : Held). Rep plan m clean y.ty v (slots_at s y.slots)) (same_Some x h e) held.0)
held_at plan clean s m (x ∷ hs) (v ∷ vs) held (suc j) h e = held_at plan clean s m hs vs held.1 j h e

pub held_many : (plan : Plan) (clean : Bool) (s : List ℕ) (m : Memory) (hs : List Held) (vs : List Value) → AreHeld plan clean s m hs vs → length vs ≡ length hs
held_many plan clean s m [] [] held = refl
held_many plan clean s m [] (v ∷ vs) held = absurd held
held_many plan clean s m (x ∷ hs) [] held = absurd held
held_many plan clean s m (x ∷ hs) (v ∷ vs) held = ap suc (held_many plan clean s m hs vs held.1)

-- Arguments ----------------------------------------------------------------------------------------

parts_at : (hs : List Held) (i j : ℕ) (h : Held) → slice_get hs j ≡ Some h → subvalue_at (parts_from i hs) ((i + j) ∷ []) ≡ Some h
parts_at [] i j h e = absurd cc
parts_at (x ∷ hs) i zero h e =
    let z : (i == (i + 0)) ≡ true = grind arith in
    ap (λ t. if t && same_path [] [] then Some x else subvalue_at (parts_from (i + 1) hs) ((i + 0) ∷ [])) z ∙ e
parts_at (x ∷ hs) i (suc j) h e =
    let z : (i == (i + suc j)) ≡ false = grind arith in
    let y : i + suc j ≡ i + 1 + j = omega arith in
    ap (λ t. if t && same_path [] [] then Some x else subvalue_at (parts_from (i + 1) hs) ((i + suc j) ∷ [])) z
    ∙ ap (λ n. subvalue_at (parts_from (i + 1) hs) (n ∷ [])) y ∙ parts_at hs (i + 1) j h e

module _ (plan : Plan) (typed : IsTyped plan.program) (agreed : AreAgreed plan.program plan.layouts) (con : ConRef) (fields : List Ty) (is_fields : fields_of plan.program.types con ≡ Some fields)
    (layout : Layout) (is_layout : layout_of plan.layouts con.ty ≡ Some layout) (leaf : Leaf) (x : IsAlone con.con layout.leaves leaf) (hs : List Held) (kinds : map held_type hs ≡ fields) where
  abbrev types : List DataDecl
  types = plan.program.types

  abbrev k : ℕ
  k = con.con

  flat_layout : layout_of (flat_layouts plan.program) con.ty ≡ Some layout
  flat_layout = ap (λ ls. layout_of ls con.ty) (sym agreed.0) ∙ is_layout

  root : root_type (out-Pat leaf.prov) ≡ Named con.ty
  root = (lawful plan.program agreed.1 typed).provenances.root con.ty layout x.number leaf flat_layout x.is_number

  for : IsFor types con.ty k fields is_fields leaf.prov
  for =
      let law = (lawful plan.program agreed.1 typed).provenances in
      serves types con.ty k fields is_fields leaf.prov x.root (law.shaped con.ty layout x.number leaf flat_layout x.is_number) x.shallow (law.fits con.ty layout x.number leaf flat_layout x.is_number)

  is_leaf : (vs : List Value) → length vs ≡ length fields → leaf_of layout (Con k vs) ≡ Some x.number
  is_leaf vs n =
      let law = (lawful plan.program agreed.1 typed).provenances in
      let z : 0 + x.number ≡ x.number = omega arith in
      leaf_is layout.leaves (Con k vs) x.number leaf x.is_number (for.matches vs n)
      (λ i y lt h m. x.before i y lt h (roots types y.prov con.ty k vs (law.root con.ty layout i y flat_layout h) m)) 0 ∙ ap Some z

  -- the field at an open position
  field_of_open : (i : ℕ) (o : Open) → slice_get (open_positions types leaf.prov) i ≡ Some o → (j : ℕ) × (h : Held) × (o.path ≡ j ∷ []) × (slice_get hs j ≡ Some h) × (h.ty ≡ o.ty) × (subvalue_at (parts_from 0 hs) o.path ≡ Some h)
  field_of_open i o e =
      let f = for.opens i o (ap (λ (ty : Ty). slice_get (opens_of types leaf.prov ty) i) (sym root) ∙ e) in
      let z : 0 + f.0 ≡ f.0 = omega arith in
      let g = get-map held_type hs f.0 o.ty (ap (λ (ts : List Ty). slice_get ts f.0) kinds ∙ f.2) in
      (f.0, g.0, f.1 ∙ ap (λ n. n ∷ []) z, g.1, sym g.2, ap (subvalue_at (parts_from 0 hs)) f.1 ∙ parts_at hs 0 f.0 g.0 g.1)

  given_fields : (n : ℕ) → AllGiven plan n hs → AreGivenAt plan n (open_positions types leaf.prov) (parts_from 0 hs)
  given_fields n given i o e =
      let f = field_of_open i o e in
      let g = given_at plan n hs given f.0 f.1 f.3 in
      record { held = f.1; is_there = f.5; kind = f.4; below = g.0; count = g.1 ∙ ap (words_needed plan) f.4 }

  held_fields : (clean : Bool) (s : List ℕ) (m : Memory) (vs : List Value) → AreHeld plan clean s m hs vs → ArePartsHeld plan clean s m (open_positions types leaf.prov) (parts_from 0 hs) (Con k vs)
  held_fields clean s m vs held i o e =
      let f = field_of_open i o e in
      let h = held_at plan clean s m hs vs held f.0 f.1 f.3 in
      record {
        held = f.1;
        is_there = f.5;
        part = h.0;
        is_part = ap (part_at (Con k vs)) f.2 ∙ ap (λ us. slice_get us f.0) (subs-Con k vs) ∙ h.1;
        represents = subst (λ ty. Rep plan m clean ty h.0 (slots_at s f.1.slots)) f.4 h.2;
      }

  pub alone_constructs : (shown : List Pat) (old new : Sheet) (slots : List ℕ) → AllGiven plan old.slots hs → MakesLeaf leaf (parts_from 0 hs) old new slots
      → IsConstructed plan con hs shown old new (record { ty = Named con.ty; slots = slots })
  alone_constructs shown old new slots given makes =
      let made = makes plan typed agreed con.ty x.number layout is_layout x.is_number (given_fields old.slots given) in
      record {
        kind = refl;
        adds = made.adds;
        given = made.given;
        count = made.count;
        fresh = made.fresh;
        does = λ clean vs as_shown final callee next law agrees s w long good held.
            let v = Con k vs in
            let many : length vs ≡ length fields = held_many plan clean s w.memory hs vs held ∙ sym (length-map hs held_type) ∙ ap length kinds in
            let out = next (length old.code) s w in
            let Ok = λ (u : Value) (w' : World). Comes plan clean out next (length new.code) old.slots (Named con.ty) slots s u w' × (blocks_of plan.layouts con.ty v ≡ [] → w'.memory ≡ w.memory) in
            ends_map (lay w.memory.limit w.memory.next (blocks_of plan.layouts con.ty v)) v w.left (w.switches + choose_of plan.layouts con.ty k) w.switches out out w.memory Ok Ok refl (omega arith)
            (λ w1 q. (w1, refl, refl, omega arith, q))
            (made.does clean v (is_leaf vs many) final callee next law agrees s w long good (held_fields clean s w.memory vs held));
      }

-- Looking for it -----------------------------------------------------------------------------------

pub none_more : (con : ℕ) (leaves : List Leaf) (n : ℕ) (leaf : Leaf) → slice_get leaves n ≡ Some leaf → is_leaf_for con leaf ≡ false → NoneFor con leaves n → NoneFor con leaves (n + 1)
none_more con leaves n leaf at other none i x lt e f = elim (below_or i n) [
  | inl less ↦ none i x less e f
  | inr le ↦
      let same : i ≡ n = omega (arith, lt, le) in
      let is : leaf ≡ x = same_Some leaf x (sym at ∙ ap (slice_get leaves) (sym same) ∙ e) in
      let z = sym other ∙ ap (is_leaf_for con) is ∙ f in cc
]

pub alone_is : (con : ℕ) (leaves : List Leaf) (n : ℕ) (leaf : Leaf) → slice_get leaves n ≡ Some leaf → is_leaf_for con leaf ≡ true → inner_heads leaf ≡ [] → NoneFor con leaves n → IsAlone con leaves leaf
alone_is con leaves n leaf at root shallow none = record { number = n; is_number = at; root = root; shallow = shallow; before = none }
