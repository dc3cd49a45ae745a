-- The fields of a part whose leaf is known, as parts of the whole value.
use Rattle.std.proofs.Common.{◌≡◌, ℕ, zero, suc, ◌+◌, ◌≤◌, ◌==◌, map, length, take, List, [], ◌∷◌, ◌++◌, Bool, true, Option, Some, None, refl, sym, subst, ap, ◌∙◌, arith}
use Rattle.std.specs.Prelude.{slice_get}
use Rattle.std.specs.List.{sum_by}
use Rattle.std.proofs.lemmas.Bool.{and_parts}
use Rattle.std.proofs.lemmas.Option.{same_Some}
use Rattle.std.proofs.lemmas.List.{append-nil}
use Rattle.rb_core.specs.declared.value.Value.{Value, out-Value, roll-Value, roll-out-Value}
use Rattle.rb_core.specs.declared.value.Value as Values
use Rattle.rb_core.specs.declared.value.Value.TheOpen as V
use Rattle.rb_core.specs.declared.value.Value.TheOpen.{Value-F}
use Rattle.rb_core.specs.declared.types.Ty.{Ty}
use Rattle.rb_core.specs.declared.types.Ty.TheVariants.{Int, Named}
use Rattle.rb_core.specs.declared.types.ConRef.{ConRef}
use Rattle.rb_core.specs.declared.types.DataDecl.{DataDecl}
use Rattle.rb_core.specs.declared.pattern.Pat.{Pat, Con, out-Pat}
use Rattle.rb_core.specs.declared.pattern.Pat.TheVariants.{outs-Con}
use Rattle.rb_core.specs.Matching.{matches_of, is_con, all_pass}
use Rattle.rb_core.specs.TypedPrograms.{IsTyped}
use Rattle.rb_core.specs.Values.{all_of_types, are_of, fields_in, fields_of, is_of_type, part_at, part_from, subs, subs_in}
use Rattle.rb_core.proofs.MatchingForms.{matches-Con}
use Rattle.rb_core.proofs.ValueLaws.{is_of_type-Con}
use Rattle.rb_bytes.specs.Memory.{Memory, IsGood}
use Rattle.rb_target.specs.Growth.{Nowhere}
use Rattle.rb_target.specs.Meaning.{slots_at}
use Rattle.rb_target.specs.Sheet.{Sheet}
use Rattle.rb_layout.specs.declared.agreed.LaidOut.{LaidOut}
use Rattle.rb_layout.specs.declared.layout.Layout.{Layout}
use Rattle.rb_layout.specs.declared.layout.Leaf.{Leaf}
use Rattle.rb_layout.specs.Agreement.{Agrees, AreAgreed}
use Rattle.rb_layout.specs.Flattening.{flat_layouts}
use Rattle.rb_layout.specs.Positions.{layout_of, leaf_of, root_type, types_or_none}
use Rattle.rb_rel.specs.Switches.{choose_of, mend_leaf}
use Rattle.rb_rel.proofs.Reading.{same_nat}
use Rattle.rb_fragment.specs.declared.held.Held.{Held}
use Rattle.rb_fragment.specs.Holding.{AreHeld, held_type}
use Rattle.rb_fragment.specs.Pieces.{AtEnd, CodePiece}
use Rattle.rb_fragment.specs.Plan.{Plan, Rep, words_needed}
use Rattle.rb_fragment.specs.Slots.{AllBelow}
use Rattle.rb_fragment.proofs.Pieces.{piece_none, piece_weaken}
use Rattle.rb_fragment.proofs.Adding.{Adds-refl}
use Rattle.rb_compose.specs.declared.subvalue.Subvalue.{Subvalue}
use Rattle.rb_fetch.specs.Finding.{IsPlanOf, leaf_within}
use Rattle.rb_fetch.specs.Positions.{PositionAt, mend_under}
use Rattle.rb_fetch.specs.inner.Choosing.{FetchesFields, HasParts, AreInnerWords, PartsGiven, PartsHold, parts_under}
use Rattle.rb_fetch.specs.inner.Fields.{leaf_at}
use Rattle.rb_fetch.specs.inner.Rebuilding.{FetchesParts, IsRootLayer, PartsAreFetched}
use Rattle.rb_fetch.proofs.Chosen.{matched_leaf}
use Rattle.rb_fetch.proofs.Choices.{given_each, held_each, typed_each}
use Rattle.rb_fetch.proofs.Constructors.{part-append}
use Rattle.rb_fetch.proofs.Finding.{of_plan}
use Rattle.rb_fetch.proofs.Positions.{mend_fields, root_is}

-- a part is a field
record IsFieldPart (path : List ℕ) (i : ℕ) (hs : List Held) (x : Subvalue) : Type 0 where
  number : ℕ
  held : Held
  is_held : slice_get hs number ≡ Some held
  is_part : x ≡ record { path = path ++ (i + number) ∷ []; held = held }

field_part : (path : List ℕ) (i : ℕ) (hs : List Held) (k : ℕ) (x : Subvalue) → slice_get (parts_under path i hs) k ≡ Some x → IsFieldPart path i hs x
field_part path i [] k x e = absurd cc
field_part path i (h ∷ hs) zero x e =
    let z : i ≡ i + 0 = omega arith in
    record { number = 0; held = h; is_held = refl; is_part = sym (same_Some _ x e) ∙ ap (λ n. let q : Subvalue = record { path = path ++ n ∷ []; held = h } in q) z }
field_part path i (h ∷ hs) (suc k) x e =
    let r = field_part path (i + 1) hs k x e in
    let z : i + 1 + r.number ≡ i + suc r.number = omega arith in
    record { number = suc r.number; held = r.held; is_held = r.is_held; is_part = r.is_part ∙ ap (λ n. let q : Subvalue = record { path = path ++ n ∷ []; held = r.held } in q) z }

take-all : {A : Type 0} (n : ℕ) (xs : List A) → length xs ≤ n → take n xs ≡ xs
take-all zero [] le = refl
take-all (suc n) [] le = refl
take-all zero (x ∷ xs) le = absurd (omega (arith, le))
take-all (suc n) (x ∷ xs) le = ap (λ ys. x ∷ ys) (take-all n xs (omega (arith, le)))

pub take-left : {A : Type 0} (xs ys : List A) → take (length xs) (xs ++ ys) ≡ xs
take-left [] ys = refl
take-left (x ∷ xs) ys = ap (λ zs. x ∷ zs) (take-left xs ys)

passed : (ps : List Pat) (vs : List Value) → all_pass (map matches_of ps) vs ≡ true → length ps ≡ length vs
passed [] [] e = refl
passed [] (v ∷ vs) e = absurd cc
passed (p ∷ ps) [] e = absurd cc
passed (p ∷ ps) (v ∷ vs) e = ap suc (passed ps vs (and_parts (matches_of p v) (all_pass (map matches_of ps) vs) e).1)

as_many : (types : List DataDecl) (vs : List Value) (ts : List Ty) → all_of_types (map (is_of_type types) vs) ts ≡ true → length vs ≡ length ts
as_many types [] [] e = refl
as_many types [] (t ∷ ts) e = absurd cc
as_many types (v ∷ vs) [] e = absurd cc
as_many types (v ∷ vs) (t ∷ ts) e = ap suc (as_many types vs ts (and_parts (is_of_type types v t) (all_of_types (map (is_of_type types) vs) ts) e).1)

made-roll : (k : ℕ) (us : List Value) → roll-Value (V.Con k us) ≡ Values.Con k us
unfolding roll-Value denote.Hole.Carrier.roll
made-roll k us = refl

-- a value of a type that a constructor's pattern matches
record IsMade (types : List DataDecl) (c : ConRef) (ps : List Pat) (u : Value) : Type 0 where
  typed : all_of_types (map (is_of_type types) (subs u)) (types_or_none (fields_of types c)) ≡ true
  many : length ps ≡ length (subs u)

made : (types : List DataDecl) (at : ℕ) (c : ConRef) (ps : List Pat) (u : Value) → is_of_type types u (Named c.ty) ≡ true → matches_of (Con at c ps) u ≡ true → IsMade types c ps u
made types at c ps u of m = go (out-Value u) refl (sym (matches-Con u at c ps) ∙ m)
  where
    rolled : (k : ℕ) (us : List Value) → u ≡ roll-Value (V.Con k us) → is_of_type types u (Named c.ty) ≡ are_of (map (is_of_type types) us) (fields_in (slice_get types c.ty) k)
    rolled k us e = ap (λ w. is_of_type types w (Named c.ty)) (e ∙ made-roll k us) ∙ is_of_type-Con types k us (Named c.ty)

    some_types : (us : List Value) (o : Option (List Ty)) → are_of (map (is_of_type types) us) o ≡ true → all_of_types (map (is_of_type types) us) (types_or_none o) ≡ true
    some_types us None e = absurd cc
    some_types us (Some ts) e = e

    go : (lv : Value-F Value) → out-Value u ≡ lv → is_con c.con (map matches_of ps) lv ≡ true → IsMade types c ps u
    go (V.Num n) e m1 = absurd cc
    go (V.Con k us) e m1 =
        let b = and_parts (c.con == k) (all_pass (map matches_of ps) us) m1 in
        let same : c.con ≡ k = same_nat c.con k b.0 in
        let subs_are : subs u ≡ us = ap subs_in e in
        let of1 : are_of (map (is_of_type types) us) (fields_of types c) ≡ true = ap (λ n. are_of (map (is_of_type types) us) (fields_in (slice_get types c.ty) n)) same ∙ sym (rolled k us (sym (roll-out-Value u) ∙ ap roll-Value e)) ∙ of in
        record {
          typed = ap (λ ws. all_of_types (map (is_of_type types) ws) (types_or_none (fields_of types c))) subs_are ∙ some_types us (fields_of types c) of1;
          many = passed ps us b.1 ∙ ap length (sym subs_are);
        }

module _ (agreed : LaidOut) (typed : IsTyped agreed.covered.program) (flat : agreed.layouts ≡ flat_layouts agreed.covered.program) (agrees : Agrees agreed.covered.program) (path : List ℕ) (ty : ℕ) (l : ℕ) (words : List ℕ)
    (old new : Sheet) (xs ys : List Subvalue) (found : Leaf) (is_found : leaf_at agreed.layouts ty l ≡ Some found) (at : ℕ) (root : ConRef) (ps : List Pat) (is_root : found.prov ≡ Con at root ps) (hs : List Held)
    (more : ys ≡ xs ++ parts_under path 0 hs) (fetches : FetchesParts agreed ty l root ps (length ps) [] words old new hs) where
  module _ (plan : Plan) (inner : Layout) (leaf : Leaf) (of : IsPlanOf agreed plan) (read : AreInnerWords plan ty inner words old.slots) (is_leaf : slice_get inner.leaves l ≡ Some leaf) where
    same_leaf : found ≡ leaf
    same_leaf = same_Some found leaf (sym is_found ∙ ap (λ o. leaf_within o l) (ap (λ ls. layout_of ls ty) (sym of.layouts) ∙ read.is_inner) ∙ is_leaf)

    prov : leaf.prov ≡ Con at root ps
    prov = ap (λ (y : Leaf). y.prov) (sym same_leaf) ∙ is_root

    abbrev position : PositionAt plan ty l [] (Named ty)
    position = record { layout = inner; leaf = leaf; pat = leaf.prov; is_layout = read.is_inner; is_leaf = is_leaf; is_position = refl }

    got : (length hs ≡ length ps) × PartsAreFetched plan ty l inner root ps [] words old new hs
    got = fetches plan of at (Named ty) position prov read.below read.count

    abbrev sound : IsTyped plan.program × AreAgreed plan.program plan.layouts
    sound = of_plan agreed typed flat agrees ty plan of

    root_type_is : root.ty ≡ ty
    root_type_is =
        let r : root_type (out-Pat leaf.prov) ≡ Named ty = root_is plan sound.0 sound.1 ty l inner leaf read.is_inner is_leaf in
        let e : Named root.ty ≡ Named ty = ap root_type (sym (outs-Con at root ps)) ∙ ap (λ p. root_type (out-Pat p)) (sym prov) ∙ r in
        same_Some root.ty ty (ap number_of e)
      where
        number_of : Ty → Option ℕ
        number_of (Named t) = Some t
        number_of (Int bits) = None

    module _ (v u : Value) (at_u : part_at v path ≡ Some u) (of_u : is_of_type plan.program.types u (Named ty) ≡ true) (is : leaf_of inner u ≡ Some l) where
      u_made : IsMade plan.program.types root ps u
      u_made =
          made plan.program.types at root ps u (ap (λ t. is_of_type plan.program.types u (Named t)) root_type_is ∙ of_u)
          (ap (λ p. matches_of p u) (sym prov) ∙ matched_leaf inner u l leaf is is_leaf)

      abbrev fields : List Ty
      fields = types_or_none (fields_of plan.program.types root)

      few : length fields ≤ length hs
      few = let a = got.0 in let b = u_made.many in let c = as_many plan.program.types (subs u) fields u_made.typed in omega (arith, a, b, c)

      kinds : map held_type hs ≡ fields
      kinds = got.1.kinds ∙ take-all (length hs) fields few

      z_of : (n : ℕ) → 0 + n ≡ n
      z_of n = omega arith

      -- the part at a field
      part_is : (x : Subvalue) (a : IsFieldPart path 0 hs x) (w : Value) → slice_get (subs u) a.number ≡ Some w → part_at v x.path ≡ Some w
      part_is x a w e =
          ap (λ (y : Subvalue). part_at v y.path) a.is_part ∙ ap (λ n. part_at v (path ++ n ∷ [])) (z_of a.number)
          ∙ part-append (Some v) path (a.number ∷ []) ∙ ap (λ o. part_from o (a.number ∷ [])) at_u ∙ e

      has_parts : HasParts plan.program.types v (parts_under path 0 hs)
      has_parts k x e =
          let a = field_part path 0 hs k x e in
          let t = typed_each plan.program.types (subs u) fields hs a.number a.held kinds u_made.typed a.is_held in
          (t.0, part_is x a t.0 t.1, ap (λ (y : Subvalue). is_of_type plan.program.types t.0 y.held.ty) a.is_part ∙ t.2)

      hold_parts : (clean : Bool) (s : List ℕ) (m : Memory) → AreHeld plan clean s m hs (subs u) → PartsHold plan clean v s m (parts_under path 0 hs)
      hold_parts clean s m held k x e w at_w =
          let a = field_part path 0 hs k x e in
          let t = typed_each plan.program.types (subs u) fields hs a.number a.held kinds u_made.typed a.is_held in
          let same : t.0 ≡ w = same_Some t.0 w (sym (part_is x a t.0 t.1) ∙ at_w) in
          let rep = held_each plan clean s m hs (subs u) a.number a.held t.0 held a.is_held t.1 in
          subst (λ (y : Subvalue). Rep plan m clean y.held.ty w (slots_at s y.held.slots)) (sym a.is_part) (subst (λ y. Rep plan m clean a.held.ty y (slots_at s a.held.slots)) same rep)

      goes : (clean : Bool) → CodePiece plan old.slots old new Nowhere (mend_leaf (choose_of plan.layouts) leaf) (λ s1 m. IsGood m × Rep plan m clean (Named ty) u (slots_at s1 words))
          (AtEnd new (λ s1 m. PartsHold plan clean v s1 m (parts_under path 0 hs)))
      goes clean =
          let many : length hs ≤ length (subs u) = let a = got.0 in let b = u_made.many in omega (arith, a, b) in
          let all_vs : take (length hs) (subs u) ≡ subs u = take-all (length hs) (subs u) (let a = got.0 in let b = u_made.many in omega (arith, a, b)) in
          let all_ps : take (length hs) ps ≡ ps = take-all (length hs) ps (let a = got.0 in omega (arith, a)) in
          let cost : sum_by (mend_under plan.layouts) (take (length hs) ps) ≡ mend_leaf (choose_of plan.layouts) leaf = ap (sum_by (mend_under plan.layouts)) all_ps ∙ sym (mend_fields plan.layouts leaf at root ps prov) in
          let p = got.1.runs clean u u is refl many in
          let Pre : List ℕ → Memory → Type 0 = λ s1 m. IsGood m × Rep plan m clean (Named ty) u (slots_at s1 words) in
          piece_weaken plan old.slots old.slots old new Nowhere (sum_by (mend_under plan.layouts) (take (length hs) ps)) (mend_leaf (choose_of plan.layouts) leaf) Pre Pre
          (AtEnd new (λ s1 m. AreHeld plan clean s1 m hs (take (length hs) (subs u)))) (AtEnd new (λ s1 m. PartsHold plan clean v s1 m (parts_under path 0 hs))) (omega arith) (omega (arith, cost)) (λ s1 m x. x)
          (λ pc s1 m x. (x.0, hold_parts clean s1 m (subst (λ ws. AreHeld plan clean s1 m hs ws) all_vs x.1))) p

    given_parts : PartsGiven plan new.slots (parts_under path 0 hs)
    given_parts k x e =
        let a = field_part path 0 hs k x e in
        let g = given_each plan new.slots hs a.number a.held got.1.given a.is_held in
        subst (λ (y : Subvalue). AllBelow new.slots y.held.slots × (length y.held.slots ≡ words_needed plan y.held.ty)) (sym a.is_part) g

  pub fetches_fields : FetchesFields agreed path ty l words old new xs ys
  fetches_fields plan inner leaf of read is_leaf = record {
    adds = (got plan inner leaf of read is_leaf).1.adds;
    fresh = parts_under path 0 hs;
    more = more;
    given = given_parts plan inner leaf of read is_leaf;
    parts = λ v u at_u of_u is. has_parts plan inner leaf of read is_leaf v u at_u of_u is;
    does = λ v u at_u of_u is clean. goes plan inner leaf of read is_leaf v u at_u of_u is clean;
  }

-- the same for the constructor at the root of the leaf's provenance
pub layer_fetches : (agreed : LaidOut) (path : List ℕ) (ty l : ℕ) (words : List ℕ) (old new : Sheet) (xs ys : List Subvalue) (root : ConRef) (ps : List Pat) → IsRootLayer agreed ty l root ps → (hs : List Held)
    → ys ≡ xs ++ parts_under path 0 hs → FetchesParts agreed ty l root ps (length ps) [] words old new hs → FetchesFields agreed path ty l words old new xs ys
layer_fetches agreed path ty l words old new xs ys root ps is hs more fetches =
    fetches_fields agreed is.sound.typed is.sound.flat is.sound.agrees path ty l words old new xs ys is.leaf is.is_leaf is.at root ps is.is_root hs more fetches

-- fields that are not needed are not fetched
pub fetches_none : (agreed : LaidOut) (path : List ℕ) (ty : ℕ) (l : ℕ) (words : List ℕ) (old : Sheet) (xs : List Subvalue) → FetchesFields agreed path ty l words old old xs xs
fetches_none agreed path ty l words old xs plan inner leaf of read is_leaf = record {
  adds = Adds-refl plan old;
  fresh = [];
  more = sym (append-nil xs);
  given = λ k x e. absurd cc;
  parts = λ v u at of_u is k x e. absurd cc;
  does = λ v u at of_u is clean.
      let Pre : List ℕ → Memory → Type 0 = λ s1 m. IsGood m × Rep plan m clean (Named ty) u (slots_at s1 words) in
      let Post : List ℕ → Memory → Type 0 = λ s1 m. PartsHold plan clean v s1 m [] in
      piece_weaken plan old.slots old.slots old old Nowhere 0 (mend_leaf (choose_of plan.layouts) leaf) Pre Pre (AtEnd old Post) (AtEnd old Post) (omega arith) (omega arith) (λ s1 m x. x) (λ pc s1 m x. x)
      (piece_none plan old.slots old Pre Post (omega arith) (λ s1 m x k y e. absurd cc));
}
