-- The open positions of a provenance stand from left to right.
use Rattle.std.proofs.Common.{◌≡◌, ℕ, ◌+◌, ◌<◌, inl, inr, List, [], ◌∷◌, ◌++◌, map, refl, sym, ap, subst, arith}
use Rattle.std.specs.Prelude.{◌≤◌, Some, slice_get}
use Rattle.std.proofs.lemmas.Option.{slice_get_within}
use Rattle.rb_core.specs.declared.types.Ty.{Ty}
use Rattle.rb_core.specs.declared.types.ConRef.{ConRef}
use Rattle.rb_core.specs.declared.types.DataDecl.{DataDecl}
use Rattle.rb_core.specs.declared.pattern.Pat.{Pat, Wild, Var, Num, Con, out-Pat}
use Rattle.rb_core.specs.Values.{fields_of}
use Rattle.rb_core.proofs.PatternLaws.{fold-Wild, fold-Var, fold-Num, fold-Con, Each, induction}
use Rattle.rb_layout.specs.Positions.{Open, below, opens_below, opens_of, opens_step, types_or_none, root_type, IsLeftOf, AreFromLeft, OpensAreFromLeft}
use Rattle.rb_layout.proofs.Blocks.{Either, get_either}
use Rattle.rb_layout.proofs.FlatLaws.{mapped}

-- all of some stand to the left of all of others
abbrev AllLeft : List Open → List Open → Type 0
AllLeft xs ys = (j k : ℕ) (a b : Open) → slice_get xs j ≡ Some a → slice_get ys k ≡ Some b → IsLeftOf a.path b.path

left_either : (xs ys : List Open) → AreFromLeft xs → AreFromLeft ys → AllLeft xs ys → (j k : ℕ) (a b : Open) → j < k → Either xs ys j a → Either xs ys k b → IsLeftOf a.path b.path
left_either xs ys first rest across j k a b lt (inl at) (inl bt) = first j k a b lt at bt
left_either xs ys first rest across j k a b lt (inl at) (inr bt) = across j bt.0 a b at bt.2
left_either xs ys first rest across j k a b lt (inr at) (inl bt) = absurd (omega (arith, lt, at.1, slice_get_within xs k b bt))
left_either xs ys first rest across j k a b lt (inr at) (inr bt) = rest at.0 bt.0 a b (omega (arith, lt, at.1, bt.1)) at.2 bt.2

left_join : (xs ys : List Open) → AreFromLeft xs → AreFromLeft ys → AllLeft xs ys → AreFromLeft (xs ++ ys)
left_join xs ys first rest across j k a b lt at bt = left_either xs ys first rest across j k a b lt (get_either xs ys j a at) (get_either xs ys k b bt)

left_below : (i : ℕ) (xs : List Open) → AreFromLeft xs → AreFromLeft (map (below i) xs)
left_below i xs left j k a b lt at bt =
    let x = mapped (below i) xs j a at in
    let y = mapped (below i) xs k b bt in
    subst (λ p. IsLeftOf p b.path) (ap (λ (o : Open). o.path) x.2) (subst (λ q. IsLeftOf (i ∷ x.0.path) q) (ap (λ (o : Open). o.path) y.2) (inr (refl, left j k x.0 y.0 lt x.1 y.1)))

module _ (types : List DataDecl) where
  abbrev opens : Pat → Ty → List Open
  opens = opens_of types

  -- positions below begin with a field from i on
  abbrev Begins : ℕ → Open → Type 0
  Begins i o = (n : ℕ) × (q : List ℕ) × (o.path ≡ n ∷ q) × (i ≤ n)

  begins_either : (p : Pat) (t : Ty) (ps : List Pat) (ts : List Ty) (i k : ℕ) (o : Open) → ((j : ℕ) → slice_get (opens_below (map opens ps) ts (i + 1)) j ≡ Some o → Begins (i + 1) o)
      → Either (map (below i) (opens p t)) (opens_below (map opens ps) ts (i + 1)) k o → Begins i o
  begins_either p t ps ts i k o rest (inl at) =
      let x = mapped (below i) (opens p t) k o at in
      (i, x.0.path, sym (ap (λ (y : Open). y.path) x.2), omega arith)
  begins_either p t ps ts i k o rest (inr at) =
      let r = rest at.0 at.2 in
      (r.0, r.1, r.2, omega (arith, r.3))

  begins : (ps : List Pat) (ts : List Ty) (i k : ℕ) (o : Open) → slice_get (opens_below (map opens ps) ts i) k ≡ Some o → Begins i o
  begins [] ts i k o e = absurd cc
  begins (p ∷ ps) [] i k o e = absurd cc
  begins (p ∷ ps) (t ∷ ts) i k o e =
      begins_either p t ps ts i k o (λ j h. begins ps ts (i + 1) j o h) (get_either (map (below i) (opens p t)) (opens_below (map opens ps) ts (i + 1)) k o e)

  field_left : (p : Pat) (t : Ty) (ps : List Pat) (ts : List Ty) (i : ℕ) → AllLeft (map (below i) (opens p t)) (opens_below (map opens ps) ts (i + 1))
  field_left p t ps ts i j k a b at bt =
      let x = mapped (below i) (opens p t) j a at in
      let y = begins ps ts (i + 1) k b bt in
      subst (λ q. IsLeftOf q b.path) (ap (λ (o : Open). o.path) x.2) (subst (λ q. IsLeftOf (i ∷ x.0.path) q) (sym y.2) (inl (omega (arith, y.3))))

  none_left : AreFromLeft []
  none_left j k a b lt at bt = absurd cc

  abbrev FromLeft : Pat → Type 0
  FromLeft p = (ty : Ty) → AreFromLeft (opens p ty)

  fields_left : (ps : List Pat) → Each FromLeft ps → (ts : List Ty) (i : ℕ) → AreFromLeft (opens_below (map opens ps) ts i)
  fields_left [] each ts i = none_left
  fields_left (p ∷ ps) each [] i = none_left
  fields_left (p ∷ ps) each (t ∷ ts) i =
      left_join (map (below i) (opens p t)) (opens_below (map opens ps) ts (i + 1)) (left_below i (opens p t) (each.0 t)) (fields_left ps each.1 ts (i + 1)) (field_left p t ps ts i)

  one_left : (o : Open) → AreFromLeft (o ∷ [])
  one_left o j k a b lt at bt = absurd (omega (arith, lt, slice_get_within (o ∷ []) k b bt))

  abbrev by_form : (p : Pat) (step : Ty → List Open) → opens p ≡ step → ((ty : Ty) → AreFromLeft (step ty)) → FromLeft p
  by_form p step e left ty = subst (λ (f : Ty → List Open). AreFromLeft (f ty)) (sym e) (left ty)

  at_con : (at : ℕ) (c : ConRef) (ps : List Pat) → Each FromLeft ps → FromLeft (Con at c ps)
  at_con at c ps each = by_form (Con at c ps) _ (fold-Con (Ty → List Open) (opens_step types) at c ps) (λ ty. fields_left ps each (types_or_none (fields_of types c)) 0)

  pub from_left : (p : Pat) → FromLeft p
  from_left p = induction FromLeft (record {
    wild = λ at. by_form (Wild at) _ (fold-Wild (Ty → List Open) (opens_step types) at) (λ ty. one_left (record { path = []; ty = ty }));
    var = λ at x. by_form (Var at x) _ (fold-Var (Ty → List Open) (opens_step types) at x) (λ ty. one_left (record { path = []; ty = ty }));
    num = λ at n. by_form (Num at n) _ (fold-Num (Ty → List Open) (opens_step types) at n) (λ ty. none_left);
    con = at_con;
  }) p

pub opens_are_from_left : OpensAreFromLeft
opens_are_from_left types prov = from_left types prov (root_type (out-Pat prov))
