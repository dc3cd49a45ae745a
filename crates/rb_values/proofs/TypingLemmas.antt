-- What is kept of a state goes with it, sign by sign.
use Rattle.std.proofs.Common.{◌≡◌, ◌≢◌, ℕ, suc, ◌+◌, ◌-◌, ◌≤◌, ◌==◌, List, [], ◌∷◌, ◌++◌, length, take, drop, get_or, refl, arith, ◌∙◌, ap, sym, append_assoc, length-append, true, false, Option, Some, None, slice_get}
use Rattle.std.specs.Prelude.{unwrap_or}
use Rattle.std.proofs.lemmas.Grind.{common_steps}
use Rattle.std.proofs.lemmas.List.{append-nil}
use Rattle.std.proofs.lemmas.Bool.Decides.{nat_tests}
use Rattle.rb_core.specs.declared.value.Value.{Value, Num}
use Rattle.rb_core.specs.declared.value.Value as val
use Rattle.rb_core.specs.declared.types.Ty.{Ty}
use Rattle.rb_core.specs.declared.types.ConRef.{ConRef}
use Rattle.rb_core.specs.declared.types.DataDecl.{DataDecl}
use Rattle.rb_core.specs.Typing.{type_holds}
use Rattle.rb_values.specs.declared.typing.Frame.{Frame}
use Rattle.rb_values.specs.declared.sign.Sign.TheVariants as sign
use Rattle.rb_values.specs.Terms.{Term, Terms, number, build, none, also, term_count}
use Rattle.rb_values.specs.Fitting.{con_named, con_fields, con_number, misfits, misfits_each, first, value_of, values_of}
use Rattle.rb_values.specs.inner.States.{Wait, snoc, waits, longer, whole, State, expecting, named, complete, then_on, step}
use Rattle.rb_values.specs.inner.Typing.{con_at, field_at, misfits_at, value_at, fields_misfits, wait_misfits, wait_values, is_clean, next_type, faults, values_of_waits, frame_of, frames_of, state_faults, state_values, state_name, IsTypedAs, IsClosing, settled_state}

-- Lists ------------------------------------------------------------------------------------------

first-some : (xs ys : List ℕ) (p : ℕ) → first xs ≡ Some p → first (xs ++ ys) ≡ Some p
first-some [] ys p e = cc
first-some (x ∷ xs) ys p e = e

first-none : (xs ys : List ℕ) → first xs ≡ None → first (xs ++ ys) ≡ first ys
first-none [] ys e = refl
first-none (x ∷ xs) ys e = cc

first-front : (xs ys : List ℕ) → first (xs ++ ys) ≡ None → first xs ≡ None
first-front [] ys e = refl
first-front (x ∷ xs) ys e = cc

not-one : (xs : List ℕ) (a : ℕ) → first (xs ++ a ∷ []) ≡ None → ⊥
not-one [] a e = cc
not-one (x ∷ xs) a e = cc

some-none : (p : ℕ) → ◌≡◌ {A = Option ℕ} (Some p) None → ⊥
some-none p e = cc

clean-none : (f : Option ℕ) → is_clean f ≡ true → f ≡ None
clean-none None e = refl
clean-none (Some p) e = cc

clean-some : (f : Option ℕ) → is_clean f ≡ false → (p : ℕ) × (f ≡ Some p)
clean-some None e = cc
clean-some (Some p) e = (p, refl)

back-get : (xs : List Frame) (f d : Frame) → get_or (xs ++ f ∷ []) (length xs) d ≡ f
back-get [] f d = refl
back-get (x ∷ xs) f d = back-get xs f d

last-get : (xs : List Frame) (f d : Frame) (i : ℕ) → i + 1 ≡ length (xs ++ f ∷ []) → get_or (xs ++ f ∷ []) i d ≡ f
last-get xs f d i h = let l : i ≡ length xs = omega (arith, h, length-append xs (f ∷ [])) in rw l (back-get xs f d)

some-length : (xs : List Frame) (f : Frame) → length (xs ++ f ∷ []) ≡ 0 → ⊥
some-length xs f h = omega (arith, h, length-append xs (f ∷ []))

same-last : (xs ys : List Frame) (f g : Frame) → xs ++ f ∷ [] ≡ ys ++ g ∷ [] → (xs ≡ ys) × (f ≡ g)
same-last [] [] f g e = (refl, cc)
same-last [] (y ∷ ys) f g e = let t : [] ≡ ys ++ g ∷ [] = cc in absurd (some-length ys g (ap length (sym t)))
same-last (x ∷ xs) [] f g e = let t : xs ++ f ∷ [] ≡ [] = cc in absurd (some-length xs f (ap length t))
same-last (x ∷ xs) (y ∷ ys) f g e =
    let h : x ≡ y = cc in
    let t : xs ++ f ∷ [] ≡ ys ++ g ∷ [] = cc in
    let r = same-last xs ys f g t in
    (let q = r.0 in cc, r.1)

front-of : (bs ws : List Value) (n : ℕ) → length ws ≡ n → take (length (bs ++ ws) - n) (bs ++ ws) ≡ bs
front-of bs ws n h = let l : length (bs ++ ws) - n ≡ length bs = omega (arith, h, length-append bs ws) in rw l (grind (arith, common_steps))

behind-of : (bs ws : List Value) (n : ℕ) → length ws ≡ n → drop (length (bs ++ ws) - n) (bs ++ ws) ≡ ws
behind-of bs ws n h = let l : length (bs ++ ws) - n ≡ length bs = omega (arith, h, length-append bs ws) in rw l (grind (arith, common_steps))

-- Fields -----------------------------------------------------------------------------------------

count-snoc : (us : Terms) (t : Term) → term_count (snoc us t) ≡ suc (term_count us)
count-snoc none t = refl
count-snoc (also u us) t = ap (λ (n : ℕ). suc n) (count-snoc us t)

module _ (types : List DataDecl) where
  misfits-nil : (ts : Terms) → misfits_each types ts [] ≡ []
  misfits-nil none = refl
  misfits-nil (also t ts) = refl

  values-nil : (ts : Terms) → values_of types ts [] ≡ []
  values-nil none = refl
  values-nil (also t ts) = refl

  misfits-snoc : (us : Terms) (t : Term) (tys : List Ty) → misfits_each types (snoc us t) tys ≡ misfits_each types us tys ++ misfits_at types (slice_get tys (term_count us)) t
  misfits-snoc none t [] = refl
  misfits-snoc none t (ty ∷ tys) = append-nil (misfits types t ty)
  misfits-snoc (also u us) t [] = refl
  misfits-snoc (also u us) t (ty ∷ tys) =
      ap (λ (l : List ℕ). misfits types u ty ++ l) (misfits-snoc us t tys)
      ∙ sym (append_assoc (misfits types u ty) (misfits_each types us tys) (misfits_at types (slice_get tys (term_count us)) t))

  values-snoc : (us : Terms) (t : Term) (tys : List Ty) → values_of types (snoc us t) tys ≡ values_of types us tys ++ value_at types (slice_get tys (term_count us)) t
  values-snoc none t [] = refl
  values-snoc none t (ty ∷ tys) = refl
  values-snoc (also u us) t [] = refl
  values-snoc (also u us) t (ty ∷ tys) = ap (λ (l : List Value). value_of types u ty ∷ l) (values-snoc us t tys)

  values-length : (ts : Terms) (tys : List Ty) → length tys ≡ term_count ts → length (values_of types ts tys) ≡ term_count ts
  values-length none [] h = refl
  values-length none (ty ∷ tys) h = refl
  values-length (also t ts) [] h = absurd (omega arith)
  values-length (also t ts) (ty ∷ tys) h = ap (λ (n : ℕ). suc n) (values-length ts tys (omega (arith, h)))

  -- one more field of a name
  fields-snoc : (e : Option (List Ty)) (at : ℕ) (us : Terms) (t : Term) →
      fields_misfits at (misfits_each types (snoc us t)) e ≡ fields_misfits at (misfits_each types us) e ++ misfits_at types (field_at e (term_count us)) t
  fields-snoc None at us t = refl
  fields-snoc (Some tys) at us t = misfits-snoc us t tys

  wait-snoc : (e : Option Ty) (o : Wait) (t : Term) →
      wait_misfits types e (longer o t) ≡ wait_misfits types e o ++ misfits_at types (field_at (con_fields types (con_at types e o.name)) (term_count o.fields)) t
  wait-snoc None o t = refl
  wait-snoc (Some ty) o t = fields-snoc (con_fields types (con_named types ty o.name)) o.at o.fields t

  built-snoc : (e : Option (List Ty)) (us : Terms) (t : Term) → values_of types (snoc us t) (unwrap_or e []) ≡ values_of types us (unwrap_or e []) ++ value_at types (field_at e (term_count us)) t
  built-snoc None us t = rw (values-nil (snoc us t), values-nil us) refl
  built-snoc (Some tys) us t = values-snoc us t tys

  -- a name whose fields are all there: its type has no such constructor; or one with so many fields; or one with others
  none-misfits : (e : Option Ty) (o : Wait) → None ≡ con_fields types (con_at types e o.name) → wait_misfits types e o ≡ misfits_at types e (whole o)
  none-misfits None o h = refl
  none-misfits (Some ty) o h = rw (← h) refl

  none-values : (e : Option Ty) (o : Wait) (fs : List ℕ) → None ≡ con_fields types (con_at types e o.name) → first (fs ++ wait_misfits types e o) ≡ None
      → wait_values types e o ≡ value_at types e (whole o)
  none-values None o fs h z = values-nil o.fields
  none-values (Some ty) o fs h z = absurd (not-one fs o.at (rw (← h) at z))

  right-misfits : (e : Option Ty) (o : Wait) (tys : List Ty) → Some tys ≡ con_fields types (con_at types e o.name) → length tys ≡ term_count o.fields
      → wait_misfits types e o ≡ misfits_at types e (whole o)
  right-misfits None o tys h l = cc
  right-misfits (Some ty) o tys h l =
      let t : (term_count o.fields == length tys) ≡ true = rw l (same (term_count o.fields)) in rw (← h, t) refl
    where
      same : (n : ℕ) → (n == n) ≡ true
      same n = grind (arith, nat_tests)

  right-value : (e : Option Ty) (o : Wait) (tys : List Ty) → Some tys ≡ con_fields types (con_at types e o.name)
      → value_at types e (whole o) ≡ val.Con (con_number (con_at types e o.name)) (wait_values types e o) ∷ []
  right-value None o tys h = cc
  right-value (Some ty) o tys h = refl

  right-count : (e : Option Ty) (o : Wait) (tys : List Ty) → Some tys ≡ con_fields types (con_at types e o.name) → length tys ≡ term_count o.fields
      → length (wait_values types e o) ≡ term_count o.fields
  right-count e o tys h l = rw (← h) (values-length o.fields tys l)

  wrong-misfits : (e : Option Ty) (o : Wait) (tys : List Ty) → Some tys ≡ con_fields types (con_at types e o.name) → length tys ≢ term_count o.fields
      → misfits_at types e (whole o) ≡ o.at ∷ []
  wrong-misfits None o tys h l = cc
  wrong-misfits (Some ty) o tys h l =
      let t : (term_count o.fields == length tys) ≡ false = grind (arith, nat_tests, l) in rw (← h, t) refl

module _ (types : List DataDecl) (root : Ty) where
  -- The next type ----------------------------------------------------------------------------

  pub expected-none : (os : List Wait) (fs : List Frame) → fs ≡ frames_of types root os → length fs ≡ 0 → Some root ≡ next_type types root os
  expected-none [] fs e h = refl
  expected-none (o ∷ os) fs e h = absurd (some-length (frames_of types root os) (frame_of types root o os) (rw e at h))

  pub expected-last : (os : List Wait) (fs : List Frame) (d : Frame) (i : ℕ) → fs ≡ frames_of types root os → i + 1 ≡ length fs → d ≡ get_or fs i d
      → field_at (con_fields types d.con) d.next ≡ next_type types root os
  expected-last [] fs d i e h g = let z : length fs ≡ 0 = ap length e in absurd (omega (arith, z, h))
  expected-last (o ∷ os) fs d i e h g =
      let l : d ≡ frame_of types root o os = g ∙ rw e (last-get (frames_of types root os) (frame_of types root o os) d i (rw e at h)) in
      ap (λ (f : Frame). field_at (con_fields types f.con) f.next) l

  -- A number ---------------------------------------------------------------------------------

  module _ (os : List Wait) (fs : List Frame) (nm : Option Frame) (f : Option ℕ) (vs : List Value) (h : IsTypedAs types root (expecting os) fs nm f vs) where
    pub untried : (t : Term) → None ≡ next_type types root os → IsTypedAs types root (complete t os) fs nm f vs
    untried t e = record {
      frames_are = h.frames_are;
      name_is = h.name_is;
      fault_is = h.fault_is ∙ ap first (sym (append-nil (faults types root os)) ∙ rw (← e) refl);
      values_are = λ z. h.values_are z ∙ sym (append-nil (values_of_waits types root os)) ∙ rw (← e) refl;
    }

    pub frozen : (t : Term) (p : ℕ) → f ≡ Some p → IsTypedAs types root (complete t os) fs nm f vs
    frozen t p e = record {
      frames_are = h.frames_are;
      name_is = h.name_is;
      fault_is = e ∙ sym (first-some (faults types root os) (misfits_at types (next_type types root os) t) p (sym h.fault_is ∙ e));
      values_are = λ z. absurd (some-none p (sym e ∙ z));
    }

    pub misfit : (at n : ℕ) (ty : Ty) → f ≡ None → Some ty ≡ next_type types root os → type_holds ty n ≡ false → IsTypedAs types root (complete (number at n) os) fs nm (Some at) vs
    misfit at n ty e t b = record {
      frames_are = h.frames_are;
      name_is = h.name_is;
      fault_is = rw (← t, b) (sym (first-none (faults types root os) (at ∷ []) (sym h.fault_is ∙ e)));
      values_are = λ z. absurd (some-none at z);
    }

    pub fit : (at n : ℕ) (ty : Ty) (new : List Value) → f ≡ None → Some ty ≡ next_type types root os → type_holds ty n ≡ true → new ≡ vs ++ Num n ∷ []
        → IsTypedAs types root (complete (number at n) os) fs nm f new
    fit at n ty new e t b g = record {
      frames_are = h.frames_are;
      name_is = h.name_is;
      fault_is = rw (← t, b) (h.fault_is ∙ ap first (sym (append-nil (faults types root os))));
      values_are = λ z. g ∙ rw (h.values_are e, ← t) refl;
    }

    -- A name ---------------------------------------------------------------------------------

    named-frame : (at : ℕ) (x : List ℕ) (c : Option ConRef) → c ≡ con_at types (next_type types root os) x
        → Some (record { at = at; con = c; next = 0; clean = is_clean f }) ≡ state_name types root (named at x os)
    named-frame at x c e = rw (e, h.fault_is) refl

    named-values : (at : ℕ) (x : List ℕ) → f ≡ None → vs ≡ state_values types root (named at x os)
    named-values at x e = h.values_are e ∙ sym (append-nil (values_of_waits types root os))

    pub name-frozen : (at : ℕ) (x : List ℕ) (c : Option ConRef) (p : ℕ) → c ≡ con_at types (next_type types root os) x → f ≡ Some p
        → IsTypedAs types root (named at x os) fs (Some (record { at = at; con = c; next = 0; clean = is_clean f })) f vs
    name-frozen at x c p e g = record {
      frames_are = h.frames_are;
      name_is = named-frame at x c e;
      fault_is = g ∙ sym (first-some (faults types root os) (wait_misfits types (next_type types root os) (waits at x)) p (sym h.fault_is ∙ g));
      values_are = λ z. absurd (some-none p (sym g ∙ z));
    }

    pub name-untried : (at : ℕ) (x : List ℕ) (c : Option ConRef) → c ≡ con_at types (next_type types root os) x → None ≡ next_type types root os
        → IsTypedAs types root (named at x os) fs (Some (record { at = at; con = c; next = 0; clean = is_clean f })) f vs
    name-untried at x c e t = record {
      frames_are = h.frames_are;
      name_is = named-frame at x c e;
      fault_is = h.fault_is ∙ ap first (sym (append-nil (faults types root os)) ∙ rw (← t) refl);
      values_are = named-values at x;
    }

    pub name-known : (at : ℕ) (x : List ℕ) (c : Option ConRef) (ty : Ty) (tys : List Ty) → c ≡ con_at types (next_type types root os) x → Some ty ≡ next_type types root os
        → Some tys ≡ con_fields types c → IsTypedAs types root (named at x os) fs (Some (record { at = at; con = c; next = 0; clean = is_clean f })) f vs
    name-known at x c ty tys e t k = record {
      frames_are = h.frames_are;
      name_is = named-frame at x c e;
      fault_is = let q : Some tys ≡ con_fields types (con_named types ty x) = rw (e, ← t) at k in
          h.fault_is ∙ ap first (sym (append-nil (faults types root os)) ∙ rw (← t, ← q) refl);
      values_are = named-values at x;
    }

    pub name-unknown : (at : ℕ) (x : List ℕ) (c : Option ConRef) (ty : Ty) → f ≡ None → c ≡ con_at types (next_type types root os) x → Some ty ≡ next_type types root os
        → None ≡ con_fields types c → IsTypedAs types root (named at x os) fs (Some (record { at = at; con = c; next = 0; clean = is_clean f })) (Some at) vs
    name-unknown at x c ty g e t k = record {
      frames_are = h.frames_are;
      name_is = named-frame at x c e;
      fault_is = let q : None ≡ con_fields types (con_named types ty x) = rw (e, ← t) at k in
          rw (← t, ← q) (sym (first-none (faults types root os) (at ∷ []) (sym h.fault_is ∙ g)));
      values_are = λ z. absurd (some-none at z);
    }

  -- All fields are there ---------------------------------------------------------------------

  module _ (o : Wait) (os : List Wait) (frame : Frame) (is : frame ≡ frame_of types root o os) (fs : List Frame) (nm : Option Frame) (f : Option ℕ) (vs : List Value)
      (h : IsClosing types root o os fs nm f vs) where
    con-is : frame.con ≡ con_at types (next_type types root os) o.name
    con-is = ap (λ (g : Frame). g.con) is

    next-is : frame.next ≡ term_count o.fields
    next-is = ap (λ (g : Frame). g.next) is

    at-is : frame.at ≡ o.at
    at-is = ap (λ (g : Frame). g.at) is

    clean-is : frame.clean ≡ is_clean (first (faults types root os))
    clean-is = ap (λ (g : Frame). g.clean) is

    pub closed-none : None ≡ con_fields types frame.con → IsTypedAs types root (complete (whole o) os) fs nm f vs
    closed-none e =
        let q : None ≡ con_fields types (con_at types (next_type types root os) o.name) = rw con-is at e in
        record {
          frames_are = h.frames_are;
          name_is = h.name_is;
          fault_is = h.fault_is ∙ ap (λ (l : List ℕ). first (faults types root os ++ l)) (none-misfits types (next_type types root os) o q);
          values_are = λ z. h.values_are z ∙ ap (λ (l : List Value). values_of_waits types root os ++ l) (none-values types (next_type types root os) o (faults types root os) q (sym h.fault_is ∙ z));
        }

    pub closed-wrong_first : (tys : List Ty) → Some tys ≡ con_fields types frame.con → length tys ≢ frame.next → frame.clean ≡ true
        → IsTypedAs types root (complete (whole o) os) fs nm (Some frame.at) vs
    closed-wrong_first tys e l c =
        let q : Some tys ≡ con_fields types (con_at types (next_type types root os) o.name) = rw con-is at e in
        let z : first (faults types root os) ≡ None = clean-none _ (sym clean-is ∙ c) in
        let w = wrong-misfits types (next_type types root os) o tys q (rw next-is at l) in
        record {
          frames_are = h.frames_are;
          name_is = h.name_is;
          fault_is = ap (λ (n : ℕ). Some n) at-is ∙ sym (first-none (faults types root os) (o.at ∷ []) z) ∙ ap (λ (l : List ℕ). first (faults types root os ++ l)) (sym w);
          values_are = λ g. absurd (some-none frame.at g);
        }

    pub closed-wrong_later : (tys : List Ty) → Some tys ≡ con_fields types frame.con → length tys ≢ frame.next → frame.clean ≡ false
        → IsTypedAs types root (complete (whole o) os) fs nm f vs
    closed-wrong_later tys e l c =
        let s = clean-some (first (faults types root os)) (sym clean-is ∙ c) in
        let g : f ≡ Some s.0 = h.fault_is ∙ first-some (faults types root os) (wait_misfits types (next_type types root os) o) s.0 s.1 in
        record {
          frames_are = h.frames_are;
          name_is = h.name_is;
          fault_is = g ∙ sym (first-some (faults types root os) (misfits_at types (next_type types root os) (whole o)) s.0 s.1);
          values_are = λ z. absurd (some-none s.0 (sym g ∙ z));
        }

    module _ (tys : List Ty) (e : Some tys ≡ con_fields types frame.con) (l : length tys ≡ frame.next) where
      known : Some tys ≡ con_fields types (con_at types (next_type types root os) o.name)
      known = rw con-is at e

      same-fault : f ≡ first (state_faults types root (complete (whole o) os))
      same-fault = h.fault_is ∙ ap (λ (l : List ℕ). first (faults types root os ++ l)) (right-misfits types (next_type types root os) o tys known (l ∙ next-is))

      pub closed-frozen : (p : ℕ) → f ≡ Some p → IsTypedAs types root (complete (whole o) os) fs nm f vs
      closed-frozen p g = record { frames_are = h.frames_are; name_is = h.name_is; fault_is = same-fault; values_are = λ z. absurd (some-none p (sym g ∙ z)) }

      enough : f ≡ None → frame.next ≤ length vs
      enough g =
          let c = right-count types (next_type types root os) o tys known (l ∙ next-is) in
          let v = ap length (h.values_are g) ∙ length-append (values_of_waits types root os) (wait_values types (next_type types root os) o) in
          omega (arith, c, v, next-is)

      pub closed-built : (k n : ℕ) (new : List Value) → f ≡ None → k ≡ con_number frame.con → (frame.next ≤ length vs → n ≡ frame.next)
          → new ≡ take (length vs - n) vs ++ val.Con k (drop (length vs - n) vs) ∷ [] → IsTypedAs types root (complete (whole o) os) fs nm f new
      closed-built k n new g k-is n-is w =
          let c = right-count types (next_type types root os) o tys known (l ∙ next-is) in
          let n-count : length (wait_values types (next_type types root os) o) ≡ n = c ∙ sym next-is ∙ sym (n-is (enough g)) in
          let b : List Value = values_of_waits types root os in
          let ws : List Value = wait_values types (next_type types root os) o in
          let t : take (length vs - n) vs ≡ b = rw (h.values_are g) (front-of b ws n n-count) in
          let d : drop (length vs - n) vs ≡ ws = rw (h.values_are g) (behind-of b ws n n-count) in
          let v = right-value types (next_type types root os) o tys known in
          record {
            frames_are = h.frames_are;
            name_is = h.name_is;
            fault_is = same-fault;
            values_are = λ z. w ∙ rw (t, d, v, k-is, con-is) refl;
          }

  -- Commas and parentheses -------------------------------------------------------------------

  module _ (t : Term) (o : Wait) (os : List Wait) (fs : List Frame) (nm : Option Frame) (f : Option ℕ) (vs : List Value)
      (h : IsTypedAs types root (complete t (o ∷ os)) fs nm f vs) (front : List Frame) (frame : Frame) (popped : fs ≡ front ++ frame ∷ []) where
    pub popped-is : (front ≡ frames_of types root os) × (frame ≡ frame_of types root o os)
    popped-is = same-last front (frames_of types root os) frame (frame_of types root o os) (sym popped ∙ h.frames_are)

    pub longer-is : (n : ℕ) → n ≡ frame.next + 1 → record { at = frame.at; con = frame.con; next = n; clean = frame.clean } ≡ frame_of types root (longer o t) os
    longer-is n e = let c : n ≡ term_count (snoc o.fields t) = omega (arith, e, ap (λ (g : Frame). g.next) popped-is.1, count-snoc o.fields t) in rw (c, popped-is.1) refl

    longer-faults : faults types root (o ∷ os) ++ misfits_at types (next_type types root (o ∷ os)) t ≡ faults types root (longer o t ∷ os)
    longer-faults =
        append_assoc (faults types root os) (wait_misfits types (next_type types root os) o) (misfits_at types (next_type types root (o ∷ os)) t)
        ∙ ap (λ (l : List ℕ). faults types root os ++ l) (sym (wait-snoc types (next_type types root os) o t))

    longer-built : values_of_waits types root (o ∷ os) ++ value_at types (next_type types root (o ∷ os)) t ≡ values_of_waits types root (longer o t ∷ os)
    longer-built =
        append_assoc (values_of_waits types root os) (wait_values types (next_type types root os) o) (value_at types (next_type types root (o ∷ os)) t)
        ∙ ap (λ (l : List Value). values_of_waits types root os ++ l) (sym (built-snoc types (con_fields types (con_at types (next_type types root os) o.name)) o.fields t))

    pub closing : IsClosing types root (longer o t) os front nm f vs
    closing = record {
      frames_are = popped-is.0;
      name_is = h.name_is;
      fault_is = h.fault_is ∙ ap first longer-faults;
      values_are = λ z. h.values_are z ∙ longer-built;
    }

    pub next-begins : (n : ℕ) (new : List Frame) → n ≡ frame.next + 1 → new ≡ front ++ record { at = frame.at; con = frame.con; next = n; clean = frame.clean } ∷ []
        → IsTypedAs types root (expecting (longer o t ∷ os)) new nm f vs
    next-begins n new e w = record {
      frames_are = w ∙ rw (longer-is n e, popped-is.0) refl;
      name_is = h.name_is;
      fault_is = h.fault_is ∙ ap first longer-faults;
      values_are = λ z. h.values_are z ∙ longer-built;
    }

  pub comma-next : (t : Term) (os : List Wait) (next : State) → then_on t os sign.Comma ≡ Some next → (fs : List Frame) (nm : Option Frame) (f : Option ℕ) (vs : List Value)
      → IsTypedAs types root (complete t os) fs nm f vs → (front : List Frame) (frame : Frame) → fs ≡ front ++ frame ∷ []
      → (n : ℕ) → n ≡ frame.next + 1 → (new : List Frame) → new ≡ front ++ record { at = frame.at; con = frame.con; next = n; clean = frame.clean } ∷ []
      → IsTypedAs types root next new nm f vs
  comma-next t [] next e fs nm f vs h front frame p n q new w = cc
  comma-next t (o ∷ os) next e fs nm f vs h front frame p n q new w =
      let s : expecting (longer o t ∷ os) ≡ next = cc in rw (← s) (next-begins t o os fs nm f vs h front frame p n new q w)

  pub close-next : (t : Term) (os : List Wait) (next : State) → then_on t os sign.Close ≡ Some next → (fs : List Frame) (nm : Option Frame) (f : Option ℕ) (vs : List Value)
      → IsTypedAs types root (complete t os) fs nm f vs → (front : List Frame) (frame : Frame) → fs ≡ front ++ frame ∷ []
      → (n : ℕ) → n ≡ frame.next + 1 → (fs' : List Frame) (nm' : Option Frame) (f' : Option ℕ) (vs' : List Value)
      → ((o : Wait) (os : List Wait) → record { at = frame.at; con = frame.con; next = n; clean = frame.clean } ≡ frame_of types root o os
      → IsClosing types root o os front nm f vs → IsTypedAs types root (complete (whole o) os) fs' nm' f' vs')
      → IsTypedAs types root next fs' nm' f' vs'
  close-next t [] next e fs nm f vs h front frame p n q fs' nm' f' vs' go = cc
  close-next t (o ∷ os) next e fs nm f vs h front frame p n q fs' nm' f' vs' go =
      let s : complete (whole (longer o t)) os ≡ next = cc in
      rw (← s) (go (longer o t) os (longer-is t o os fs nm f vs h front frame p n q) (closing t o os fs nm f vs h front frame p))

  not-named : (frame : Frame) → ◌≡◌ {A = Option Frame} (Some frame) None → ⊥
  not-named frame e = cc

  pub settled-none : (s : State) (fs : List Frame) (nm : Option Frame) (f : Option ℕ) (vs : List Value) → nm ≡ None → IsTypedAs types root s fs nm f vs
      → IsTypedAs types root (settled_state s) fs nm f vs
  settled-none (expecting os) fs nm f vs e h = h
  settled-none (named at x os) fs nm f vs e h = absurd (not-named _ (sym h.name_is ∙ e))
  settled-none (complete t os) fs nm f vs e h = h

  pub settled-some : (s : State) (fs : List Frame) (nm : Option Frame) (f : Option ℕ) (vs : List Value) (frame : Frame) → nm ≡ Some frame → IsTypedAs types root s fs nm f vs
      → (fs' : List Frame) (nm' : Option Frame) (f' : Option ℕ) (vs' : List Value)
      → ((o : Wait) (os : List Wait) → frame ≡ frame_of types root o os → IsClosing types root o os fs None f vs → IsTypedAs types root (complete (whole o) os) fs' nm' f' vs')
      → IsTypedAs types root (settled_state s) fs' nm' f' vs'
  settled-some (expecting os) fs nm f vs frame e h fs' nm' f' vs' go = absurd (not-named frame (sym e ∙ h.name_is))
  settled-some (named at x os) fs nm f vs frame e h fs' nm' f' vs' go =
      let s : Some frame ≡ Some (frame_of types root (waits at x) os) = sym e ∙ h.name_is in
      go (waits at x) os (let q : frame ≡ frame_of types root (waits at x) os = cc in q)
      (record { frames_are = h.frames_are; name_is = refl; fault_is = h.fault_is; values_are = h.values_are })
  settled-some (complete t os) fs nm f vs frame e h fs' nm' f' vs' go = absurd (not-named frame (sym e ∙ h.name_is))

  -- Signs, of any kind -----------------------------------------------------------------------

  module _ (fs : List Frame) (nm : Option Frame) (f : Option ℕ) (vs : List Value) (fs' : List Frame) (nm' : Option Frame) (f' : Option ℕ) (vs' : List Value) where
    abbrev Goes : State → State → Type 0
    Goes s next = IsTypedAs types root s fs nm f vs → IsTypedAs types root next fs' nm' f' vs'

    pub by-number : (at n : ℕ) (s next : State) → step s (sign.Number at n) ≡ Some next → ((os : List Wait) → Goes (expecting os) (complete (number at n) os)) → Goes s next
    by-number at n (expecting os) next e go h = let q : complete (number at n) os ≡ next = cc in rw (← q) (go os h)
    by-number at n (named b x os) next e go h = cc
    by-number at n (complete t []) next e go h = cc
    by-number at n (complete t (o ∷ os)) next e go h = cc

    pub by-name : (at : ℕ) (x : List ℕ) (s next : State) → step s (sign.Name at x) ≡ Some next → ((os : List Wait) → Goes (expecting os) (named at x os)) → Goes s next
    by-name at x (expecting os) next e go h = let q : named at x os ≡ next = cc in rw (← q) (go os h)
    by-name at x (named b y os) next e go h = cc
    by-name at x (complete t []) next e go h = cc
    by-name at x (complete t (o ∷ os)) next e go h = cc

    pub by-open : (s next : State) → step s sign.Open ≡ Some next → ((at : ℕ) (x : List ℕ) (os : List Wait) → Goes (named at x os) (expecting (waits at x ∷ os))) → Goes s next
    by-open (expecting os) next e go h = cc
    by-open (named at x os) next e go h = let q : expecting (waits at x ∷ os) ≡ next = cc in rw (← q) (go at x os h)
    by-open (complete t []) next e go h = cc
    by-open (complete t (o ∷ os)) next e go h = cc

    pub by-other : (s next : State) → step s sign.Other ≡ Some next → Goes s next
    by-other (expecting os) next e h = cc
    by-other (named at x os) next e h = cc
    by-other (complete t []) next e h = cc
    by-other (complete t (o ∷ os)) next e h = cc

    pub by-comma : (s next : State) → step s sign.Comma ≡ Some next → ((t : Term) (os : List Wait) → then_on t os sign.Comma ≡ Some next → Goes (complete t os) next) → Goes (settled_state s) next
    by-comma (expecting os) next e go h = cc
    by-comma (named at x os) next e go h = go (build at x none) os e h
    by-comma (complete t os) next e go h = go t os e h

    pub by-close : (s next : State) → step s sign.Close ≡ Some next → ((t : Term) (os : List Wait) → then_on t os sign.Close ≡ Some next → Goes (complete t os) next) → Goes (settled_state s) next
    by-close (expecting os) next e go h = cc
    by-close (named at x os) next e go h = go (build at x none) os e h
    by-close (complete t os) next e go h = go t os e h
