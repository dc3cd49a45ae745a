-- The graph of fields leads from a type to the types of its fields, and no further.
use Rattle.std.proofs.Common.{◌≡◌, ℕ, zero, suc, ◌⊎◌, inl, inr, List, [], ◌∷◌, ◌++◌, map, Some, refl, sym, ap, subst, ◌∙◌}
use Rattle.std.specs.Prelude.{slice_get}
use Rattle.std.specs.List.{flat_map}
use Rattle.std.proofs.lemmas.Option.{same_Some}
use Rattle.rb_core.specs.declared.types.Ty.{Ty}
use Rattle.rb_core.specs.declared.types.Ty.TheVariants.{Int, Named}
use Rattle.rb_core.specs.declared.types.DataDecl.{DataDecl}
use Rattle.rb_layout.specs.Cycles.{HasNoCycle, IsChain}
use Rattle.rb_auto.specs.Fields.{cons_of, cons_in, HasField, IsRecursive, IsFinite}
use Rattle.rb_layout.specs.Graphs.{Leads, row_in}
use Rattle.rb_auto.specs.inner.Graphs.{HasCycle, con_types, field_graph, field_types, named_types}

-- something stands in a list
abbrev pub In : {A : Type 0} → A → List A → Type 0
In x xs = (k : ℕ) × (slice_get xs k ≡ Some x)

in-left : {A : Type 0} (x : A) (xs ys : List A) → In x xs → In x (xs ++ ys)
in-left x [] ys h = absurd (cc h.1)
in-left x (z ∷ xs) ys (zero, e) = (0, e)
in-left x (z ∷ xs) ys (suc k, e) = let rest = in-left x xs ys (k, e) in (suc rest.0, rest.1)

in-right : {A : Type 0} (x : A) (xs ys : List A) → In x ys → In x (xs ++ ys)
in-right x [] ys h = h
in-right x (z ∷ xs) ys h = let rest = in-right x xs ys h in (suc rest.0, rest.1)

pub in-either : {A : Type 0} (x : A) (xs ys : List A) → In x (xs ++ ys) → In x xs ⊎ In x ys
in-either x [] ys h = inr h
in-either x (z ∷ xs) ys (zero, e) = inl (0, e)
in-either x (z ∷ xs) ys (suc k, e) = elim (in-either x xs ys (k, e)) [ inl h ↦ inl (suc h.0, h.1) | inr h ↦ inr h ]

-- in what some item gives
in-flat : {A B : Type 0} (f : A → List B) (y : B) (xs : List A) (k : ℕ) (x : A) → slice_get xs k ≡ Some x → In y (f x) → In y (flat_map f xs)
in-flat f y [] k x at h = absurd cc
in-flat f y (z ∷ xs) zero x at h = in-left y (f z) (flat_map f xs) (subst (λ w. In y (f w)) (sym (same_Some z x at)) h)
in-flat f y (z ∷ xs) (suc k) x at h = in-right y (f z) (flat_map f xs) (in-flat f y xs k x at h)

flat-in : {A B : Type 0} (f : A → List B) (y : B) (xs : List A) → In y (flat_map f xs) → (k : ℕ) × (x : A) × (slice_get xs k ≡ Some x) × In y (f x)
flat-in f y [] h = absurd (cc h.1)
flat-in f y (z ∷ xs) h = elim (in-either y (f z) (flat_map f xs) h) [
  | inl here ↦ (0, z, refl, here)
  | inr there ↦ (let rest = flat-in f y xs there in (suc rest.0, rest.1, rest.2, rest.3))
]

named : (ty : Ty) (s : ℕ) → In s (named_types ty) → ty ≡ Named s
named (Int bits) s h = absurd (cc h.1)
named (Named t) s (zero, e) = ap Named (same_Some t s e)
named (Named t) s (suc k, e) = absurd cc

row-of : (types : List DataDecl) (t : ℕ) → row_in (slice_get (map field_types types) t) ≡ flat_map con_types (cons_in (slice_get types t))
row-of [] t = refl
row-of (d ∷ types) zero = refl
row-of (d ∷ types) (suc t) = row-of types t

module _ (types : List DataDecl) where
  leads-field : (t s : ℕ) → Leads (field_graph types) t s → HasField types t s
  leads-field t s h =
      let c = flat-in con_types s (cons_of types t) (subst (λ (row : List ℕ). In s row) (row-of types t) h) in
      let f = flat-in named_types s c.1.fields c.3 in
      record { con_number = c.0; con = c.1; field = f.0; is_con = c.2; is_field = f.2 ∙ ap Some (named f.1 s f.3) }

  field-leads : (t s : ℕ) → HasField types t s → Leads (field_graph types) t s
  field-leads t s h =
      subst (λ (row : List ℕ). In s row) (sym (row-of types t))
      (in-flat con_types s (cons_of types t) h.con_number h.con h.is_con (in-flat named_types s h.con.fields h.field (Named s) h.is_field (0, refl)))

chain-by : (R S : ℕ → ℕ → Type 0) → ((t s : ℕ) → R t s → S t s) → (t : ℕ) (ts : List ℕ) (last : ℕ) → IsChain R t ts last → IsChain S t ts last
chain-by R S by t [] last r = by t last r
chain-by R S by t (n ∷ ts) last chain = (by t n chain.0, chain-by R S by n ts last chain.1)

module _ (types : List DataDecl) (graph : List (List ℕ)) (is : graph ≡ field_graph types) (t : ℕ) where
  pub is-recursive : HasCycle (Leads graph) t → IsRecursive types t
  is-recursive h =
      (h.0, chain-by (Leads graph) (HasField types) (λ a b r. leads-field types a b (subst (λ (g : List (List ℕ)). Leads g a b) is r)) t h.0 t h.1)

  pub is-finite : HasNoCycle (Leads graph) t → IsFinite types t
  is-finite none = λ ts cycle.
      none ts (chain-by (HasField types) (Leads graph) (λ a b r. subst (λ (g : List (List ℕ)). Leads g a b) (sym is) (field-leads types a b r)) t ts t cycle)
