-- The provenances of a derived layout: each is a constructor over wildcards.
use Rattle.std.proofs.Common.{◌≡◌, ℕ, suc, List, [], ◌∷◌, ◌++◌, length, map, Bool, true, Option, Some, None, refl, sym, ap, ◌∙◌, arith}
use Rattle.std.specs.Prelude.{slice_get, ◌==◌, ◌&&◌}
use Rattle.std.specs.List.{flat_map}
use Rattle.std.proofs.lemmas.Bool.{and_parts, eqb-true, eq-eqb}
use Rattle.rb_core.specs.declared.types.Con.{Con}
use Rattle.rb_core.specs.declared.types.ConRef.{ConRef}
use Rattle.rb_core.specs.declared.types.DataDecl.{DataDecl}
use Rattle.rb_core.specs.declared.types.Ty.{Ty}
use Rattle.rb_core.specs.declared.types.Ty.TheVariants.{Named}
use Rattle.rb_core.specs.declared.value.Value.{Value, out-Value}
use Rattle.rb_core.specs.declared.value.Value.TheVariants as V
use Rattle.rb_core.specs.declared.value.Value.TheOpen as Layer
use Rattle.rb_core.specs.declared.value.Value.TheOpen.{Value-F}
use Rattle.rb_core.specs.declared.pattern.Pat.{Pat}
use Rattle.rb_core.specs.declared.pattern.Pat.TheVariants as P
use Rattle.rb_core.specs.Values.{all_of_types, are_of, fields_in, fields_of_con, is_of_type}
use Rattle.rb_core.specs.Matching.{all_pass, is_con, matches_of}
use Rattle.rb_core.proofs.MatchingForms.{matches-Con, matches-Wild}
use Rattle.rb_core.proofs.ValueLaws.{is_of_type-Num, is_of_type-Con}
use Rattle.rb_core.proofs.ValueLaws as laws
use Rattle.rb_core.proofs.PatternLaws.{fold-Wild}
use Rattle.rb_layout.specs.A9.{cons_below, cons_below_root, pattern_cons, cons_step}
use Rattle.rb_auto.specs.Fields.{cons_in}
use Rattle.rb_auto.specs.Derived.{provenance}
use Rattle.rb_auto.specs.inner.Rules.{FlattensNothing, HasOneLeaf, HasALeaf}
use Rattle.rb_auto.proofs.Leaves.{leaf-is, has-leaf}

-- Nothing is flattened --------------------------------------------------------------------------------

abbrev wilds : List Ty → List Pat
wilds tys = map (λ (ty : Ty). P.Wild 0) tys

none-below : (tys : List Ty) → flat_map pattern_cons (wilds tys) ≡ []
none-below [] = refl
none-below (ty ∷ tys) = ap (λ (cs : List ConRef). cs ++ flat_map pattern_cons (wilds tys)) (fold-Wild (List ConRef) cons_step 0) ∙ none-below tys

below-none : (t k : ℕ) (c : Con) → cons_below (provenance t k c) ≡ []
below-none t k c = ap cons_below_root (P.outs-Con 0 (record { ty = t; con = k }) (wilds c.fields)) ∙ none-below c.fields

none-at : (cs : List ConRef) (k : ℕ) (c : ConRef) → cs ≡ [] → slice_get cs k ≡ Some c → ⊥
none-at [] k c none e = absurd cc
none-at (d ∷ cs) k c none e = absurd cc

pub flattens-nothing : FlattensNothing
flattens-nothing p decls rooms t form n leaf e s h =
    let c = leaf-is p rooms t form decls n leaf e in
    let none : cons_below leaf.prov ≡ [] = ap (λ l. cons_below l.prov) c.2 ∙ below-none t n c.0 in
    absurd (none-at (cons_below leaf.prov) h.number h.con none h.is_below)

-- One leaf for each value -------------------------------------------------------------------------------

matched : (t k : ℕ) (c : Con) (v : Value) → matches_of (provenance t k c) v ≡ is_con k (map matches_of (wilds c.fields)) (out-Value v)
matched t k c v = matches-Con v 0 (record { ty = t; con = k }) (wilds c.fields)

-- the constructor that a value is built by
abbrev IsBuiltBy : ℕ → Value-F Value → Type 0
IsBuiltBy k (Layer.Num n) = ⊥
IsBuiltBy k (Layer.Con j vs) = k ≡ j

built-by : (k : ℕ) (ts : List (Value → Bool)) (x : Value-F Value) → is_con k ts x ≡ true → IsBuiltBy k x
built-by k ts (Layer.Num n) e = absurd cc
built-by k ts (Layer.Con j vs) e = eqb-true k j (and_parts (k == j) (all_pass ts vs) e).0

one-constructor : (j k : ℕ) (x : Value-F Value) → IsBuiltBy j x → IsBuiltBy k x → j ≡ k
one-constructor j k (Layer.Num n) h g = absurd h
one-constructor j k (Layer.Con i vs) h g = h ∙ sym g

pub has-one-leaf : HasOneLeaf
has-one-leaf p decls rooms t form n leaf e m later lt is common =
    let c = leaf-is p rooms t form decls n leaf e in
    let d = leaf-is p rooms t form decls m later is in
    let v = common.0 in
    let first : IsBuiltBy n (out-Value v) =
    built-by n (map matches_of (wilds c.0.fields)) (out-Value v) (sym (ap (λ l. matches_of l.prov v) c.2 ∙ matched t n c.0 v) ∙ common.2) in
    let second : IsBuiltBy m (out-Value v) =
    built-by m (map matches_of (wilds d.0.fields)) (out-Value v) (sym (ap (λ l. matches_of l.prov v) d.2 ∙ matched t m d.0 v) ∙ common.3) in
    let same = one-constructor n m (out-Value v) first second in
    absurd (omega (arith, lt, same))

-- Some leaf for each value ---------------------------------------------------------------------------

wilds-pass : (tys : List Ty) (vs : List Value) → length vs ≡ length tys → all_pass (map matches_of (wilds tys)) vs ≡ true
wilds-pass [] [] e = refl
wilds-pass [] (v ∷ vs) e = absurd cc
wilds-pass (ty ∷ tys) [] e = absurd cc
wilds-pass (ty ∷ tys) (v ∷ vs) e =
    ap (λ b. b && all_pass (map matches_of (wilds tys)) vs) (matches-Wild v 0) ∙ wilds-pass tys vs (omega (arith, e))

-- as many values as types
same-length : (types : List DataDecl) (vs : List Value) (ts : List Ty) → all_of_types (map (is_of_type types) vs) ts ≡ true → length vs ≡ length ts
same-length types [] [] e = refl
same-length types [] (t ∷ ts) e = absurd cc
same-length types (v ∷ vs) [] e = absurd cc
same-length types (v ∷ vs) (t ∷ ts) e = ap suc (same-length types vs ts (and_parts (is_of_type types v t) (all_of_types (map (is_of_type types) vs) ts) e).1)

-- a construction of a type is by one of its constructors
con-fields : (types : List DataDecl) (vs : List Value) (con : Option Con) → are_of (map (is_of_type types) vs) (fields_of_con con) ≡ true
    → (c : Con) × (con ≡ Some c) × (length vs ≡ length c.fields)
con-fields types vs None e = absurd cc
con-fields types vs (Some c) e = (c, refl, same-length types vs c.fields e)

constructed : (types : List DataDecl) (d : Option DataDecl) (k : ℕ) (vs : List Value) → are_of (map (is_of_type types) vs) (fields_in d k) ≡ true
    → (c : Con) × (slice_get (cons_in d) k ≡ Some c) × (length vs ≡ length c.fields)
constructed types None k vs e = absurd cc
constructed types (Some d) k vs e = con-fields types vs (slice_get d.cons k) e

abbrev AValue : List DataDecl → ℕ → Value → Type 0
AValue types t v = is_of_type types v (Named t) ≡ true → (k : ℕ) × (c : Con) × (slice_get (cons_in (slice_get types t)) k ≡ Some c) × (matches_of (provenance t k c) v ≡ true)

a-number : (types : List DataDecl) (t n : ℕ) → AValue types t (V.Num n)
a-number types t n e = absurd (cc (sym (is_of_type-Num types n (Named t)), e))

a-construction : (types : List DataDecl) (t k : ℕ) (vs : List Value) → AValue types t (V.Con k vs)
a-construction types t k vs e =
    let c = constructed types (slice_get types t) k vs (sym (is_of_type-Con types k vs (Named t)) ∙ e) in
    let outs : out-Value (V.Con k vs) ≡ Layer.Con k vs = V.outs-Con k vs in (
      k,
      c.0,
      c.1,
      matched t k c.0 (V.Con k vs) ∙ ap (is_con k (map matches_of (wilds c.0.fields))) outs
          ∙ ap (λ b. b && all_pass (map matches_of (wilds c.0.fields)) vs) (eq-eqb k k refl) ∙ wilds-pass c.0.fields vs c.2,
    )

a-value : (types : List DataDecl) (t : ℕ) (v : Value) → AValue types t v
a-value types t = laws.induction (AValue types t) (a-number types t) (λ k vs each. a-construction types t k vs)

pub has-a-leaf : HasALeaf
has-a-leaf p decls rooms t form v typed =
    let c = a-value p.types t v typed in
    (c.0, _, has-leaf p rooms t form decls c.0 c.1 c.2, c.3)
