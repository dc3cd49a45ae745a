-- The open positions of a constructor over wildcards: its fields.
use Rattle.std.proofs.Common.{◌≡◌, ℕ, zero, suc, ◌+◌, List, [], ◌∷◌, ◌++◌, map, Bool, true, false, Option, Some, None, refl, sym, ap, ◌∙◌, arith, zero-add}
use Rattle.std.specs.Prelude.{slice_get, ◌&&◌, if◌then◌else◌}
use Rattle.std.proofs.lemmas.Bool.{eq-eqb, ne_eqb}
use Rattle.std.proofs.lemmas.Option.{same_Some}
use Rattle.rb_core.specs.declared.types.Con.{Con}
use Rattle.rb_core.specs.declared.types.DataDecl.{DataDecl}
use Rattle.rb_core.specs.declared.types.Ty.{Ty}
use Rattle.rb_core.specs.declared.pattern.Pat.{out-Pat}
use Rattle.rb_core.specs.declared.pattern.Pat.TheVariants as P
use Rattle.rb_core.specs.Values.{fields_in, fields_of_con}
use Rattle.rb_layout.specs.Positions.{Open, below, open_positions, opens_below, opens_of, root_type, types_or_none}
use Rattle.rb_layout.specs.Flattening.{same_path, type_at}
use Rattle.rb_layout.proofs.Computing.{opens-at-Con, opens-at-Wild}
use Rattle.rb_auto.specs.Fields.{cons_in, cons_of}
use Rattle.rb_auto.specs.Derived.{provenance}

-- fields of these types, the first of which is field i
abbrev pub field_opens : ℕ → List Ty → List Open
field_opens i [] = []
field_opens i (ty ∷ tys) = record { path = i ∷ []; ty = ty } ∷ field_opens (i + 1) tys

below-wilds : (types : List DataDecl) (i : ℕ) (tys : List Ty) → opens_below (map (opens_of types) (map (λ (ty : Ty). P.Wild 0) tys)) tys i ≡ field_opens i tys
below-wilds types i [] = refl
below-wilds types i (ty ∷ tys) =
    ap (λ (os : List Open). map (below i) os ++ opens_below (map (opens_of types) (map (λ (ty : Ty). P.Wild 0) tys)) tys (i + 1)) (opens-at-Wild types 0 ty)
    ∙ ap (λ (os : List Open). record { path = i ∷ []; ty = ty } ∷ os) (below-wilds types (i + 1) tys)

fields-are : (d : Option DataDecl) (k : ℕ) (c : Con) → slice_get (cons_in d) k ≡ Some c → types_or_none (fields_in d k) ≡ c.fields
fields-are None k c e = absurd cc
fields-are (Some d) k c e = ap (λ (con : Option Con). types_or_none (fields_of_con con)) e

pub opens-are : (types : List DataDecl) (t k : ℕ) (c : Con) → slice_get (cons_of types t) k ≡ Some c → open_positions types (provenance t k c) ≡ field_opens 0 c.fields
opens-are types t k c e =
    opens-at-Con types 0 (record { ty = t; con = k }) (map (λ (ty : Ty). P.Wild 0) c.fields) (root_type (out-Pat (provenance t k c)))
    ∙ ap (λ (tys : List Ty). opens_below (map (opens_of types) (map (λ (ty : Ty). P.Wild 0) c.fields)) tys 0) (fields-are (slice_get types t) k c e)
    ∙ below-wilds types 0 c.fields

same-field : (i j : ℕ) → i ≡ j → same_path (i ∷ []) (j ∷ []) ≡ true
same-field i j e = ap (λ b. b && true) (eq-eqb i j e)

other-field : (i j : ℕ) → (i ≡ j → ⊥) → same_path (i ∷ []) (j ∷ []) ≡ false
other-field i j ne = ap (λ b. b && true) (ne_eqb i j ne)

type-from : (i : ℕ) (tys : List Ty) (n : ℕ) (ty : Ty) → slice_get tys n ≡ Some ty → type_at (field_opens i tys) ((i + n) ∷ []) ≡ Some ty
type-from i [] n ty e = absurd cc
type-from i (x ∷ tys) zero ty e =
    ap (λ (b : Bool). if b then Some x else type_at (field_opens (i + 1) tys) ((i + 0) ∷ [])) (same-field i (i + 0) (omega arith)) ∙ e
type-from i (x ∷ tys) (suc n) ty e =
    let next : i + suc n ≡ i + 1 + n = omega arith in
    ap (λ (b : Bool). if b then Some x else type_at (field_opens (i + 1) tys) ((i + suc n) ∷ [])) (other-field i (i + suc n) (λ same. omega (arith, same)))
    ∙ ap (λ j. type_at (field_opens (i + 1) tys) (j ∷ [])) next ∙ type-from (i + 1) tys n ty e

pub field-type : (tys : List Ty) (n : ℕ) (ty : Ty) → slice_get tys n ≡ Some ty → type_at (field_opens 0 tys) (n ∷ []) ≡ Some ty
field-type tys n ty e = ap (λ j. type_at (field_opens 0 tys) (j ∷ [])) (sym (zero-add n)) ∙ type-from 0 tys n ty e

-- an open position is a field
open-from : (i : ℕ) (tys : List Ty) (n : ℕ) (o : Open) → slice_get (field_opens i tys) n ≡ Some o → (ty : Ty) × (slice_get tys n ≡ Some ty) × (o ≡ record { path = (i + n) ∷ []; ty = ty })
open-from i [] n o e = absurd cc
open-from i (ty ∷ tys) zero o e =
    (ty, refl, sym (same_Some (record { path = i ∷ []; ty = ty }) o e) ∙ ap (λ j. record { path = j ∷ []; ty = ty }) (plus_none i))
  where
    plus_none : (m : ℕ) → m ≡ m + 0
    plus_none m = omega arith
open-from i (ty ∷ tys) (suc n) o e =
    let r = open-from (i + 1) tys n o e in (r.0, r.1, r.2 ∙ ap (λ j. record { path = j ∷ []; ty = r.0 }) (shift i n))
  where
    shift : (m k : ℕ) → m + 1 + k ≡ m + suc k
    shift m k = omega arith

pub open-field : (tys : List Ty) (n : ℕ) (o : Open) → slice_get (field_opens 0 tys) n ≡ Some o → (ty : Ty) × (slice_get tys n ≡ Some ty) × (o ≡ record { path = n ∷ []; ty = ty })
open-field tys n o e = let r = open-from 0 tys n o e in (r.0, r.1, r.2 ∙ ap (λ j. record { path = j ∷ []; ty = r.0 }) (zero-add n))
