-- The type at a position is that of the open position there.
use Rattle.std.proofs.Common.{◌≡◌, ℕ, zero, suc, ◌+◌, ◌==◌, ◌⊎◌, inl, inr, List, [], ◌∷◌, ◌++◌, map, Bool, true, false, Some, refl, sym, ap, ◌∙◌, arith}
use Rattle.std.specs.Prelude.{slice_get, if◌then◌else◌}
use Rattle.std.proofs.lemmas.Bool.{and_parts}
use Rattle.std.proofs.lemmas.Option.{same_Some}
use Rattle.std.proofs.lemmas.Grind.{common_steps}
use Rattle.rb_core.specs.declared.types.Ty.{Ty}
use Rattle.rb_core.specs.declared.types.DataDecl.{DataDecl}
use Rattle.rb_core.specs.declared.pattern.Pat.{Pat, out-Pat}
use Rattle.rb_core.specs.declared.pattern.Pat as Q
use Rattle.rb_core.specs.declared.pattern.Pat.TheVariants as X
use Rattle.rb_core.specs.declared.pattern.Pat.TheOpen as P
use Rattle.rb_core.specs.declared.pattern.Pat.TheOpen.{Pat-F}
use Rattle.rb_core.proofs.PatternLaws.{fold-Wild, fold-Var, fold-Num, fold-Con, Each, Cases, induction}
use Rattle.rb_core.specs.Values.{fields_of}
use Rattle.rb_layout.specs.Positions.{Open, below, opens_below, types_or_none, opens_step, opens_of, open_positions, root_type, pair_of, sub_in}
use Rattle.rb_layout.specs.Flattening.{same_path, type_at}
use Rattle.rb_layout.specs.inner.Walking.{open_type, type_along}
use Rattle.rb_layout.proofs.Walks.{type_at_walked}

module _ {A : Type 0} where
  get-append : (xs ys : List A) (k : ℕ) (x : A) → slice_get (xs ++ ys) k ≡ Some x → ((m : ℕ) × (slice_get xs m ≡ Some x)) ⊎ ((m : ℕ) × (slice_get ys m ≡ Some x))
  get-append [] ys k x e = inr (k, e)
  get-append (y ∷ xs) ys zero x e = inl (0, e)
  get-append (y ∷ xs) ys (suc k) x e = elim (get-append xs ys k x e) [ inl h ↦ inl (suc h.0, h.1) | inr h ↦ inr h ]

  get-mapped : {B : Type 0} (f : B → A) (xs : List B) (k : ℕ) (x : A) → slice_get (map f xs) k ≡ Some x → (y : B) × (slice_get xs k ≡ Some y) × (f y ≡ x)
  get-mapped f [] k x e = absurd cc
  get-mapped f (y ∷ xs) zero x e = (y, refl, same_Some (f y) x e)
  get-mapped f (y ∷ xs) (suc k) x e = get-mapped f xs k x e

module _ (types : List DataDecl) where
  abbrev Opens : Type 0
  Opens = Ty → List Open

  -- a walk along the path of an open position ends at its type
  abbrev HasType : Pat → Type 0
  HasType p = (ty : Ty) (k : ℕ) (o : Open) → slice_get (opens_of types p ty) k ≡ Some o → type_along types (Some (p, ty)) o.path ≡ Some o.ty

  abbrev TypedBelow : List Pat → List Ty → ℕ → Open → Type 0
  TypedBelow ps ts i o = (n : ℕ) × (path : List ℕ) × (o.path ≡ (i + n) ∷ path) × (type_along types (pair_of (slice_get ps n) (slice_get ts n)) path ≡ Some o.ty)

  typed_below : (ps : List Pat) → Each HasType ps → (ts : List Ty) (i k : ℕ) (o : Open) → slice_get (opens_below (map (opens_of types) ps) ts i) k ≡ Some o → TypedBelow ps ts i o
  typed_below [] each ts i k o e = absurd cc
  typed_below (p ∷ ps) each [] i k o e = absurd cc
  typed_below (p ∷ ps) each (t ∷ ts) i k o e =
      elim (get-append (map (below i) (opens_of types p t)) (opens_below (map (opens_of types) ps) ts (i + 1)) k o e) [
        | inl h ↦
            let m = get-mapped (below i) (opens_of types p t) h.0 o h.1 in
            let typed = each.0 t h.0 m.0 m.1 in
            let path : o.path ≡ (i + 0) ∷ m.0.path = (let same : i ≡ i + 0 = omega arith in ap (λ x. x.path) (sym m.2) ∙ ap (λ n. n ∷ m.0.path) same) in
            let ty : m.0.ty ≡ o.ty = ap (λ x. x.ty) m.2 in
            (0, m.0.path, path, typed ∙ ap Some ty)
        | inr h ↦
            let r = typed_below ps each.1 ts (i + 1) h.0 o h.1 in
            let same : i + 1 + r.0 ≡ i + suc r.0 = omega arith in
            (suc r.0, r.1, r.2 ∙ ap (λ n. n ∷ r.1) same, r.3)
      ]

  one_open : (ty : Ty) (k : ℕ) (o : Open) → slice_get (record { path = []; ty = ty } ∷ []) k ≡ Some o → record { path = []; ty = ty } ≡ o
  one_open ty zero o e = same_Some (record { path = []; ty = ty }) o e
  one_open ty (suc k) o e = absurd cc

  typed_alone : (p : Pat) (l : Pat-F Pat) (ty : Ty) (k : ℕ) (o : Open) → out-Pat p ≡ l → open_type l ty ≡ Some ty → opens_of types p ty ≡ record { path = []; ty = ty } ∷ []
      → slice_get (opens_of types p ty) k ≡ Some o → type_along types (Some (p, ty)) o.path ≡ Some o.ty
  typed_alone p l ty k o out opened opens e =
      let is = one_open ty k o (ap (λ os. slice_get os k) (sym opens) ∙ e) in
      ap (type_along types (Some (p, ty))) (ap (λ x. x.path) (sym is)) ∙ ap (λ (x : Pat-F Pat). open_type x ty) out ∙ opened ∙ ap (λ x. Some x.ty) is

  typed_cases : Cases HasType
  typed_cases = record {
    wild = λ at ty k o e. typed_alone (Q.Wild at) (P.Wild at) ty k o (X.outs-Wild at) refl (ap (λ (f : Opens). f ty) (fold-Wild Opens (opens_step types) at)) e;
    var = λ at x ty k o e. typed_alone (Q.Var at x) (P.Var at x) ty k o (X.outs-Var at x) refl (ap (λ (f : Opens). f ty) (fold-Var Opens (opens_step types) at x)) e;
    num = λ at n ty k o e. let none = ap (λ (f : Opens). slice_get (f ty) k) (sym (fold-Num Opens (opens_step types) at n)) ∙ e in absurd cc;
    con = λ at c ps each ty k o e.
        let ts = types_or_none (fields_of types c) in
        let r = typed_below ps each ts 0 k o (ap (λ (f : Opens). slice_get (f ty) k) (sym (fold-Con Opens (opens_step types) at c ps)) ∙ e) in
        let same : 0 + r.0 ≡ r.0 = omega arith in
        ap (type_along types (Some (Q.Con at c ps, ty))) (r.2 ∙ ap (λ n. n ∷ r.1) same)
        ∙ ap (λ (l : Pat-F Pat). type_along types (sub_in types l r.0) r.1) (X.outs-Con at c ps) ∙ r.3;
  }

  open_typed : (p : Pat) → HasType p
  open_typed = induction HasType typed_cases

  pub position-typed : (prov : Pat) (k : ℕ) (o : Open) → slice_get (open_positions types prov) k ≡ Some o → type_at (open_positions types prov) o.path ≡ Some o.ty
  position-typed prov k o e = type_at_walked types prov o.path ∙ open_typed prov (root_type (out-Pat prov)) k o e

same_nat : (a b : ℕ) → (a == b) ≡ true → a ≡ b
same_nat a b e = grind (arith, common_steps)

path_is : (p q : List ℕ) → same_path p q ≡ true → p ≡ q
path_is [] [] e = refl
path_is [] (j ∷ q) e = absurd cc
path_is (i ∷ p) [] e = absurd cc
path_is (i ∷ p) (j ∷ q) e = let b = and_parts (i == j) (same_path p q) e in let x = same_nat i j b.0 in let y = path_is p q b.1 in cc

-- the open position at a path
abbrev IsOpen : List Open → List ℕ → Ty → Type 0
IsOpen os path ty = (k : ℕ) × (o : Open) × (slice_get os k ≡ Some o) × (o.path ≡ path) × (o.ty ≡ ty)

open_case : (o : Open) (os : List Open) (path : List ℕ) (ty : Ty) (b : Bool) → same_path o.path path ≡ b → (type_at os path ≡ Some ty → IsOpen os path ty)
    → (if b then Some o.ty else type_at os path) ≡ Some ty → IsOpen (o ∷ os) path ty
open_case o os path ty true is rest e = (0, o, refl, path_is o.path path is, same_Some _ _ e)
open_case o os path ty false is rest e = let r = rest e in (suc r.0, r.1, r.2, r.3, r.4)

pub type-open : (os : List Open) (path : List ℕ) (ty : Ty) → type_at os path ≡ Some ty → IsOpen os path ty
type-open [] path ty e = absurd cc
type-open (o ∷ os) path ty e = open_case o os path ty (same_path o.path path) refl (type-open os path ty) e
