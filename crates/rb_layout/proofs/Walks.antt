-- The type at a path of a provenance is that at which a walk along the path ends.
use Rattle.std.proofs.Common.{◌≡◌, ℕ, zero, suc, ◌+◌, ◌<◌, ◌≤◌, ◌==◌, List, [], ◌∷◌, ◌++◌, map, Option, Some, None, Bool, true, false, refl, sym, ap, ◌∙◌, arith}
use Rattle.std.specs.Prelude.{◌&&◌, drop, length, slice_get, if◌then◌else◌}
use Rattle.std.specs.Option.{option_or}
use Rattle.std.proofs.lemmas.List.{drop_all}
use Rattle.std.proofs.lemmas.Option.{same_Some}
use Rattle.std.proofs.lemmas.Bool.{ne_eqb, eq-eqb}
use Rattle.rb_core.specs.declared.types.Ty.{Ty}
use Rattle.rb_core.specs.declared.types.ConRef.{ConRef}
use Rattle.rb_core.specs.declared.types.DataDecl.{DataDecl}
use Rattle.rb_core.specs.declared.pattern.Pat.{Pat, Wild, Var, Num, Con, out-Pat}
use Rattle.rb_core.specs.declared.pattern.Pat.TheVariants as X
use Rattle.rb_core.specs.declared.pattern.Pat.TheOpen as P
use Rattle.rb_core.specs.declared.pattern.Pat.TheOpen.{Pat-F}
use Rattle.rb_core.specs.Values.{fields_of}
use Rattle.rb_core.proofs.PatternLaws.{fold-Wild, fold-Var, fold-Num, fold-Con, Each, induction}
use Rattle.rb_layout.specs.Positions.{Open, below, opens_below, opens_step, opens_of, open_positions, types_or_none, root_type, pair_of, sub_in, sub_pattern}
use Rattle.rb_layout.specs.Flattening.{same_path, type_at}
use Rattle.rb_layout.specs.inner.Walking.{open_type, type_along}

-- Lists of open positions -----------------------------------------------------------------------

type_at_first : (b : Bool) (ty : Ty) (os : List Open) (path : List ℕ) (ys : List Open) → type_at (os ++ ys) path ≡ option_or (type_at os path) (type_at ys path)
    → (if b then Some ty else type_at (os ++ ys) path) ≡ option_or (if b then Some ty else type_at os path) (type_at ys path)
type_at_first true ty os path ys e = refl
type_at_first false ty os path ys e = e

pub type_at-append : (xs ys : List Open) (path : List ℕ) → type_at (xs ++ ys) path ≡ option_or (type_at xs path) (type_at ys path)
type_at-append [] ys path = refl
type_at-append (o ∷ os) ys path = type_at_first (same_path o.path path) o.ty os path ys (type_at-append os ys path)

-- below field i
type_at_under : (b c : Bool) (ty : Ty) (rest all : Option Ty) → rest ≡ (if b then all else None)
    → (if b && c then Some ty else rest) ≡ (if b then (if c then Some ty else all) else None)
type_at_under true true ty rest all e = refl
type_at_under true false ty rest all e = e
type_at_under false c ty rest all e = e

none_either : (b : Bool) → ◌≡◌ {A = Option Ty} None (if b then None else None)
none_either true = refl
none_either false = refl

pub type_at-below : (i k : ℕ) (os : List Open) (path : List ℕ) → type_at (map (below i) os) (k ∷ path) ≡ (if i == k then type_at os path else None)
type_at-below i k [] path = none_either (i == k)
type_at-below i k (o ∷ os) path =
    type_at_under (i == k) (same_path o.path path) o.ty (type_at (map (below i) os) (k ∷ path)) (type_at os path) (type_at-below i k os path)

type_at-below-root : (i : ℕ) (os : List Open) → type_at (map (below i) os) [] ≡ None
type_at-below-root i [] = refl
type_at-below-root i (o ∷ os) = type_at-below-root i os

option_or_None : {A : Type 0} (x : Option A) → option_or x None ≡ x
option_or_None None = refl
option_or_None (Some a) = refl

pub drop_from : {A : Type 0} (xs : List A) (i : ℕ) (x : A) → slice_get xs i ≡ Some x → drop i xs ≡ x ∷ drop (suc i) xs
drop_from [] i x e = absurd cc
drop_from (y ∷ ys) zero x e = ap (λ z. z ∷ ys) (same_Some y x e)
drop_from (y ∷ ys) (suc i) x e = drop_from ys i x e

-- Patterns ----------------------------------------------------------------------------------------

module _ (types : List DataDecl) where
  abbrev opens : Pat → Ty → List Open
  opens = opens_of types

  not_at_root : (ps : List Pat) (ts : List Ty) (i : ℕ) → type_at (opens_below (map opens ps) ts i) [] ≡ None
  not_at_root [] ts i = refl
  not_at_root (p ∷ ps) [] i = refl
  not_at_root (p ∷ ps) (t ∷ ts) i =
      type_at-append (map (below i) (opens p t)) (opens_below (map opens ps) ts (i + 1)) []
      ∙ ap (λ x. option_or x (type_at (opens_below (map opens ps) ts (i + 1)) [])) (type_at-below-root i (opens p t))
      ∙ not_at_root ps ts (i + 1)

  -- fields before the first
  not_before : (ps : List Pat) (ts : List Ty) (i k : ℕ) (q : List ℕ) → k < i → type_at (opens_below (map opens ps) ts i) (k ∷ q) ≡ None
  not_before [] ts i k q lt = refl
  not_before (p ∷ ps) [] i k q lt = refl
  not_before (p ∷ ps) (t ∷ ts) i k q lt =
      let other : (i == k) ≡ false = ne_eqb i k (λ e. absurd (omega (arith, e, lt))) in
      type_at-append (map (below i) (opens p t)) (opens_below (map opens ps) ts (i + 1)) (k ∷ q)
      ∙ ap (λ x. option_or x (type_at (opens_below (map opens ps) ts (i + 1)) (k ∷ q)))
      (type_at-below i k (opens p t) q ∙ ap (λ b. if b then type_at (opens p t) q else None) other)
      ∙ not_before ps ts (i + 1) k q (omega (arith, lt))

  abbrev Walks : Pat → Type 0
  Walks p = (ty : Ty) (path : List ℕ) → type_at (opens p ty) path ≡ type_along types (Some (p, ty)) path

  no_type : (p : Option Pat) (q : List ℕ) → None ≡ type_along types (pair_of p None) q
  no_type None q = refl
  no_type (Some p) q = refl

  field_walk : (ps : List Pat) → Each Walks ps → (ts : List Ty) (i k : ℕ) (q : List ℕ)
      → type_at (opens_below (map opens ps) ts i) ((i + k) ∷ q) ≡ type_along types (pair_of (slice_get ps k) (slice_get ts k)) q
  field_walk [] each ts i k q = refl
  field_walk (p ∷ ps) each [] i zero q = refl
  field_walk (p ∷ ps) each [] i (suc k) q = no_type (slice_get ps k) q
  field_walk (p ∷ ps) each (t ∷ ts) i zero q =
      let same : (i == (i + 0)) ≡ true = eq-eqb i (i + 0) (omega arith) in
      type_at-append (map (below i) (opens p t)) (opens_below (map opens ps) ts (i + 1)) ((i + 0) ∷ q)
      ∙ ap (λ x. option_or x (type_at (opens_below (map opens ps) ts (i + 1)) ((i + 0) ∷ q)))
      (type_at-below i (i + 0) (opens p t) q ∙ ap (λ b. if b then type_at (opens p t) q else None) same)
      ∙ ap (λ x. option_or (type_at (opens p t) q) x) (not_before ps ts (i + 1) (i + 0) q (omega arith))
      ∙ option_or_None (type_at (opens p t) q)
      ∙ each.0 t q
  field_walk (p ∷ ps) each (t ∷ ts) i (suc k) q =
      let other : (i == (i + suc k)) ≡ false = ne_eqb i (i + suc k) (λ e. absurd (omega (arith, e))) in
      let next : i + suc k ≡ (i + 1) + k = omega arith in
      type_at-append (map (below i) (opens p t)) (opens_below (map opens ps) ts (i + 1)) ((i + suc k) ∷ q)
      ∙ ap (λ x. option_or x (type_at (opens_below (map opens ps) ts (i + 1)) ((i + suc k) ∷ q)))
      (type_at-below i (i + suc k) (opens p t) q ∙ ap (λ b. if b then type_at (opens p t) q else None) other)
      ∙ ap (λ n. type_at (opens_below (map opens ps) ts (i + 1)) (n ∷ q)) next
      ∙ field_walk ps each.1 ts (i + 1) k q

  open_wild : (ty : Ty) (p : Pat) (l : Pat-F Pat) → out-Pat p ≡ l → (path : List ℕ)
      → open_type l ty ≡ Some ty → ((i : ℕ) → sub_in types l i ≡ None) → type_at (record { path = []; ty = ty } ∷ []) path ≡ type_along types (Some (p, ty)) path
  open_wild ty p l is [] opened none = sym (ap (λ (x : Pat-F Pat). open_type x ty) is ∙ opened)
  open_wild ty p l is (k ∷ q) opened none = sym (ap (λ (x : Option (Pat × Ty)). type_along types x q) (ap (λ (x : Pat-F Pat). sub_in types x k) is ∙ none k))

  at_wild : (at : ℕ) → Walks (Wild at)
  at_wild at ty path = ap (λ (f : Ty → List Open). type_at (f ty) path) (fold-Wild (Ty → List Open) (opens_step types) at)
      ∙ open_wild ty (Wild at) (P.Wild at) (X.outs-Wild at) path refl (λ i. refl)

  at_var : (at x : ℕ) → Walks (Var at x)
  at_var at x ty path = ap (λ (f : Ty → List Open). type_at (f ty) path) (fold-Var (Ty → List Open) (opens_step types) at x)
      ∙ open_wild ty (Var at x) (P.Var at x) (X.outs-Var at x) path refl (λ i. refl)

  at_num : (at n : ℕ) → Walks (Num at n)
  at_num at n ty [] = ap (λ (f : Ty → List Open). type_at (f ty) []) (fold-Num (Ty → List Open) (opens_step types) at n)
      ∙ sym (ap (λ (l : Pat-F Pat). open_type l ty) (X.outs-Num at n))
  at_num at n ty (k ∷ q) = ap (λ (f : Ty → List Open). type_at (f ty) (k ∷ q)) (fold-Num (Ty → List Open) (opens_step types) at n)
      ∙ sym (ap (λ (l : Pat-F Pat). type_along types (sub_in types l k) q) (X.outs-Num at n))

  plus_none : (k : ℕ) → k ≡ 0 + k
  plus_none k = omega arith

  at_con : (at : ℕ) (c : ConRef) (ps : List Pat) → Each Walks ps → Walks (Con at c ps)
  at_con at c ps each ty [] = ap (λ (f : Ty → List Open). type_at (f ty) []) (fold-Con (Ty → List Open) (opens_step types) at c ps)
      ∙ not_at_root ps (types_or_none (fields_of types c)) 0
      ∙ sym (ap (λ (l : Pat-F Pat). open_type l ty) (X.outs-Con at c ps))
  at_con at c ps each ty (k ∷ q) = ap (λ (f : Ty → List Open). type_at (f ty) (k ∷ q)) (fold-Con (Ty → List Open) (opens_step types) at c ps)
      ∙ ap (λ n. type_at (opens_below (map opens ps) (types_or_none (fields_of types c)) 0) (n ∷ q)) (plus_none k)
      ∙ field_walk ps each (types_or_none (fields_of types c)) 0 k q
      ∙ sym (ap (λ (l : Pat-F Pat). type_along types (sub_in types l k) q) (X.outs-Con at c ps))

  pub type_at-opens : (p : Pat) → Walks p
  type_at-opens p = induction Walks (record { wild = at_wild; var = at_var; num = at_num; con = at_con }) p

  -- the type at an open position of a provenance
  pub type_at_walked : (p : Pat) (path : List ℕ) → type_at (open_positions types p) path ≡ type_along types (Some (p, root_type (out-Pat p))) path
  type_at_walked p path = type_at-opens p (root_type (out-Pat p)) path

  -- a subpattern and its type, by what is found of either
  pub sub_found : (p : Pat) (i at : ℕ) (c : ConRef) (ps : List Pat) (sub : Option Pat) (ty : Option Ty) → p ≡ Con at c ps → sub ≡ slice_get ps i
      → ty ≡ slice_get (types_or_none (fields_of types c)) i → sub_pattern types p i ≡ pair_of sub ty
  sub_found p i at c ps sub ty is e f =
      ap (λ (l : Pat-F Pat). sub_in types l i) (ap out-Pat is ∙ X.outs-Con at c ps)
      ∙ ap (λ (x : Option Pat). pair_of x (slice_get (types_or_none (fields_of types c)) i)) (sym e)
      ∙ ap (λ (y : Option Ty). pair_of sub y) (sym f)

  -- a walk at its end, and one that stops
  pub walk_ends : (start : Option (Pat × Ty)) (p : Pat) (ty : Ty) (path : List ℕ) (i : ℕ) → length path ≤ i
      → type_along types (Some (p, ty)) (drop i path) ≡ type_along types start path → open_type (out-Pat p) ty ≡ type_along types start path
  walk_ends start p ty path i le invariant = sym (ap (λ (q : List ℕ). type_along types (Some (p, ty)) q) (drop_all i path le)) ∙ invariant

  pub walk_stops : (start : Option (Pat × Ty)) (p : Pat) (ty : Ty) (path : List ℕ) (i field : ℕ) → slice_get path i ≡ Some field → sub_pattern types p field ≡ None
      → type_along types (Some (p, ty)) (drop i path) ≡ type_along types start path → None ≡ type_along types start path
  walk_stops start p ty path i field is none invariant =
      sym (ap (λ (q : List ℕ). type_along types (Some (p, ty)) q) (drop_from path i field is) ∙ ap (λ (x : Option (Pat × Ty)). type_along types x (drop (suc i) path)) none) ∙ invariant
