-- The places at the open positions of a provenance, pattern by pattern.
use Rattle.std.proofs.Common.{◌≡◌, ℕ, ◌+◌, ◌≤◌, length, map, drop, List, [], ◌∷◌, ◌++◌, Some, refl, sym, ap, ◌∙◌, append_assoc, append-nil}
use Rattle.std.specs.Prelude.{slice_get}
use Rattle.std.proofs.lemmas.List.Concat.{flat_map-append}
use Rattle.rb_core.specs.declared.types.Ty.{Ty}
use Rattle.rb_core.specs.declared.types.ConRef.{ConRef}
use Rattle.rb_core.specs.declared.types.DataDecl.{DataDecl}
use Rattle.rb_core.specs.declared.pattern.Pat.{Pat, Wild, Var, Num, Con}
use Rattle.rb_core.specs.Values.{fields_of}
use Rattle.rb_core.proofs.PatternLaws.{fold-Num}
use Rattle.rb_layout.specs.Positions.{Open, below, opens_below, opens_of, opens_step, types_or_none}
use Rattle.rb_rel.proofs.Opens.{opens-Con, opens-Wild, opens-Var}
use Rattle.rb_image.specs.declared.below.Examined.{Examined}
use Rattle.rb_image.specs.Parts.{At, place_at}
use Rattle.rb_image.specs.inner.Opening.{places_below, place_below, examined_word}
use Rattle.rb_image.proofs.DropLemmas.{drop_item, drop_past}

module _ (x : Examined) where
  abbrev types : List DataDecl
  types = x.types.now

  abbrev Place : List ℕ → Ty → List At
  Place path ty = place_at x.layouts.now (examined_word x) path ty

  one : (path : List ℕ) (ty : Ty) (os : List Open) → os ≡ record { path = []; ty = ty } ∷ [] → places_below x path os ≡ Place path ty
  one path ty os is = ap (places_below x path) is ∙ append-nil (Place (path ++ []) ty) ∙ ap (λ p. Place p ty) (append-nil path)

  pub places_below-Wild : (at : ℕ) (ty : Ty) (path : List ℕ) → places_below x path (opens_of types (Wild at) ty) ≡ Place path ty
  places_below-Wild at ty path = one path ty (opens_of types (Wild at) ty) (opens-Wild types at ty)

  pub places_below-Var : (at v : ℕ) (ty : Ty) (path : List ℕ) → places_below x path (opens_of types (Var at v) ty) ≡ Place path ty
  places_below-Var at v ty path = one path ty (opens_of types (Var at v) ty) (opens-Var types at v ty)

  pub places_below-Num : (at n : ℕ) (ty : Ty) (path : List ℕ) → places_below x path (opens_of types (Num at n) ty) ≡ []
  places_below-Num at n ty path = ap (λ (f : Ty → List Open). places_below x path (f ty)) (fold-Num (Ty → List Open) (opens_step types) at n)

  -- the places of fields, the first of which is field i
  abbrev pub fields_from : List Pat → List Ty → List ℕ → ℕ → List At
  fields_from ps ts path i = places_below x path (opens_below (map (opens_of types) ps) ts i)

  pub places_below-Con : (at : ℕ) (c : ConRef) (ps : List Pat) (ty : Ty) (path : List ℕ) → places_below x path (opens_of types (Con at c ps) ty) ≡ fields_from ps (types_or_none (fields_of types c)) path 0
  places_below-Con at c ps ty path = ap (places_below x path) (opens-Con types at c ps ty)

  longer : (path : List ℕ) (i : ℕ) (os : List Open) → places_below x path (map (below i) os) ≡ places_below x (path ++ i ∷ []) os
  longer path i [] = refl
  longer path i (o ∷ os) =
      ap (λ p. Place p o.ty ++ places_below x path (map (below i) os)) (sym (append_assoc path (i ∷ []) o.path))
      ∙ ap (λ ps. Place ((path ++ i ∷ []) ++ o.path) o.ty ++ ps) (longer path i os)

  -- one field more
  pub fields_more : (ps : List Pat) (ts : List Ty) (path : List ℕ) (i : ℕ) (p : Pat) (ty : Ty) → slice_get ps i ≡ Some p → slice_get ts i ≡ Some ty
      → fields_from (drop i ps) (drop i ts) path i ≡ places_below x (path ++ i ∷ []) (opens_of types p ty) ++ fields_from (drop (i + 1) ps) (drop (i + 1) ts) path (i + 1)
  fields_more ps ts path i p ty is_p is_ty =
      ap (λ qs. fields_from qs (drop i ts) path i) (drop_item ps i p is_p) ∙ ap (λ us. fields_from (p ∷ drop (i + 1) ps) us path i) (drop_item ts i ty is_ty)
      ∙ flat_map-append (place_below x path) (map (below i) (opens_of types p ty)) (opens_below (map (opens_of types) (drop (i + 1) ps)) (drop (i + 1) ts) (i + 1))
      ∙ ap (λ ys. ys ++ fields_from (drop (i + 1) ps) (drop (i + 1) ts) path (i + 1)) (longer path i (opens_of types p ty))

  none_typed : (fs : List (Ty → List Open)) (path : List ℕ) (i : ℕ) → places_below x path (opens_below fs [] i) ≡ []
  none_typed [] path i = refl
  none_typed (f ∷ fs) path i = refl

  -- behind the last field, or the last type, there is none
  pub fields_end : (ps : List Pat) (ts : List Ty) (path : List ℕ) (i : ℕ) → length ps ≤ i → fields_from (drop i ps) (drop i ts) path i ≡ []
  fields_end ps ts path i le = ap (λ qs. fields_from qs (drop i ts) path i) (drop_past ps i le)

  pub fields_untyped : (ps : List Pat) (ts : List Ty) (path : List ℕ) (i : ℕ) → length ts ≤ i → fields_from (drop i ps) (drop i ts) path i ≡ []
  fields_untyped ps ts path i le = ap (λ us. fields_from (drop i ps) us path i) (drop_past ts i le) ∙ none_typed (map (opens_of types) (drop i ps)) path i
