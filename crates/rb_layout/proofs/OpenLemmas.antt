-- Open positions, form by form.
use Rattle.std.proofs.Common.{◌≡◌, ℕ, zero, suc, ◌+◌, ◌≤◌, List, [], ◌∷◌, ◌++◌, map, length, drop, add-one, Some, None, refl, sym, ap, ◌∙◌}
use Rattle.std.specs.Prelude.{slice_get, Option, unwrap_or}
use Rattle.std.proofs.lemmas.List.{append-nil, append_assoc, map-append, drop_all}
use Rattle.rb_core.specs.declared.types.Ty.{Ty}
use Rattle.rb_core.specs.declared.types.ConRef.{ConRef}
use Rattle.rb_core.specs.declared.types.DataDecl.{DataDecl}
use Rattle.rb_core.specs.declared.pattern.Pat.{Pat, Wild, Var, Con, out-Pat}
use Rattle.rb_core.specs.Values.{fields_of}
use Rattle.rb_core.specs.Typing.{field_types}
use Rattle.rb_core.proofs.PatternLaws.{fold-Wild, fold-Var, fold-Con}
use Rattle.rb_layout.specs.Positions.{Open, below, opens_below, opens_of, opens_step, open_positions, root_type, types_or_none}
use Rattle.rb_layout.proofs.Walks.{drop_from}
use Rattle.rb_layout.specs.declared.opens.OpenPosition.{OpenPosition}
use Rattle.rb_layout.specs.Opens.{opens_at}
use Rattle.rb_layout.specs.inner.Opening.{under}

module _ (types : List DataDecl) where
  abbrev opens : Pat → Ty → List Open
  opens = opens_of types

  under-below : (path : List ℕ) (i : ℕ) (os : List Open) → map (under path) (map (below i) os) ≡ map (under (path ++ i ∷ [])) os
  under-below path i [] = refl
  under-below path i (o ∷ os) =
      let here : path ++ i ∷ o.path ≡ (path ++ i ∷ []) ++ o.path = sym (append_assoc path (i ∷ []) o.path) in
      ap (λ (p : List ℕ). record { path = p; ty = o.ty } ∷ map (under path) (map (below i) os)) here
      ∙ ap (λ (xs : List Open). record { path = (path ++ i ∷ []) ++ o.path; ty = o.ty } ∷ xs) (under-below path i os)

  abbrev rest : List ℕ → List Pat → List Ty → ℕ → List Open
  rest path pats fields i = map (under path) (opens_below (map opens (drop i pats)) (drop i fields) i)

  rest-more : (path : List ℕ) (pats : List Pat) (fields : List Ty) (i : ℕ) (p : Pat) (t : Ty) → slice_get pats i ≡ Some p → slice_get fields i ≡ Some t
      → rest path pats fields i ≡ map (under (path ++ i ∷ [])) (opens p t) ++ rest path pats fields (i + 1)
  rest-more path pats fields i p t is at =
      ap (λ (ps : List Pat). map (under path) (opens_below (map opens ps) (drop i fields) i)) (drop_from pats i p is)
      ∙ ap (λ (ts : List Ty). map (under path) (opens_below (map opens (p ∷ drop (suc i) pats)) ts i)) (drop_from fields i t at)
      ∙ map-append (under path) (map (below i) (opens p t)) (opens_below (map opens (drop (suc i) pats)) (drop (suc i) fields) (i + 1))
      ∙ ap (λ (xs : List Open). xs ++ map (under path) (opens_below (map opens (drop (suc i) pats)) (drop (suc i) fields) (i + 1))) (under-below path i (opens p t))
      ∙ ap (λ n. map (under (path ++ i ∷ [])) (opens p t) ++ map (under path) (opens_below (map opens (drop n pats)) (drop n fields) (i + 1))) (sym (add-one i))

  pub opens-more : (path longer : List ℕ) (pats : List Pat) (fields : List Ty) (i n : ℕ) (p : Pat) (t : Ty) (here next start : List Open) → slice_get pats i ≡ Some p → slice_get fields i ≡ Some t
      → longer ≡ path ++ n ∷ [] → n ≡ i → next ≡ here ++ map (under longer) (opens p t) → here ++ rest path pats fields i ≡ start → next ++ rest path pats fields (i + 1) ≡ start
  opens-more path longer pats fields i n p t here next start is at long same added all =
      let one : longer ≡ path ++ i ∷ [] = long ∙ ap (λ k. path ++ k ∷ []) same in
      ap (λ (xs : List Open). xs ++ rest path pats fields (i + 1)) (added ∙ ap (λ (q : List ℕ). here ++ map (under q) (opens p t)) one)
      ∙ append_assoc here (map (under (path ++ i ∷ [])) (opens p t)) (rest path pats fields (i + 1))
      ∙ ap (λ (xs : List Open). here ++ xs) (sym (rest-more path pats fields i p t is at)) ∙ all

  past : (fields : List Ty) (i : ℕ) → slice_get fields i ≡ None → drop i fields ≡ []
  past [] zero e = refl
  past [] (suc i) e = refl
  past (t ∷ fields) zero e = absurd cc
  past (t ∷ fields) (suc i) e = past fields i e

  no-fields : (ps : List Pat) (i : ℕ) → opens_below (map opens ps) [] i ≡ []
  no-fields [] i = refl
  no-fields (p ∷ ps) i = refl

  pub opens-stop : (path : List ℕ) (pats : List Pat) (fields : List Ty) (i : ℕ) (here start : List Open) → slice_get fields i ≡ None → here ++ rest path pats fields i ≡ start → here ≡ start
  opens-stop path pats fields i here start none all =
      let nothing : rest path pats fields i ≡ [] =
      ap (λ (ts : List Ty). map (under path) (opens_below (map opens (drop i pats)) ts i)) (past fields i none) ∙ ap (λ (os : List Open). map (under path) os) (no-fields (drop i pats) i) in
      sym (append-nil here) ∙ ap (λ (xs : List Open). here ++ xs) (sym nothing) ∙ all

  pub opens-end : (path : List ℕ) (pats : List Pat) (fields : List Ty) (i : ℕ) (here start : List Open) → length pats ≤ i → here ++ rest path pats fields i ≡ start → here ≡ start
  opens-end path pats fields i here start le all =
      let nothing : rest path pats fields i ≡ [] = ap (λ (ps : List Pat). map (under path) (opens_below (map opens ps) (drop i fields) i)) (drop_all i pats le) in
      sym (append-nil here) ∙ ap (λ (xs : List Open). here ++ xs) (sym nothing) ∙ all

  pub opens-Wild : (p : Pat) (at : ℕ) (t : Ty) → p ≡ Wild at → opens p t ≡ record { path = []; ty = t } ∷ []
  opens-Wild p at t is = ap (λ (q : Pat). opens q t) is ∙ ap (λ (f : Ty → List Open). f t) (fold-Wild (Ty → List Open) (opens_step types) at)

  pub opens-Var : (p : Pat) (at x : ℕ) (t : Ty) → p ≡ Var at x → opens p t ≡ record { path = []; ty = t } ∷ []
  opens-Var p at x t is = ap (λ (q : Pat). opens q t) is ∙ ap (λ (f : Ty → List Open). f t) (fold-Var (Ty → List Open) (opens_step types) at x)

  pub opens-Con : (p : Pat) (at : ℕ) (c : ConRef) (ps : List Pat) (t : Ty) → p ≡ Con at c ps → opens p t ≡ opens_below (map opens ps) (types_or_none (fields_of types c)) 0
  opens-Con p at c ps t is = ap (λ (q : Pat). opens q t) is ∙ ap (λ (f : Ty → List Open). f t) (fold-Con (Ty → List Open) (opens_step types) at c ps)

  under-root : (os : List Open) → map (under []) os ≡ os
  under-root [] = refl
  under-root (o ∷ os) = ap (λ (xs : List Open). o ∷ xs) (under-root os)

  pub opens-all : (p : Pat) (t : Ty) (start : List OpenPosition) (path : List ℕ) (new : List OpenPosition) → start ≡ [] → path ≡ [] → t ≡ root_type (out-Pat p)
      → opens_at new ≡ opens_at start ++ map (under path) (opens p t) → opens_at new ≡ open_positions types p
  opens-all p t start path new none root is all =
      all ∙ ap (λ (ps : List OpenPosition). opens_at ps ++ map (under path) (opens p t)) none ∙ ap (λ (q : List ℕ). map (under q) (opens p t)) root
      ∙ under-root (opens p t) ∙ ap (λ (ty : Ty). opens p ty) is

-- the types of a constructor's fields, none where the program has no such constructor
pub fields_same : (types : List DataDecl) (c : ConRef) → field_types types c ≡ types_or_none (fields_of types c)
fields_same types c = go (fields_of types c) where
  go : (o : Option (List Ty)) → unwrap_or o [] ≡ types_or_none o
  go None = refl
  go (Some ts) = refl
