-- Which parts are there, pattern by pattern.
use Rattle.std.proofs.Common.{◌≡◌, ℕ, zero, suc, ◌+◌, ◌≤◌, inl, inr, List, [], ◌∷◌, ◌++◌, map, length, drop, add-one, Option, Some, None, refl, sym, subst, ap, ◌∙◌, arith}
use Rattle.std.specs.Prelude.{slice_get, unwrap_or}
use Rattle.std.proofs.lemmas.List.{append_assoc, drop_all}
use Rattle.rb_core.specs.declared.types.Ty.{Ty}
use Rattle.rb_core.specs.declared.types.ConRef.{ConRef}
use Rattle.rb_core.specs.declared.types.DataDecl.{DataDecl}
use Rattle.rb_core.specs.declared.pattern.Pat.{Pat, Con}
use Rattle.rb_core.specs.Typing.{field_types}
use Rattle.rb_core.specs.Values.{fields_of}
use Rattle.rb_layout.specs.Positions.{Open, below, opens_below, opens_of, types_or_none}
use Rattle.rb_layout.proofs.Walks.{drop_from}
use Rattle.rb_rel.proofs.Lists.{get-append, get-map}
use Rattle.rb_rel.proofs.Opens.{opens-Con}
use Rattle.rb_compose.specs.declared.subvalue.Subvalue.{Subvalue}
use Rattle.rb_compose.specs.Subvalues.{subvalue_at}
use Rattle.rb_fetch.specs.inner.Choosing.{HasOpens}

pub beyond : (ts : List Ty) (i : ℕ) → length ts ≤ i → slice_get ts i ≡ None
beyond [] i le = refl
beyond (t ∷ ts) zero le = absurd (omega (arith, le))
beyond (t ∷ ts) (suc i) le = beyond ts i (omega (arith, le))

module _ (types : List DataDecl) (xs : List Subvalue) where
  abbrev Rest : List ℕ → List Pat → List Ty → ℕ → Type 0
  Rest path pats fields i = HasOpens (opens_below (map (opens_of types) (drop i pats)) (drop i fields) i) path xs

  -- those of one field, and those behind it
  opens-more : (path : List ℕ) (i : ℕ) (p : List Open) (rest : List Open) → HasOpens p (path ++ i ∷ []) xs → HasOpens rest path xs → HasOpens (map (below i) p ++ rest) path xs
  opens-more path i p rest a b k o e = elim (get-append (map (below i) p) rest k o e) [
    | inl h ↦
        let g = get-map (below i) p k o h in
        let f = a k g.0 g.1 in
        let at : (path ++ i ∷ []) ++ g.0.path ≡ path ++ o.path = append_assoc path (i ∷ []) g.0.path ∙ ap (λ (q : Open). path ++ q.path) (sym g.2) in
        (f.0, ap (subvalue_at xs) (sym at) ∙ f.1, f.2 ∙ ap (λ (q : Open). q.ty) (sym g.2))
    | inr h ↦ b h.0 o h.1
  ]

  pub given-more : (path longer : List ℕ) (pats : List Pat) (fields : List Ty) (i : ℕ) (p : Pat) (t : Ty) → slice_get pats i ≡ Some p → slice_get fields i ≡ Some t → longer ≡ path ++ i ∷ []
      → HasOpens (opens_of types p t) longer xs → Rest path pats fields (i + 1) → Rest path pats fields i
  given-more path longer pats fields i p t is at long here rest =
      let os = opens_below (map (opens_of types) (drop (suc i) pats)) (drop (suc i) fields) (i + 1) in
      let rest1 : HasOpens os path xs = subst (λ n. HasOpens (opens_below (map (opens_of types) (drop n pats)) (drop n fields) (i + 1)) path xs) (add-one i) rest in
      let both = opens-more path i (opens_of types p t) os (subst (λ q. HasOpens (opens_of types p t) q xs) long here) rest1 in
      subst (λ (ps : List Pat). HasOpens (opens_below (map (opens_of types) ps) (drop i fields) i) path xs) (sym (drop_from pats i p is))
      (subst (λ (ts : List Ty). HasOpens (opens_below (map (opens_of types) (p ∷ drop (suc i) pats)) ts i) path xs) (sym (drop_from fields i t at)) both)

  past : (fields : List Ty) (i : ℕ) → slice_get fields i ≡ None → drop i fields ≡ []
  past [] zero e = refl
  past [] (suc i) e = refl
  past (t ∷ fields) zero e = absurd cc
  past (t ∷ fields) (suc i) e = past fields i e

  no-fields : (path : List ℕ) (ps : List Pat) (i : ℕ) → HasOpens (opens_below (map (opens_of types) ps) [] i) path xs
  no-fields path [] i k o e = absurd cc
  no-fields path (p ∷ ps) i k o e = absurd cc

  pub given-stop : (path : List ℕ) (pats : List Pat) (fields : List Ty) (i : ℕ) → slice_get fields i ≡ None → Rest path pats fields i
  given-stop path pats fields i none =
      subst (λ (ts : List Ty). HasOpens (opens_below (map (opens_of types) (drop i pats)) ts i) path xs) (sym (past fields i none)) (no-fields path (drop i pats) i)

  no-pats : (path : List ℕ) (ts : List Ty) (i : ℕ) → HasOpens (opens_below [] ts i) path xs
  no-pats path ts i k o e = absurd cc

  pub given-end : (path : List ℕ) (pats : List Pat) (fields : List Ty) (i : ℕ) → length pats ≤ i → Rest path pats fields i
  given-end path pats fields i le =
      subst (λ (ps : List Pat). HasOpens (opens_below (map (opens_of types) ps) (drop i fields) i) path xs) (sym (drop_all i pats le)) (no-pats path (drop i fields) i)

  pub given-con : (pat : Pat) (at : ℕ) (c : ConRef) (pats : List Pat) (ty : Ty) (path : List ℕ) → pat ≡ Con at c pats → HasOpens (opens_below (map (opens_of types) pats) (field_types types c) 0) path xs
      → HasOpens (opens_of types pat ty) path xs
  given-con pat at c pats ty path is has =
      subst (λ (os : List Open). HasOpens os path xs) (sym (ap (λ (p : Pat). opens_of types p ty) is ∙ opens-Con types at c pats ty ∙ ap (λ ts. opens_below (map (opens_of types) pats) ts 0) (same_types (fields_of types c)))) has
    where
      same_types : (o : Option (List Ty)) → types_or_none o ≡ unwrap_or o []
      same_types None = refl
      same_types (Some ts) = refl
