-- The matches of an expression, gathered form by form.
use Rattle.std.proofs.Common.{◌≡◌, ℕ, zero, suc, ◌+◌, ◌<◌, List, [], ◌∷◌, ◌++◌, map, take, drop, length, get_or, None, refl, sym, ap, ◌∙◌, append_assoc, arith, add-one}
use Rattle.std.specs.List.{flat_map}
use Rattle.std.proofs.lemmas.List.{append-nil, flat_map_more}
use Rattle.std.proofs.lemmas.List.Folds.{flat_map-map}
use Rattle.rb_core.specs.declared.types.Ty.{Ty}
use Rattle.rb_core.specs.declared.types.ConRef.{ConRef}
use Rattle.rb_core.specs.declared.types.DataDecl.{DataDecl}
use Rattle.rb_core.specs.declared.typing.Binder.{Binder}
use Rattle.rb_core.specs.declared.pattern.Pat.{Pat}
use Rattle.rb_core.specs.declared.site.Site.{Site}
use Rattle.rb_core.specs.declared.program.Fun.{Fun}
use Rattle.rb_core.specs.declared.expression.Op.{Op}
use Rattle.rb_core.specs.declared.expression.Clause.{Clause}
use Rattle.rb_core.specs.declared.expression.Expr as X
use Rattle.rb_core.specs.declared.expression.Expr.{Expr}
use Rattle.rb_core.specs.Inference.{binders, inferred_type, with_binder}
use Rattle.rb_core.specs.Coverage.{SitedBranch, branch_sites, part_sites, sites}
use Rattle.rb_core.proofs.CoverageForms.{branch, part, sites-Clause, sites-Num, sites-Var, sites-Call, sites-Build, sites-Binary, sites-To, sites-Let, sites-Match}
use Rattle.rb_check.specs.inner.Covering.{argument_sites, body_sites}

-- an item, and the items before and behind it
pub split-at : {A : Type 0} (xs : List A) (i : ℕ) (x : A) → i < length xs → x ≡ get_or xs i x → xs ≡ take i xs ++ x ∷ drop (suc i) xs
split-at [] i x lt is = absurd (omega arith)
split-at (y ∷ ys) zero x lt is = let same : x ≡ y = is in rw same refl
split-at (y ∷ ys) (suc i) x lt is = ap (λ zs. y ∷ zs) (split-at ys i x (omega arith) is)

next_taken : {A : Type 0} (xs : List A) (i : ℕ) (x : A) → i < length xs → x ≡ get_or xs i x → take (suc i) xs ≡ take i xs ++ x ∷ []
next_taken [] i x lt is = absurd (omega arith)
next_taken (y ∷ ys) zero x lt is = let same : x ≡ y = is in rw same refl
next_taken (y ∷ ys) (suc i) x lt is = ap (λ zs. y ∷ zs) (next_taken ys i x (omega arith) is)

pub take-more : {A : Type 0} (xs : List A) (i : ℕ) (x : A) → i < length xs → x ≡ get_or xs i x → take (i + 1) xs ≡ take i xs ++ x ∷ []
take-more xs i x lt is = rw (add-one i) (next_taken xs i x lt is)

-- the matches of one item more
pub gathered-next : {A : Type 0} (f : A → List Site) (xs : List A) (i : ℕ) (x : A) (old mid new : List Site) → i < length xs → x ≡ get_or xs i x
    → mid ≡ old ++ flat_map f (take i xs) → new ≡ mid ++ f x → new ≡ old ++ flat_map f (take (i + 1) xs)
gathered-next f xs i x old mid new lt is e h =
    h ∙ ap (λ m. m ++ f x) e ∙ flat_map_more f old (take i xs) x ∙ ap (λ ys. old ++ flat_map f ys) (sym (take-more xs i x lt is))

joined : (a b old mid new : List Site) → mid ≡ old ++ a → new ≡ mid ++ b → new ≡ old ++ (a ++ b)
joined a b old mid new e f = f ∙ ap (λ m. m ++ b) e ∙ append_assoc old a b

module _ (types : List DataDecl) (funs : List Fun) (scope : List Binder) where
  abbrev found : Expr → List Site
  found e = sites types funs e scope

  pub added-at : (old new : List Site) (e e' : Expr) → e ≡ e' → new ≡ old ++ sites types funs e' scope → new ≡ old ++ sites types funs e scope
  added-at old new e e' is h = h ∙ ap (λ (x : Expr). old ++ sites types funs x scope) (sym is)

  pub none-Num : (at n : ℕ) (old : List Site) → old ≡ old ++ found (X.Num at n)
  none-Num at n old = sym (append-nil old) ∙ ap (λ s. old ++ s) (sym (sites-Num types funs at n scope))

  pub none-Var : (at x : ℕ) (old : List Site) → old ≡ old ++ found (X.Var at x)
  none-Var at x old = sym (append-nil old) ∙ ap (λ s. old ++ s) (sym (sites-Var types funs at x scope))

  parts-found : (es : List Expr) → flat_map (part_sites scope) (map (part types funs) es) ≡ argument_sites types funs scope es
  parts-found es = flat_map-map (part_sites scope) (part types funs) es

  pub added-Call : (at g : ℕ) (es : List Expr) (old new : List Site) → new ≡ old ++ argument_sites types funs scope es → new ≡ old ++ found (X.Call at g es)
  added-Call at g es old new h = h ∙ ap (λ s. old ++ s) (sym (sites-Call types funs at g es scope ∙ parts-found es))

  pub added-Build : (at : ℕ) (c : ConRef) (es : List Expr) (old new : List Site) → new ≡ old ++ argument_sites types funs scope es → new ≡ old ++ found (X.Build at c es)
  added-Build at c es old new h = h ∙ ap (λ s. old ++ s) (sym (sites-Build types funs at c es scope ∙ parts-found es))

  pub added-Binary : (at : ℕ) (op : Op) (a b : Expr) (old mid new : List Site) → mid ≡ old ++ found a → new ≡ mid ++ found b → new ≡ old ++ found (X.Binary at op a b)
  added-Binary at op a b old mid new e f = joined (found a) (found b) old mid new e f ∙ ap (λ s. old ++ s) (sym (sites-Binary types funs at op a b scope))

  pub added-To : (at bits : ℕ) (a : Expr) (old new : List Site) → new ≡ old ++ found a → new ≡ old ++ found (X.To at bits a)
  added-To at bits a old new h = h ∙ ap (λ s. old ++ s) (sym (sites-To types funs at bits a scope))

  pub added-Let : (at x : ℕ) (t : Ty) (a b : Expr) (old mid new : List Site) → mid ≡ old ++ found a → new ≡ mid ++ sites types funs b (with_binder scope x t) → new ≡ old ++ found (X.Let at x t a b)
  added-Let at x t a b old mid new e f = joined (found a) _ old mid new e f ∙ ap (λ s. old ++ s) (sym (sites-Let types funs at x t a b scope))

  patterns-found : (cs : List Clause) → map (λ (b : SitedBranch). b.0.pat) (map (branch types funs) cs) ≡ map (λ (c : Clause). c.pat) cs
  patterns-found [] = refl
  patterns-found (c ∷ cs) = ap (λ ps. c.pat ∷ ps) (patterns-found cs)

  bodies-found : (t : Ty) (cs : List Clause) → flat_map (branch_sites types t scope) (map (branch types funs) cs) ≡ flat_map (body_sites types funs t scope) cs
  bodies-found t [] = refl
  bodies-found t (c ∷ cs) =
      ap (λ s. s ++ flat_map (branch_sites types t scope) (map (branch types funs) cs)) (sites-Clause types funs c (scope ++ binders types c.pat t))
      ∙ ap (λ s. body_sites types funs t scope c ++ s) (bodies-found t cs)

  match-found : (at : ℕ) (e : Expr) (cs : List Clause)
      → found (X.Match at e cs) ≡ record { at = at; scrutinee = inferred_type types funs e None scope; patterns = map (λ (c : Clause). c.pat) cs }
      ∷ (found e ++ flat_map (body_sites types funs (inferred_type types funs e None scope) scope) cs)
  match-found at e cs =
      sites-Match types funs at e cs scope
      ∙ ap (λ ps. record { at = at; scrutinee = inferred_type types funs e None scope; patterns = ps } ∷ (found e ++ flat_map (branch_sites types (inferred_type types funs e None scope) scope) (map (branch types funs) cs))) (patterns-found cs)
      ∙ ap (λ ss. record { at = at; scrutinee = inferred_type types funs e None scope; patterns = map (λ (c : Clause). c.pat) cs } ∷ (found e ++ ss)) (bodies-found (inferred_type types funs e None scope) cs)

  pub added-Match : (at : ℕ) (e : Expr) (cs : List Clause) (t : Ty) (ps : List Pat) (old first mid new : List Site)
      → t ≡ inferred_type types funs e None scope → ps ≡ map (λ (c : Clause). c.pat) cs
      → first ≡ old ++ record { at = at; scrutinee = t; patterns = ps } ∷ [] → mid ≡ first ++ found e → new ≡ mid ++ flat_map (body_sites types funs t scope) cs
      → new ≡ old ++ found (X.Match at e cs)
  added-Match at e cs t ps old first mid new ty patterns pushed inner outer =
      joined (record { at = at; scrutinee = t; patterns = ps } ∷ []) _ old first new pushed (joined (found e) _ first mid new inner outer)
      ∙ ap (λ q. old ++ record { at = at; scrutinee = t; patterns = q } ∷ (found e ++ flat_map (body_sites types funs t scope) cs)) patterns
      ∙ ap (λ u. old ++ record { at = at; scrutinee = u; patterns = map (λ (c : Clause). c.pat) cs } ∷ (found e ++ flat_map (body_sites types funs u scope) cs)) ty
      ∙ ap (λ s. old ++ s) (sym (match-found at e cs))
