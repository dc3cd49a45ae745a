-- No two matches stand at one token, so that a match is found at its token.
use Rattle.std.proofs.Common.{◌≡◌, ◌==◌, ℕ, zero, suc, inl, inr, Bool, true, false, ◌&&◌, List, [], ◌∷◌, ◌++◌, map, Some, None, not, ◌||◌, refl, sym, subst, ap, ◌∙◌}
use Rattle.std.proofs.lemmas.Bool.Decides.{eqb_tells}
use Rattle.std.proofs.lemmas.List.{map-append}
use Rattle.std.specs.Prelude.{slice_get, nat_eq, if◌then◌else◌}
use Rattle.std.specs.List.{flat_map, list_any}
use Rattle.std.proofs.lemmas.Bool.{and_parts}
use Rattle.rb_core.specs.declared.types.Ty.{Ty}
use Rattle.rb_core.specs.declared.types.ConRef.{ConRef}
use Rattle.rb_core.specs.declared.types.DataDecl.{DataDecl}
use Rattle.rb_core.specs.declared.typing.Binder.{Binder}
use Rattle.rb_core.specs.declared.site.Site.{Site}
use Rattle.rb_core.specs.declared.program.Fun.{Fun}
use Rattle.rb_core.specs.declared.expression.Op.{Op}
use Rattle.rb_core.specs.declared.expression.Clause.{Clause}
use Rattle.rb_core.specs.declared.expression.Expr.{Expr}
use Rattle.rb_core.specs.declared.expression.Expr as X
use Rattle.rb_core.specs.declared.expression.Expr.TheOpen as E
use Rattle.rb_core.specs.declared.expression.Expr.TheFolds.{fold-Clause, fold-roll-Expr, fold_out-Clause}
use Rattle.rb_core.specs.Coverage.{branch_sites, part_sites, sites}
use Rattle.rb_core.specs.Inference.{binders, inferred_type, with_binder}
use Rattle.rb_core.specs.WellNumbered.{all_tokens, body_tokens, is_distinct, match_tokens, tokens_step}
use Rattle.rb_core.proofs.CoverageForms.{part, branch, sites-Clause, sites-Num, sites-Var, sites-Call, sites-Build, sites-Binary, sites-To, sites-Let, sites-Match}
use Rattle.rb_core.proofs.ExpressionLaws.{Each, EachBody, induction}
use Rattle.rb_compile.specs.Plans.{site_at}
use Rattle.rb_compile.specs.inner.Ready.{IsAmong}

abbrev pub token : Site → ℕ
token s = s.at

abbrev clause_tokens : Clause → List ℕ
clause_tokens = fold-Clause (List ℕ) (List ℕ) tokens_step body_tokens

-- Tokens of matches, form by form

tokens-Num : (at n : ℕ) → match_tokens (X.Num at n) ≡ []
unfolding X.roll-Expr denote.Hole.Carrier.roll
tokens-Num at n = fold-roll-Expr (List ℕ) (List ℕ) tokens_step body_tokens (E.Num at n)

tokens-Var : (at x : ℕ) → match_tokens (X.Var at x) ≡ []
unfolding X.roll-Expr denote.Hole.Carrier.roll
tokens-Var at x = fold-roll-Expr (List ℕ) (List ℕ) tokens_step body_tokens (E.Var at x)

tokens-Call : (at g : ℕ) (es : List Expr) → match_tokens (X.Call at g es) ≡ all_tokens (map match_tokens es)
unfolding X.roll-Expr denote.Hole.Carrier.roll
tokens-Call at g es = fold-roll-Expr (List ℕ) (List ℕ) tokens_step body_tokens (E.Call at g es)

tokens-Build : (at : ℕ) (c : ConRef) (es : List Expr) → match_tokens (X.Build at c es) ≡ all_tokens (map match_tokens es)
unfolding X.roll-Expr denote.Hole.Carrier.roll
tokens-Build at c es = fold-roll-Expr (List ℕ) (List ℕ) tokens_step body_tokens (E.Build at c es)

tokens-Binary : (at : ℕ) (op : Op) (a b : Expr) → match_tokens (X.Binary at op a b) ≡ match_tokens a ++ match_tokens b
unfolding X.roll-Expr denote.Hole.Carrier.roll
tokens-Binary at op a b = fold-roll-Expr (List ℕ) (List ℕ) tokens_step body_tokens (E.Binary at op a b)

tokens-To : (at bits : ℕ) (a : Expr) → match_tokens (X.To at bits a) ≡ match_tokens a
unfolding X.roll-Expr denote.Hole.Carrier.roll
tokens-To at bits a = fold-roll-Expr (List ℕ) (List ℕ) tokens_step body_tokens (E.To at bits a)

tokens-Let : (at x : ℕ) (t : Ty) (a b : Expr) → match_tokens (X.Let at x t a b) ≡ match_tokens a ++ match_tokens b
unfolding X.roll-Expr denote.Hole.Carrier.roll
tokens-Let at x t a b = fold-roll-Expr (List ℕ) (List ℕ) tokens_step body_tokens (E.Let at x t a b)

tokens-Match : (at : ℕ) (e : Expr) (cs : List Clause) → match_tokens (X.Match at e cs) ≡ at ∷ (match_tokens e ++ all_tokens (map clause_tokens cs))
unfolding X.roll-Expr denote.Hole.Carrier.roll
tokens-Match at e cs = fold-roll-Expr (List ℕ) (List ℕ) tokens_step body_tokens (E.Match at e cs)

tokens-Clause : (c : Clause) → clause_tokens c ≡ match_tokens c.body
tokens-Clause c = fold_out-Clause (List ℕ) (List ℕ) tokens_step body_tokens c

-- A site's token is one of its expression's

module _ (types : List DataDecl) (funs : List Fun) where
  abbrev Same : Expr → Type 0
  Same e = (scope : List Binder) → map token (sites types funs e scope) ≡ match_tokens e

  of_parts : (es : List Expr) (scope : List Binder) → Each Same es → map token (flat_map (part_sites scope) (map (part types funs) es)) ≡ all_tokens (map match_tokens es)
  of_parts [] scope h = refl
  of_parts (e ∷ es) scope h =
      map-append token (sites types funs e scope) (flat_map (part_sites scope) (map (part types funs) es))
      ∙ ap (λ l. l ++ map token (flat_map (part_sites scope) (map (part types funs) es))) (h.0 scope) ∙ ap (λ l. match_tokens e ++ l) (of_parts es scope h.1)

  of_branches : (cs : List Clause) (t : Ty) (scope : List Binder) → EachBody Same cs → map token (flat_map (branch_sites types t scope) (map (branch types funs) cs)) ≡ all_tokens (map clause_tokens cs)
  of_branches [] t scope h = refl
  of_branches (c ∷ cs) t scope h =
      let here = branch_sites types t scope (branch types funs c) in
      let rest = flat_map (branch_sites types t scope) (map (branch types funs) cs) in
      let one : map token here ≡ clause_tokens c = ap (map token) (sites-Clause types funs c (scope ++ binders types c.pat t)) ∙ h.0 (scope ++ binders types c.pat t) ∙ sym (tokens-Clause c) in
      map-append token here rest ∙ ap (λ l. l ++ map token rest) one ∙ ap (λ l. clause_tokens c ++ l) (of_branches cs t scope h.1)

  two : (a b : Expr) (s1 s2 : List Binder) → Same a → Same b → map token (sites types funs a s1 ++ sites types funs b s2) ≡ match_tokens a ++ match_tokens b
  two a b s1 s2 f g = map-append token (sites types funs a s1) (sites types funs b s2) ∙ ap (λ l. l ++ map token (sites types funs b s2)) (f s1) ∙ ap (λ l. match_tokens a ++ l) (g s2)

  pub tokens_of : (e : Expr) → Same e
  tokens_of = induction Same (record {
    num = λ at n scope. ap (map token) (sites-Num types funs at n scope) ∙ sym (tokens-Num at n);
    var = λ at x scope. ap (map token) (sites-Var types funs at x scope) ∙ sym (tokens-Var at x);
    call = λ at g es h scope. ap (map token) (sites-Call types funs at g es scope) ∙ of_parts es scope h ∙ sym (tokens-Call at g es);
    build = λ at c es h scope. ap (map token) (sites-Build types funs at c es scope) ∙ of_parts es scope h ∙ sym (tokens-Build at c es);
    binary = λ at op a b f g scope. ap (map token) (sites-Binary types funs at op a b scope) ∙ two a b scope scope f g ∙ sym (tokens-Binary at op a b);
    to = λ at bits a f scope. ap (map token) (sites-To types funs at bits a scope) ∙ f scope ∙ sym (tokens-To at bits a);
    bound = λ at x t a b f g scope. ap (map token) (sites-Let types funs at x t a b scope) ∙ two a b scope (with_binder scope x t) f g ∙ sym (tokens-Let at x t a b);
    choice = λ at e cs f h scope.
        let t = inferred_type types funs e None scope in
        let rest = flat_map (branch_sites types t scope) (map (branch types funs) cs) in
        ap (map token) (sites-Match types funs at e cs scope)
        ∙ ap (λ l. at ∷ l) (map-append token (sites types funs e scope) rest ∙ ap (λ l. l ++ map token rest) (f scope) ∙ ap (λ l. match_tokens e ++ l) (of_branches cs t scope h))
        ∙ sym (tokens-Match at e cs);
  })

-- Distinct numbers

abbrev Distinct : List ℕ → Type 0
Distinct xs = is_distinct nat_eq xs ≡ true

not_any : (x : ℕ) (xs ys : List ℕ) → not (list_any (nat_eq x) (xs ++ ys)) ≡ true → not (list_any (nat_eq x) xs) ≡ true
not_any x [] ys h = refl
not_any x (y ∷ xs) ys h = pick (nat_eq x y) h (not_any x xs ys)
  where
    pick : (b : Bool) → not (b || list_any (nat_eq x) (xs ++ ys)) ≡ true → (not (list_any (nat_eq x) (xs ++ ys)) ≡ true → not (list_any (nat_eq x) xs) ≡ true) → not (b || list_any (nat_eq x) xs) ≡ true
    pick true e rest = cc
    pick false e rest = rest e

distinct-left : (xs ys : List ℕ) → Distinct (xs ++ ys) → Distinct xs
distinct-left [] ys h = refl
distinct-left (x ∷ xs) ys h =
    let h2 = and_parts (not (list_any (nat_eq x) (xs ++ ys))) (is_distinct nat_eq (xs ++ ys)) h in
    joined (not (list_any (nat_eq x) xs)) (is_distinct nat_eq xs) (not_any x xs ys h2.0) (distinct-left xs ys h2.1)
  where
    joined : (a b : Bool) → a ≡ true → b ≡ true → (a && b) ≡ true
    joined true b e f = f
    joined false b e f = cc

distinct-right : (xs ys : List ℕ) → Distinct (xs ++ ys) → Distinct ys
distinct-right [] ys h = h
distinct-right (x ∷ xs) ys h = distinct-right xs ys (and_parts (not (list_any (nat_eq x) (xs ++ ys))) (is_distinct nat_eq (xs ++ ys)) h).1

-- each function's tokens are distinct
pub distinct_at : (fs : List Fun) (g : ℕ) (f : Fun) → Distinct (flat_map (λ (f : Fun). match_tokens f.body) fs) → slice_get fs g ≡ Some f → Distinct (match_tokens f.body)
distinct_at [] g f h at = cc at
distinct_at (x ∷ fs) zero f h at =
    let is : x ≡ f = cc at in
    subst (λ (y : Fun). Distinct (match_tokens y.body)) is (distinct-left (match_tokens x.body) (flat_map (λ (f : Fun). match_tokens f.body) fs) h)
distinct_at (x ∷ fs) (suc g) f h at = distinct_at fs g f (distinct-right (match_tokens x.body) (flat_map (λ (f : Fun). match_tokens f.body) fs) h) at

other_token : (x : ℕ) (s : Site) (ss : List Site) → IsAmong s ss → not (list_any (nat_eq x) (map token ss)) ≡ true → nat_eq x s.at ≡ false
other_token x s [] i h = absurd i
other_token x s (y ∷ ss) (inl e) h = subst (λ (z : Site). nat_eq x z.at ≡ false) e (pick (nat_eq x y.at) h)
  where
    pick : (b : Bool) → not (b || list_any (nat_eq x) (map token ss)) ≡ true → b ≡ false
    pick true e = cc
    pick false e = refl
other_token x s (y ∷ ss) (inr i) h = pick (nat_eq x y.at) h (other_token x s ss i)
  where
    pick : (b : Bool) → not (b || list_any (nat_eq x) (map token ss)) ≡ true → (not (list_any (nat_eq x) (map token ss)) ≡ true → nat_eq x s.at ≡ false) → nat_eq x s.at ≡ false
    pick true e rest = cc
    pick false e rest = rest e

same : (n : ℕ) → (n == n) ≡ true
same n = elim (eqb_tells n n) [ inl e ↦ e.0 | inr e ↦ absurd (e.1 refl) ]

-- a match is found at its token
pub site_found : (ss : List Site) (s : Site) → Distinct (map token ss) → IsAmong s ss → site_at s.at ss ≡ Some s
site_found [] s h i = absurd i
site_found (x ∷ ss) s h (inl e) = subst (λ (y : Site). (if x.at == y.at then Some x else site_at y.at ss) ≡ Some y) e (ap (λ b. if b then Some x else site_at x.at ss) (same x.at))
site_found (x ∷ ss) s h (inr i) =
    let h2 = and_parts (not (list_any (nat_eq x.at) (map token ss))) (is_distinct nat_eq (map token ss)) h in
    let no : (x.at == s.at) ≡ false = other_token x.at s ss i h2.0 in
    ap (λ b. if b then Some x else site_at s.at ss) no ∙ site_found ss s h2.1 i
