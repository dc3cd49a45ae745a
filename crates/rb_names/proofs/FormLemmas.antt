-- Expressions, form by form, from what is found of their parts: a fault of a part is the fault of the whole.
use Rattle.std.proofs.Common.{◌≡◌, ℕ, suc, ◌+◌, List, ◌∷◌, map, Ok, Err, sym, ap, ◌∙◌, subst, add-one}
use Rattle.std.specs.Result.{IsErrAnd}
use Rattle.rb_core.specs.declared.expression.Op.{Op}
use Rattle.rb_core.specs.declared.types.Ty.{Ty}
use Rattle.rb_core.specs.declared.expression.Expr.{Expr}
use Rattle.rb_core.specs.declared.expression.Expr as core
use Rattle.rb_syntax.specs.declared.tree.NameTree.{NameTree}
use Rattle.rb_syntax.specs.declared.tree.TyTree.{TyTree}
use Rattle.rb_syntax.specs.declared.tree.ClauseTree.{ClauseTree}
use Rattle.rb_syntax.specs.declared.tree.ExprTree.{ExprTree}
use Rattle.rb_syntax.specs.declared.tree.ExprTree as X
use Rattle.rb_syntax.specs.declared.tree.ExprTree.TheOpen as expr
use Rattle.rb_names.specs.declared.fault.NameFault.{NameFault}
use Rattle.rb_names.specs.declared.fault.NameFault.TheVariants.{Twice, Unknown, NoMain, Memory}
use Rattle.rb_names.specs.declared.tables.Tables.{Tables}
use Rattle.rb_names.specs.Tables.{meaning}
use Rattle.rb_names.specs.Scopes.{Scope}
use Rattle.rb_names.specs.Answers.{AnswersNumbering}
use Rattle.rb_names.specs.Numbering.{Resolved, Numbered, and_then, name_found, numbered_as, in_turn, numbered_type, expr_step, numbered_expression}
use Rattle.rb_names.specs.inner.Parts.{AnswersFrom, numbered_clause}
use Rattle.rb_names.proofs.ExpressionEquations.{expr-Num, expr-Var, expr-Let, expr-Call, expr-Build, expr-Binary, expr-To, expr-Match}

through : {A B : Type 0} (fault : NameFault) (after : ℕ) (here : Resolved A) (gives : Resolved (Numbered B))
    → AnswersNumbering (Err fault) here → ((f : NameFault) → here ≡ Err f → gives ≡ Err f) → AnswersFrom (Err fault) after gives
through Memory after here gives h k = tt
through (Twice name at) after here gives h k = k _ h
through (Unknown name at) after here gives h k = k _ h
through NoMain after here gives h k = k _ h

-- a fault that ends a call is passed on
pub From-fails : {A B : Type 0} (r : Resolved B) (after : ℕ) (fault : NameFault) (here : Resolved A) (gives : Resolved (Numbered B))
    → IsErrAnd r (λ e. e ≡ fault) → AnswersNumbering (Err fault) here → ((f : NameFault) → here ≡ Err f → gives ≡ Err f) → AnswersFrom r after gives
From-fails (Err e) after fault here gives is h k = subst (λ x. AnswersFrom (Err x) after gives) (sym is) (through fault after here gives h k)
From-fails (Ok done) after fault here gives is h k = absurd is

-- a name, and then parts
module _ {A B C : Type 0} (whole : A → B → C) where
  abbrev pub named : Resolved A → Resolved (Numbered B) → Resolved (Numbered C)
  named r s = and_then r (λ a. and_then s (λ b. numbered_as (whole a b.what) b.next))

  pub name-fails : (r : Resolved A) (s : Resolved (Numbered B)) (f : NameFault) → r ≡ Err f → named r s ≡ Err f
  name-fails r s f h = ap (λ x. named x s) h

  pub parts-fail : (r : Resolved A) (s : Resolved (Numbered B)) (a : A) (f : NameFault) → r ≡ Ok a → s ≡ Err f → named r s ≡ Err f
  parts-fail r s a f h g = ap (λ x. named x s) h ∙ ap (λ y. named (Ok a) y) g

  pub named-found : (r : Resolved A) (s : Resolved (Numbered B)) (a : A) (b : Numbered B) → r ≡ Ok a → s ≡ Ok b
      → named r s ≡ numbered_as (whole a b.what) b.next
  named-found r s a b h g = ap (λ x. named x s) h ∙ ap (λ y. named (Ok a) y) g

-- one part, and then another
module _ {A B C : Type 0} (whole : A → B → C) where
  abbrev pub both : Resolved (Numbered A) → (ℕ → Resolved (Numbered B)) → Resolved (Numbered C)
  both r s = and_then r (λ a. and_then (s a.next) (λ b. numbered_as (whole a.what b.what) b.next))

  pub first-fails : (r : Resolved (Numbered A)) (s : ℕ → Resolved (Numbered B)) (f : NameFault) → r ≡ Err f → both r s ≡ Err f
  first-fails r s f h = ap (λ x. both x s) h

  pub second-fails : (r : Resolved (Numbered A)) (s : ℕ → Resolved (Numbered B)) (a : Numbered A) (f : NameFault) → r ≡ Ok a → s a.next ≡ Err f → both r s ≡ Err f
  second-fails r s a f h g = ap (λ x. both x s) h ∙ ap (λ y. and_then y (λ b. numbered_as (whole a.what b.what) b.next)) g

  pub both-found : (r : Resolved (Numbered A)) (s : ℕ → Resolved (Numbered B)) (a : Numbered A) (b : Numbered B) → r ≡ Ok a → s a.next ≡ Ok b
      → both r s ≡ numbered_as (whole a.what b.what) b.next
  both-found r s a b h g = ap (λ x. both x s) h ∙ ap (λ y. and_then y (λ b. numbered_as (whole a.what b.what) b.next)) g

-- one part
module _ {A C : Type 0} (whole : A → C) where
  abbrev pub alone : Resolved (Numbered A) → Resolved (Numbered C)
  alone r = and_then r (λ a. numbered_as (whole a.what) a.next)

  pub alone-fails : (r : Resolved (Numbered A)) (f : NameFault) → r ≡ Err f → alone r ≡ Err f
  alone-fails r f h = ap alone h

  pub alone-found : (r : Resolved (Numbered A)) (a : Numbered A) → r ≡ Ok a → alone r ≡ numbered_as (whole a.what) a.next
  alone-found r a h = ap alone h

-- a `let`
module _ (t : Tables) (at : ℕ) (name : NameTree) (ty : TyTree) (a b : ExprTree) (scope : Scope) (next : ℕ) where
  abbrev let_of : Resolved Ty → Resolved (Numbered Expr) → (ℕ → Resolved (Numbered Expr)) → Resolved (Numbered Expr)
  let_of r s body = and_then r (λ u. and_then s (λ x. and_then (body x.next) (λ y. numbered_as (core.Let at next u x.what y.what) y.next)))

  abbrev bound_in : Resolved (Numbered Expr)
  bound_in = numbered_expression t a scope (suc next)

  abbrev body_in : ℕ → Resolved (Numbered Expr)
  body_in = numbered_expression t b ((name.text, next) ∷ scope)

  abbrev let_whole : Resolved (Numbered Expr)
  let_whole = expr_step t (expr.Let at name ty (numbered_expression t a) (numbered_expression t b)) scope next

  pub type-fails : (f : NameFault) → numbered_type t ty ≡ Err f → let_whole ≡ Err f
  type-fails f h = ap (λ r. let_of r bound_in body_in) h

  -- the bound expression is numbered behind the variable
  module _ (u : Ty) (typed : numbered_type t ty ≡ Ok u) (after : ℕ) (counted : after ≡ next + 1) where
    bound-is : (r : Resolved (Numbered Expr)) → numbered_expression t a scope after ≡ r → let_whole ≡ let_of (Ok u) r body_in
    bound-is r h =
        ap (λ q. let_of q bound_in body_in) typed
        ∙ ap (λ q. let_of (Ok u) q body_in) (ap (numbered_expression t a scope) (sym (counted ∙ add-one next)) ∙ h)

    pub bound-fails : (f : NameFault) → numbered_expression t a scope after ≡ Err f → let_whole ≡ Err f
    bound-fails f h = bound-is (Err f) h

    -- and the body inside it
    module _ (x : Numbered Expr) (bound : numbered_expression t a scope after ≡ Ok x) (var : ℕ) (is : var ≡ next) (inner : Scope) (opened : inner ≡ (name.text, var) ∷ scope) where
      body-is : (r : Resolved (Numbered Expr)) → numbered_expression t b inner x.next ≡ r
          → let_whole ≡ and_then r (λ y. numbered_as (core.Let at next u x.what y.what) y.next)
      body-is r h =
          bound-is (Ok x) bound
          ∙ ap (λ q. and_then q (λ y. numbered_as (core.Let at next u x.what y.what) y.next))
          (ap (λ s. numbered_expression t b s x.next) (sym (opened ∙ ap (λ n. (name.text, n) ∷ scope) is)) ∙ h)

      pub body-fails : (f : NameFault) → numbered_expression t b inner x.next ≡ Err f → let_whole ≡ Err f
      body-fails f h = body-is (Err f) h

      pub let-found : (y : Numbered Expr) → numbered_expression t b inner x.next ≡ Ok y → let_whole ≡ numbered_as (core.Let at var u x.what y.what) y.next
      let-found y h = body-is (Ok y) h ∙ ap (λ n. numbered_as (core.Let at n u x.what y.what) y.next) (sym is)

-- the forms
module _ (t : Tables) (tree : ExprTree) (scope : Scope) (next : ℕ) where
  pub is-Num : (at n : ℕ) → tree ≡ X.Num at n → numbered_expression t tree scope next ≡ numbered_as (core.Num at n) next
  is-Num at n is = ap (λ (e : ExprTree). numbered_expression t e scope next) is ∙ expr-Num t at n scope next

  -- a variable
  module _ (at : ℕ) (name : NameTree) (is : tree ≡ X.Var at name) where
    var-is : (r : Resolved ℕ) → name_found name (meaning scope name.text) ≡ r → numbered_expression t tree scope next ≡ and_then r (λ x. numbered_as (core.Var at x) next)
    var-is r h =
        ap (λ (e : ExprTree). numbered_expression t e scope next) is ∙ expr-Var t at name scope next
        ∙ ap (λ q. and_then q (λ x. numbered_as (core.Var at x) next)) h

    pub var-fails : (f : NameFault) → name_found name (meaning scope name.text) ≡ Err f → numbered_expression t tree scope next ≡ Err f
    var-fails f h = var-is (Err f) h

    pub var-found : (x : ℕ) → name_found name (meaning scope name.text) ≡ Ok x → numbered_expression t tree scope next ≡ numbered_as (core.Var at x) next
    var-found x h = var-is (Ok x) h

  pub is-Let : (at : ℕ) (name : NameTree) (ty : TyTree) (a b : ExprTree) → tree ≡ X.Let at name ty a b
      → numbered_expression t tree scope next ≡ expr_step t (expr.Let at name ty (numbered_expression t a) (numbered_expression t b)) scope next
  is-Let at name ty a b is = ap (λ (e : ExprTree). numbered_expression t e scope next) is ∙ expr-Let t at name ty a b scope next

  pub is-Call : (at : ℕ) (name : NameTree) (es : List ExprTree) → tree ≡ X.Call at name es
      → numbered_expression t tree scope next ≡ named (core.Call at) (name_found name (meaning t.functions name.text)) (in_turn (map (numbered_expression t) es) scope next)
  is-Call at name es is = ap (λ (e : ExprTree). numbered_expression t e scope next) is ∙ expr-Call t at name es scope next

  pub is-Build : (at : ℕ) (name : NameTree) (es : List ExprTree) → tree ≡ X.Build at name es
      → numbered_expression t tree scope next ≡ named (core.Build at) (name_found name (meaning t.constructors name.text)) (in_turn (map (numbered_expression t) es) scope next)
  is-Build at name es is = ap (λ (e : ExprTree). numbered_expression t e scope next) is ∙ expr-Build t at name es scope next

  pub is-Binary : (at : ℕ) (op : Op) (a b : ExprTree) → tree ≡ X.Binary at op a b
      → numbered_expression t tree scope next ≡ both (core.Binary at op) (numbered_expression t a scope next) (numbered_expression t b scope)
  is-Binary at op a b is = ap (λ (e : ExprTree). numbered_expression t e scope next) is ∙ expr-Binary t at op a b scope next

  pub is-To : (at bits : ℕ) (a : ExprTree) → tree ≡ X.To at bits a → numbered_expression t tree scope next ≡ alone (core.To at bits) (numbered_expression t a scope next)
  is-To at bits a is = ap (λ (e : ExprTree). numbered_expression t e scope next) is ∙ expr-To t at bits a scope next

  pub is-Match : (at : ℕ) (e : ExprTree) (cs : List ClauseTree) → tree ≡ X.Match at e cs
      → numbered_expression t tree scope next ≡ both (core.Match at) (numbered_expression t e scope next) (in_turn (map (numbered_clause t) cs) scope)
  is-Match at e cs is = ap (λ (x : ExprTree). numbered_expression t x scope next) is ∙ expr-Match t at e cs scope next
