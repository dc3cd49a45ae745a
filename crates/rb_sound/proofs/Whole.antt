-- Whole expressions: each number has at most 64 bits, and each constructor is there. A well numbered
-- expression whose numbers have at most 64 bits is whole.
use Rattle.std.proofs.Common.{◌≡◌, ℕ, ◌^◌, List, [], ◌∷◌, ◌++◌, map, length, Bool, true, ◌&&◌, refl, sym, ◌∙◌, Some}
use Rattle.std.specs.Prelude.{is_some, nat_lt, nat_le, slice_get}
use Rattle.std.specs.List.{list_all}
use Rattle.std.proofs.lemmas.Bool.{and_parts}
use Rattle.std.proofs.lemmas.List.Folds.{list_all-map}
use Rattle.rb_core.specs.declared.types.Ty.{Ty}
use Rattle.rb_core.specs.declared.types.ConRef.{ConRef}
use Rattle.rb_core.specs.declared.types.DataDecl.{DataDecl}
use Rattle.rb_core.specs.declared.program.Fun.{Fun}
use Rattle.rb_core.specs.declared.program.Program.{Program}
use Rattle.rb_core.specs.declared.expression.Op.{Op}
use Rattle.rb_core.specs.declared.expression.Clause.{Clause, Clause-F}
use Rattle.rb_core.specs.declared.expression.Expr.{Expr}
use Rattle.rb_core.specs.declared.expression.Expr as X
use Rattle.rb_core.specs.declared.expression.Expr.TheOpen as E
use Rattle.rb_core.specs.declared.expression.Expr.TheOpen.{Expr-F}
use Rattle.rb_core.specs.declared.expression.Expr.TheFolds.{fold-Expr, fold-roll-Expr, fold-Clause, fold_out-Clause}
use Rattle.rb_core.specs.Values.{fields_of}
use Rattle.rb_core.specs.WellNumbered.{Within, is_lower, is_type, param_is_numbered, expression_is_numbered, function_is_numbered, vars_of, IsWellNumbered}
use Rattle.rb_core.proofs.ExpressionLaws.{Each, EachBody, induction}
use Rattle.rb_core.proofs.MatchingLemmas.{all_at}
use Rattle.rb_core.proofs.NumberedForms.{body_numbered, clause_numbered, numbered-is}
use Rattle.rb_sound.specs.Words.{words_step, words_clause, has_words, body_has_words, HasWords}
use Rattle.rb_sound.specs.inner.Words.{clause_has_words}
use Rattle.rb_sound.proofs.Forms.{and_true}

abbrev pub whole_step : List DataDecl → Expr-F Bool Bool → Bool
whole_step types (E.Num at n) = nat_lt n (2 ^ 64)
whole_step types (E.Var at x) = true
whole_step types (E.Call at g es) = list_all (λ b. b) es
whole_step types (E.Build at c es) = is_some (fields_of types c) && list_all (λ b. b) es
whole_step types (E.Binary at op a b) = a && b
whole_step types (E.To at bits a) = a
whole_step types (E.Let at x t a b) = a && b
whole_step types (E.Match at e cs) = e && list_all (λ b. b) cs

abbrev pub whole_clause : Clause-F Bool Bool → Bool
whole_clause c = c.body

-- each number has at most 64 bits, and each constructor is there, as in any program that is read
abbrev pub is_whole : List DataDecl → Expr → Bool
is_whole types = fold-Expr Bool Bool (whole_step types) whole_clause

-- whole expressions, form by form
module _ (types : List DataDecl) where
  abbrev pub clause_whole : Clause → Bool
  clause_whole = fold-Clause Bool Bool (whole_step types) whole_clause

  pub clause_whole-is : (c : Clause) → clause_whole c ≡ is_whole types c.body
  clause_whole-is c = fold_out-Clause Bool Bool (whole_step types) whole_clause c

  pub whole-Num : (at n : ℕ) → is_whole types (X.Num at n) ≡ whole_step types (E.Num at n)
  unfolding X.roll-Expr denote.Hole.Carrier.roll
  whole-Num at n = fold-roll-Expr Bool Bool (whole_step types) whole_clause (E.Num at n)

  pub whole-Call : (at g : ℕ) (es : List Expr) → is_whole types (X.Call at g es) ≡ list_all (λ b. b) (map (is_whole types) es)
  unfolding X.roll-Expr denote.Hole.Carrier.roll
  whole-Call at g es = fold-roll-Expr Bool Bool (whole_step types) whole_clause (E.Call at g es)

  pub whole-Build : (at : ℕ) (c : ConRef) (es : List Expr) → is_whole types (X.Build at c es) ≡ (is_some (fields_of types c) && list_all (λ b. b) (map (is_whole types) es))
  unfolding X.roll-Expr denote.Hole.Carrier.roll
  whole-Build at c es = fold-roll-Expr Bool Bool (whole_step types) whole_clause (E.Build at c es)

  pub whole-Binary : (at : ℕ) (op : Op) (a b : Expr) → is_whole types (X.Binary at op a b) ≡ (is_whole types a && is_whole types b)
  unfolding X.roll-Expr denote.Hole.Carrier.roll
  whole-Binary at op a b = fold-roll-Expr Bool Bool (whole_step types) whole_clause (E.Binary at op a b)

  pub whole-To : (at bits : ℕ) (a : Expr) → is_whole types (X.To at bits a) ≡ is_whole types a
  unfolding X.roll-Expr denote.Hole.Carrier.roll
  whole-To at bits a = fold-roll-Expr Bool Bool (whole_step types) whole_clause (E.To at bits a)

  pub whole-Let : (at x : ℕ) (t : Ty) (a b : Expr) → is_whole types (X.Let at x t a b) ≡ (is_whole types a && is_whole types b)
  unfolding X.roll-Expr denote.Hole.Carrier.roll
  whole-Let at x t a b = fold-roll-Expr Bool Bool (whole_step types) whole_clause (E.Let at x t a b)

  pub whole-Match : (at : ℕ) (e : Expr) (cs : List Clause) → is_whole types (X.Match at e cs) ≡ (is_whole types e && list_all (λ b. b) (map clause_whole cs))
  unfolding X.roll-Expr denote.Hole.Carrier.roll
  whole-Match at e cs = fold-roll-Expr Bool Bool (whole_step types) whole_clause (E.Match at e cs)

clause_words-is : (c : Clause) → clause_has_words c ≡ has_words c.body
clause_words-is c = fold_out-Clause Bool Bool words_step words_clause c

words-Num : (at n : ℕ) → has_words (X.Num at n) ≡ nat_lt n (2 ^ 64)
unfolding X.roll-Expr denote.Hole.Carrier.roll
words-Num at n = fold-roll-Expr Bool Bool words_step words_clause (E.Num at n)

words-Call : (at g : ℕ) (es : List Expr) → has_words (X.Call at g es) ≡ list_all (λ b. b) (map has_words es)
unfolding X.roll-Expr denote.Hole.Carrier.roll
words-Call at g es = fold-roll-Expr Bool Bool words_step words_clause (E.Call at g es)

words-Build : (at : ℕ) (c : ConRef) (es : List Expr) → has_words (X.Build at c es) ≡ list_all (λ b. b) (map has_words es)
unfolding X.roll-Expr denote.Hole.Carrier.roll
words-Build at c es = fold-roll-Expr Bool Bool words_step words_clause (E.Build at c es)

words-Binary : (at : ℕ) (op : Op) (a b : Expr) → has_words (X.Binary at op a b) ≡ (has_words a && has_words b)
unfolding X.roll-Expr denote.Hole.Carrier.roll
words-Binary at op a b = fold-roll-Expr Bool Bool words_step words_clause (E.Binary at op a b)

words-To : (at bits : ℕ) (a : Expr) → has_words (X.To at bits a) ≡ has_words a
unfolding X.roll-Expr denote.Hole.Carrier.roll
words-To at bits a = fold-roll-Expr Bool Bool words_step words_clause (E.To at bits a)

words-Let : (at x : ℕ) (t : Ty) (a b : Expr) → has_words (X.Let at x t a b) ≡ (has_words a && has_words b)
unfolding X.roll-Expr denote.Hole.Carrier.roll
words-Let at x t a b = fold-roll-Expr Bool Bool words_step words_clause (E.Let at x t a b)

words-Match : (at : ℕ) (e : Expr) (cs : List Clause) → has_words (X.Match at e cs) ≡ (has_words e && list_all (λ b. b) (map clause_has_words cs))
unfolding X.roll-Expr denote.Hole.Carrier.roll
words-Match at e cs = fold-roll-Expr Bool Bool words_step words_clause (E.Match at e cs)

module _ (types : List DataDecl) (funs : List Fun) where
  abbrev numbered : Expr → Within
  numbered = expression_is_numbered types funs

  abbrev IsWhole : Expr → Type 0
  IsWhole e = (xs : List ℕ) → numbered e xs ≡ true → has_words e ≡ true → is_whole types e ≡ true

  all_whole : (es : List Expr) → Each IsWhole es → (xs : List ℕ) → list_all (λ (w : Within). w xs) (map numbered es) ≡ true → list_all (λ b. b) (map has_words es) ≡ true → list_all (λ b. b) (map (is_whole types) es) ≡ true
  all_whole [] each xs n w = refl
  all_whole (e ∷ es) each xs n w =
      let ns = and_parts (numbered e xs) _ n in let ws = and_parts (has_words e) _ w in
      and_true (is_whole types e) _ (each.0 xs ns.0 ws.0) (all_whole es each.1 xs ns.1 ws.1)

  clauses_whole : (cs : List Clause) → EachBody IsWhole cs → (xs : List ℕ) → list_all (λ (w : Within). w xs) (map (clause_numbered types funs) cs) ≡ true → list_all (λ b. b) (map clause_has_words cs) ≡ true → list_all (λ b. b) (map (clause_whole types) cs) ≡ true
  clauses_whole [] each xs n w = refl
  clauses_whole (c ∷ cs) each xs n w =
      let ns = and_parts (clause_numbered types funs c xs) _ n in let ws = and_parts (clause_has_words c) _ w in
      and_true (clause_whole types c) _ (clause_whole-is types c ∙ each.0 (vars_of c.pat ++ xs) (body_numbered types funs c xs ns.0) (sym (clause_words-is c) ∙ ws.0)) (clauses_whole cs each.1 xs ns.1 ws.1)

  var_whole : (at x : ℕ) → is_whole types (X.Var at x) ≡ true
  unfolding X.roll-Expr denote.Hole.Carrier.roll
  var_whole at x = fold-roll-Expr Bool Bool (whole_step types) whole_clause (E.Var at x)

  pub whole_of : (e : Expr) → IsWhole e
  unfolding X.roll-Expr denote.Hole.Carrier.roll
  whole_of = induction IsWhole (record {
    num = λ at n xs numbered words. whole-Num types at n ∙ sym (words-Num at n) ∙ words;
    var = λ at x xs numbered words. var_whole at x;
    call = λ at g es each xs n w.
        let parts = and_parts _ _ (sym (numbered-is types funs (E.Call at g es) xs) ∙ n) in let more = and_parts _ _ parts.1 in
        whole-Call types at g es ∙ all_whole es each xs more.1 (sym (words-Call at g es) ∙ w);
    build = λ at c es each xs n w.
        let parts = and_parts (is_some (fields_of types c)) _ (sym (numbered-is types funs (E.Build at c es) xs) ∙ n) in let more = and_parts _ _ parts.1 in
        whole-Build types at c es ∙ and_true (is_some (fields_of types c)) _ parts.0 (all_whole es each xs more.1 (sym (words-Build at c es) ∙ w));
    binary = λ at op a b ha hb xs n w.
        let ns = and_parts (numbered a xs) (numbered b xs) (sym (numbered-is types funs (E.Binary at op a b) xs) ∙ n) in let ws = and_parts (has_words a) _ (sym (words-Binary at op a b) ∙ w) in
        whole-Binary types at op a b ∙ and_true _ _ (ha xs ns.0 ws.0) (hb xs ns.1 ws.1);
    to = λ at bits a ha xs n w.
        let ns = and_parts _ (numbered a xs) (sym (numbered-is types funs (E.To at bits a) xs) ∙ n) in
        whole-To types at bits a ∙ ha xs ns.1 (sym (words-To at bits a) ∙ w);
    bound = λ at x t a b ha hb xs n w.
        let parts = and_parts _ _ (sym (numbered-is types funs (E.Let at x t a b) xs) ∙ n) in let ns = and_parts (numbered a xs) (numbered b (x ∷ xs)) parts.1 in let ws = and_parts (has_words a) _ (sym (words-Let at x t a b) ∙ w) in
        whole-Let types at x t a b ∙ and_true _ _ (ha xs ns.0 ws.0) (hb (x ∷ xs) ns.1 ws.1);
    choice = λ at e cs he hcs xs n w.
        let parts = and_parts (numbered e xs) _ (sym (numbered-is types funs (E.Match at e cs) xs) ∙ n) in let more = and_parts _ _ parts.1 in let last = and_parts _ _ more.1 in
        let ws = and_parts (has_words e) _ (sym (words-Match at e cs) ∙ w) in
        whole-Match types at e cs ∙ and_true _ _ (he xs parts.0 ws.0) (clauses_whole cs hcs xs last.1 ws.1);
  })

pub whole_bodies : (p : Program) → IsWellNumbered p → HasWords p → (g : ℕ) (f : Fun) → slice_get p.funs g ≡ Some f → is_whole p.types f.body ≡ true
whole_bodies p n words g f e =
    let named = and_parts (is_lower f.name) _ (all_at (function_is_numbered p.types p.funs) p.funs g f n.functions e) in
    let counted = and_parts (nat_le (length f.params) 32) _ named.1 in
    let params = and_parts (list_all (param_is_numbered p.types) f.params) _ counted.1 in
    let body = and_parts (is_type p.types f.result) _ params.1 in
    whole_of p.types p.funs f.body (map (λ q. q.var) f.params) body.1 (all_at body_has_words p.funs g f (sym (list_all-map (λ b. b) body_has_words p.funs) ∙ words) e)
