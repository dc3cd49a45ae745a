-- Expressions and clauses.
use Rattle.std.proofs.Common.{◌≡◌, ℕ, zero, suc, ◌+◌, List, [], ◌∷◌, map, Bool, true, false, nat_lt, Option, Some, None, is_some, refl, ◌∙◌, ap, subst, arith}
use Rattle.rb_core.specs.declared.expression.Op.{Op}
use Rattle.rb_core.specs.declared.expression.Op.TheVariants as op
use Rattle.rb_syntax.specs.declared.token.ReservedWord.{ReservedWord}
use Rattle.rb_syntax.specs.declared.token.ReservedWord.TheVariants as word
use Rattle.rb_syntax.specs.declared.token.Symbol.TheVariants as symbol
use Rattle.rb_syntax.specs.declared.token.Token.{Token}
use Rattle.rb_syntax.specs.declared.token.Token.TheVariants as tok
use Rattle.rb_syntax.specs.declared.tree.NameTree.{NameTree}
use Rattle.rb_syntax.specs.declared.tree.TyTree.{TyTree}
use Rattle.rb_syntax.specs.declared.tree.PatTree.{PatTree}
use Rattle.rb_syntax.specs.declared.tree.ClauseTree.{ClauseTree}
use Rattle.rb_syntax.specs.declared.tree.ExprTree.{ExprTree, out-ExprTree, roll-out-ExprTree}
use Rattle.rb_syntax.specs.declared.tree.ExprTree as X
use Rattle.rb_syntax.specs.declared.tree.ExprTree.TheOpen as expr
use Rattle.rb_syntax.specs.declared.tree.ExprTree.TheOpen.{ExprTree-F}
use Rattle.rb_syntax.specs.Written.{Written, Writing, token, number, node, tokens_in, some_with, any_with}
use Rattle.rb_syntax.specs.Spelling.{fields_written, op_word, ty_written, lower_written, uint_written, pat_written, expr_written, clause_written}
use Rattle.rb_syntax.proofs.SpellingLemmas.{expr-Num, expr-Var, expr-Call, expr-Build, expr-Binary, expr-To, expr-Let, expr-Match, clause-is}
use Rattle.rb_read.specs.declared.starting.Form.{Form}
use Rattle.rb_read.specs.declared.starting.Form.TheVariants as form
use Rattle.rb_read.specs.inner.Starting.{is_symbol, form_of}
use Rattle.rb_read.specs.inner.Combining.{Reader, into, nothing, pair, expect, closed_by, optional, in_parens, some_closed, any_closed, beyond}
use Rattle.rb_read.proofs.Open as open_at
use Rattle.rb_read.proofs.Open.{one, maybe, next, the, the_word, a_lower, a_width, a_type, fields, begins, as_expr, ahead_of, if_so}
use Rattle.rb_read.specs.inner.Tokens.{width}
use Rattle.rb_read.specs.inner.Reading.{name_tree, name_or_call, begins_expression, is_form, expression_one, expression, binding_of, clause_of, conversion_of, matching_of, operation_of}
use Rattle.rb_read.specs.inner.Reading as reading
use Rattle.rb_read.proofs.Forms.{IsRight, Again, Clear, IsForm}
use Rattle.rb_read.proofs.FormLaws.{nothing-form, pair-form, first-strict, iso-form, into-strict, alias-form}
use Rattle.rb_read.proofs.NodeForms.{AtToken, IsPart, part-form, none-at, node-at, node-again, IsDeep, IsDeepBegun, zero-form}
use Rattle.rb_read.proofs.TokenForms.{symbol-part, word-part, lower-part, width-part}
use Rattle.rb_read.proofs.TypeForms.{opens_paren, all-clear, before-any, closed_by-form, closed_by-strict, type-part}
use Rattle.rb_read.proofs.ListForms.{perhaps, optional-form, in_parens-form, some_closed-form, any_closed-form}
use Rattle.rb_read.proofs.PatternForms.{at_level-map, within, not-within, pattern-part}

-- an expression form by form
pub by_form : (P : ExprTree → Type 0) → ((at n : ℕ) → P (X.Num at n)) → ((at : ℕ) (x : NameTree) → P (X.Var at x))
    → ((at : ℕ) (x : NameTree) (es : List ExprTree) → P (X.Call at x es)) → ((at : ℕ) (x : NameTree) (es : List ExprTree) → P (X.Build at x es))
    → ((at : ℕ) (o : Op) (a b : ExprTree) → P (X.Binary at o a b)) → ((at bits : ℕ) (a : ExprTree) → P (X.To at bits a))
    → ((at : ℕ) (x : NameTree) (t : TyTree) (a b : ExprTree) → P (X.Let at x t a b))
    → ((at : ℕ) (a : ExprTree) (cs : List ClauseTree) → P (X.Match at a cs)) → (t : ExprTree) → P t
unfolding X.roll-ExprTree denote.Hole.Carrier.roll
by_form P num var call build binary to bind cases t = subst P (roll-out-ExprTree t) (layer (out-ExprTree t)) where
  layer : (x : ExprTree-F ExprTree ClauseTree) → P (X.roll-ExprTree x)
  layer (expr.Num at n) = num at n
  layer (expr.Var at x) = var at x
  layer (expr.Call at x es) = call at x es
  layer (expr.Build at x es) = build at x es
  layer (expr.Binary at o a b) = binary at o a b
  layer (expr.To at bits a) = to at bits a
  layer (expr.Let at x t a b) = bind at x t a b
  layer (expr.Match at a cs) = cases at a cs

-- The writing of an expression at level l is that of its parts at level l + 1.

abbrev at_expr : ℕ → ExprTree → Writing
at_expr l e rest = expr_written e l rest

abbrev at_clause : ℕ → ClauseTree → Writing
at_clause l c rest = clause_written c l rest

build-written : (at : ℕ) (x : NameTree) (es : List ExprTree) (l : ℕ) (rest : List Written) → expr_written (X.Build at x es) l rest
    ≡ node l ∷ number at ∷ number x.at ∷ token (tok.Upper x.text) ∷ fields_written (map (at_expr (suc l)) es) rest
build-written at x es l rest = expr-Build at x es l rest
    ∙ ap (λ ws. node l ∷ number at ∷ number x.at ∷ token (tok.Upper x.text) ∷ fields_written ws rest) (at_level-map expr_written (suc l) es)

call-written : (at : ℕ) (x : NameTree) (es : List ExprTree) (l : ℕ) (rest : List Written) → expr_written (X.Call at x es) l rest
    ≡ node l ∷ number at ∷ number x.at ∷ token (tok.Lower x.text) ∷ token (tok.Symbol symbol.OpenParen)
    ∷ any_with (tok.Symbol symbol.Comma) (map (at_expr (suc l)) es) (token (tok.Symbol symbol.CloseParen) ∷ rest)
call-written at x es l rest = expr-Call at x es l rest
    ∙ ap (λ ws. node l ∷ number at ∷ number x.at ∷ token (tok.Lower x.text) ∷ token (tok.Symbol symbol.OpenParen)
    ∷ any_with (tok.Symbol symbol.Comma) ws (token (tok.Symbol symbol.CloseParen) ∷ rest)) (at_level-map expr_written (suc l) es)

match-written : (at : ℕ) (e : ExprTree) (cs : List ClauseTree) (l : ℕ) (rest : List Written) → expr_written (X.Match at e cs) l rest
    ≡ node l ∷ number at ∷ token (tok.Reserved word.Match) ∷ expr_written e (suc l) (token (tok.Symbol symbol.OpenBrace)
    ∷ some_with (tok.Symbol symbol.Comma) (map (at_clause (suc l)) cs) (token (tok.Symbol symbol.CloseBrace) ∷ rest))
match-written at e cs l rest = expr-Match at e cs l rest
    ∙ ap (λ ws. node l ∷ number at ∷ token (tok.Reserved word.Match) ∷ expr_written e (suc l) (token (tok.Symbol symbol.OpenBrace)
    ∷ some_with (tok.Symbol symbol.Comma) ws (token (tok.Symbol symbol.CloseBrace) ∷ rest))) (at_level-map clause_written (suc l) cs)

-- What reserved words begin.

form_of-op_word : (o : Op) → form_of (op_word o) ≡ form.Operation o
unfolding form_of
form_of-op_word op.Add = refl
form_of-op_word op.Sub = refl
form_of-op_word op.Mul = refl
form_of-op_word op.And = refl
form_of-op_word op.Or = refl
form_of-op_word op.Xor = refl
form_of-op_word op.Eq = refl
form_of-op_word op.Lt = refl

-- the words of a form
abbrev IsWordOf : Form → ReservedWord → Type 0
IsWordOf (form.Operation o) w = w ≡ op_word o
IsWordOf form.Conversion w = w ≡ word.To
IsWordOf form.Binding w = w ≡ word.Let
IsWordOf form.Matching w = w ≡ word.Match
IsWordOf form.Other w = Unit {0}

word-of-form : (w : ReservedWord) → IsWordOf (form_of w) w
unfolding form_of
word-of-form word.Add = refl
word-of-form word.Sub = refl
word-of-form word.Mul = refl
word-of-form word.And = refl
word-of-form word.Or = refl
word-of-form word.Xor = refl
word-of-form word.Eq = refl
word-of-form word.Lt = refl
word-of-form word.To = refl
word-of-form word.Let = refl
word-of-form word.Match = refl
word-of-form _ = tt

-- With no level left.

expression-zero : (total limit l : ℕ) → l + 0 ≡ suc limit → IsPart total limit opens_paren (open_at.expr l) (λ e. at_expr l e) (λ ts. beyond begins_expression ts)
unfolding begins form_of
expression-zero total limit l e = zero-form begins_expression deeper none begun where
  deep : nat_lt limit l ≡ true
  deep = not-within limit l e

  form-deeper : (f : Form) → is_form f ≡ true → IsDeep limit (as_expr l f)
  form-deeper (form.Operation o) h = deep
  form-deeper form.Conversion h = deep
  form-deeper form.Binding h = deep
  form-deeper form.Matching h = deep
  form-deeper form.Other h = cc

  deeper : (t : Token) → begins_expression t ≡ true → IsDeep limit (begins (open_at.expr l) t)
  deeper (tok.Upper x) h = deep
  deeper (tok.Lower x) h = deep
  deeper (tok.Num x) h = deep
  deeper (tok.Reserved w) h = form-deeper (form_of w) h
  deeper _ h = cc

  form-none : (f : Form) → is_form f ≡ false → as_expr l f ≡ None
  form-none form.Other h = refl
  form-none _ h = cc

  none : (t : Token) → begins_expression t ≡ false → begins (open_at.expr l) t ≡ None
  none (tok.Upper x) h = cc
  none (tok.Lower x) h = cc
  none (tok.Num x) h = cc
  none (tok.Reserved w) h = form-none (form_of w) h
  none _ h = refl

  begun : (x : ExprTree) (rest : List Written) → IsRight total (at_expr l x rest) → IsDeepBegun limit begins_expression (at_expr l x rest)
  begun x rest i = by_form (λ q. IsDeepBegun limit begins_expression (at_expr l q rest))
      (λ at n. record { marks = node l ∷ number at ∷ []; first = tok.Num n; others = rest; whole = expr-Num at n l rest; are_marks = tt; is_deep = rw deep refl; passes = refl })
      (λ at x. record { marks = node l ∷ number at ∷ number x.at ∷ []; first = tok.Lower x.text; others = rest; whole = expr-Var at x l rest; are_marks = tt; is_deep = rw deep refl; passes = refl })
      (λ at x es. record { marks = node l ∷ number at ∷ number x.at ∷ []; first = tok.Lower x.text; others = _; whole = call-written at x es l rest; are_marks = tt; is_deep = rw deep refl; passes = refl })
      (λ at x es. record { marks = node l ∷ number at ∷ number x.at ∷ []; first = tok.Upper x.text; others = _; whole = build-written at x es l rest; are_marks = tt; is_deep = rw deep refl; passes = refl })
      (λ at o a b. record { marks = node l ∷ number at ∷ []; first = tok.Reserved (op_word o); others = _; whole = expr-Binary at o a b l rest; are_marks = tt; is_deep = rw deep refl; passes = rw (form_of-op_word o) refl })
      (λ at bits a. record { marks = node l ∷ number at ∷ []; first = tok.Reserved word.To; others = _; whole = expr-To at bits a l rest; are_marks = tt; is_deep = rw deep refl; passes = refl })
      (λ at x t a b. record { marks = node l ∷ number at ∷ []; first = tok.Reserved word.Let; others = _; whole = expr-Let at x t a b l rest; are_marks = tt; is_deep = rw deep refl; passes = refl })
      (λ at a cs. record { marks = node l ∷ number at ∷ []; first = tok.Reserved word.Match; others = _; whole = match-written at a cs l rest; are_marks = tt; is_deep = rw deep refl; passes = refl })
      x

-- An expression above readers of the patterns and expressions in it.

abbrev none : Token → Bool
none t = false

module _ (total limit l : ℕ) (small : nat_lt limit l ≡ false) {inside : Reader PatTree} {inner : Reader ExprTree}
    (pat-in : IsPart total limit opens_paren (open_at.pat (suc l)) (λ p. pat_written p (suc l)) inside)
    (expr-in : IsPart total limit opens_paren (open_at.expr (suc l)) (λ e. at_expr (suc l) e) inner) where
  abbrev this : Reader ExprTree
  this = expression_one inside inner total

  build-form : IsForm total limit opens_paren (maybe (fields (open_at.expr (suc l))) ∷ []) (λ es rest. fields_written (map (at_expr (suc l)) es) rest) (in_parens inner)
  build-form = in_parens-form expr-in refl refl

  abbrev args_written : List ExprTree → Writing
  args_written es rest = token (tok.Symbol symbol.OpenParen) ∷ any_with (tok.Symbol symbol.Comma) (map (at_expr (suc l)) es) (token (tok.Symbol symbol.CloseParen) ∷ rest)

  args-form : IsForm total limit none (one (the symbol.OpenParen) ∷ open_at.first (open_at.expr (suc l)) symbol.CloseParen ∷ []) args_written
      (into (λ p. p.1) (pair (expect symbol.OpenParen) (any_closed inner symbol.CloseParen)))
  unfolding begins
  args-form = iso-form (λ p. p.1) (λ es. (tt, es)) (λ es. refl) (λ p rest. refl)
      (before-any (symbol-part total limit symbol.OpenParen).form (any_closed-form expr-in symbol.CloseParen refl refl refl refl))

  -- What stands behind the word of each form.

  abbrev operands_written : Unit {0} × (ExprTree × ExprTree) → Writing
  operands_written (_, (first, second)) rest = token (tok.Symbol symbol.OpenParen)
      ∷ at_expr (suc l) first (token (tok.Symbol symbol.Comma)
      ∷ at_expr (suc l) second (token (tok.Symbol symbol.CloseParen) ∷ rest))

  operands-form : IsForm total limit none
      (one (the symbol.OpenParen) ∷ one (open_at.expr (suc l)) ∷ one (the symbol.Comma) ∷ one (open_at.expr (suc l)) ∷ one (the symbol.CloseParen) ∷ [])
      operands_written
      (pair (expect symbol.OpenParen) (pair (closed_by inner symbol.Comma) (closed_by inner symbol.CloseParen)))
  operands-form =
      before-any (symbol-part total limit symbol.OpenParen).form
      (before-any (closed_by-form expr-in.form symbol.Comma refl) (closed_by-form expr-in.form symbol.CloseParen refl))

  abbrev conversion_written : ℕ × (Unit {0} × ExprTree) → Writing
  conversion_written (bits, (_, converted)) rest = uint_written bits (token (tok.Symbol symbol.OpenParen)
      ∷ at_expr (suc l) converted (token (tok.Symbol symbol.CloseParen) ∷ rest))

  conversion-form : IsForm total limit none
      (one a_width ∷ one (the symbol.OpenParen) ∷ one (open_at.expr (suc l)) ∷ one (the symbol.CloseParen) ∷ [])
      conversion_written
      (pair width (pair (expect symbol.OpenParen) (closed_by inner symbol.CloseParen)))
  conversion-form =
      before-any (width-part total limit).form
      (before-any (symbol-part total limit symbol.OpenParen).form (closed_by-form expr-in.form symbol.CloseParen refl))

  abbrev variable_written : NameTree × TyTree → Writing
  variable_written (name, ty) rest =
      lower_written name (token (tok.Symbol symbol.Colon) ∷ ty_written ty (token (tok.Symbol symbol.Equals) ∷ rest))

  variable-form : IsForm total limit none (one a_lower ∷ one (the symbol.Colon) ∷ one a_type ∷ one (the symbol.Equals) ∷ [])
      variable_written (reading.typed_variable total)
  unfolding reading.typed_variable
  variable-form = before-any (closed_by-form (lower-part total limit).form symbol.Colon refl) (closed_by-form (type-part total limit).form symbol.Equals refl)

  abbrev bound_written : ExprTree × ExprTree → Writing
  bound_written (bound, body) rest = at_expr (suc l) bound (token (tok.Reserved word.In) ∷ at_expr (suc l) body rest)

  bound-form : IsForm total limit opens_paren (one (open_at.expr (suc l)) ∷ one (the_word word.In) ∷ one (open_at.expr (suc l)) ∷ [])
      bound_written (reading.bound_and_body inner)
  unfolding reading.bound_and_body
  bound-form = iso-form reading.bound_of (λ (bound, body). (bound, (tt, body))) (λ p. refl) (λ p rest. refl)
      (pair-form expr-in.form (before-any (word-part total limit word.In).form expr-in.form) (λ b rest c. refl))

  abbrev binding_written : (NameTree × TyTree) × (ExprTree × ExprTree) → Writing
  binding_written ((name, ty), (bound, body)) rest = lower_written name (token (tok.Symbol symbol.Colon)
      ∷ ty_written ty (token (tok.Symbol symbol.Equals)
      ∷ at_expr (suc l) bound (token (tok.Reserved word.In) ∷ at_expr (suc l) body rest)))

  binding-form : IsForm total limit opens_paren
      (one a_lower ∷ one (the symbol.Colon) ∷ one a_type ∷ one (the symbol.Equals) ∷ one (open_at.expr (suc l)) ∷ one (the_word word.In) ∷ one (open_at.expr (suc l)) ∷ [])
      binding_written
      (pair (reading.typed_variable total) (reading.bound_and_body inner))
  binding-form = before-any variable-form bound-form

  abbrev one_clause : Reader ClauseTree
  one_clause = into clause_of (pair (closed_by inside symbol.FatArrow) inner)

  arrow-form : IsForm total limit none (one (open_at.pat (suc l)) ∷ one (the symbol.FatArrow) ∷ [])
      (λ p rest. pat_written p (suc l) (token (tok.Symbol symbol.FatArrow) ∷ rest)) (closed_by inside symbol.FatArrow)
  arrow-form = closed_by-form pat-in.form symbol.FatArrow refl

  clause-part : IsPart total limit opens_paren (open_at.clause (suc l)) (at_clause (suc l)) one_clause
  unfolding begins
  clause-part = record {
    form = alias-form (λ t. refl) (iso-form clause_of (λ c. (c.pat, c.body)) (λ c. refl) (λ p rest. clause-is _ (suc l) rest)
        (before-any arrow-form expr-in.form));
    strict = into-strict _ _ (first-strict arrow-form expr-in.form (closed_by-strict pat-in.form symbol.FatArrow pat-in.strict));
  }

  abbrev matching_written : ExprTree × List ClauseTree → Writing
  matching_written (matched, clauses) rest = at_expr (suc l) matched (token (tok.Symbol symbol.OpenBrace)
      ∷ some_with (tok.Symbol symbol.Comma) (map (at_clause (suc l)) clauses)
      (token (tok.Symbol symbol.CloseBrace) ∷ rest))

  matching-form : IsForm total limit none
      (one (open_at.expr (suc l)) ∷ one (the symbol.OpenBrace) ∷ one (open_at.clause (suc l)) ∷ next (open_at.clause (suc l)) symbol.Comma symbol.CloseBrace ∷ [])
      matching_written
      (pair (closed_by inner symbol.OpenBrace) (some_closed one_clause symbol.Comma symbol.CloseBrace))
  matching-form =
      before-any (closed_by-form expr-in.form symbol.OpenBrace refl) (some_closed-form clause-part symbol.Comma symbol.CloseBrace refl refl refl)

  -- by the first token
  abbrev marks : ℕ → List Written
  marks at = node l ∷ number at ∷ []

  arguments-form : IsForm total limit opens_paren (maybe (open_at.arguments (suc l)) ∷ []) (λ o rest. perhaps args_written o rest)
      (optional opens_paren (into (λ p. p.1) (pair (expect symbol.OpenParen) (any_closed inner symbol.CloseParen))))
  unfolding begins
  arguments-form = optional-form (record {
    form = alias-form (λ t. begun (is_symbol symbol.OpenParen t)) args-form;
    strict = into-strict _ _ (first-strict (symbol-part total limit symbol.OpenParen).form (any_closed-form expr-in symbol.CloseParen refl refl refl refl) (symbol-part total limit symbol.OpenParen).strict);
  })
      opens_paren (λ t. same (is_symbol symbol.OpenParen t)) (λ t h. refl) where
        begun : (b : Bool) → if_so b (open_at.first (open_at.expr (suc l)) symbol.CloseParen ∷ []) ≡ ahead_of (open_at.first (open_at.expr (suc l)) symbol.CloseParen ∷ []) (if_so b [])
        begun true = refl
        begun false = refl

        same : (b : Bool) → is_some (if_so b (open_at.first (open_at.expr (suc l)) symbol.CloseParen ∷ [])) ≡ b
        same true = refl
        same false = refl

  called-written : (at : ℕ) (x : List ℕ) (o : Option (List ExprTree)) (rest : List Written)
      → at_expr l (name_or_call at x o) rest ≡ node l ∷ number at ∷ number at ∷ token (tok.Lower x) ∷ perhaps args_written o rest
  called-written at x None rest = expr-Var at (name_tree at x) l rest
  called-written at x (Some es) rest = call-written at (name_tree at x) es l rest

  form-at : (w : ReservedWord) (f : Form) → form_of w ≡ f → IsWordOf f w → AtToken total limit (open_at.expr l) (at_expr l) this (tok.Reserved w)
  unfolding begins expression_one reading.expression_from reading.from_form reading.operation reading.conversion reading.binding reading.matching reading.clause_tree
  form-at w (form.Operation o) e h = node-at operands-form l (rw e refl) small (λ at. operation_of at o) (λ ts. rw e refl) marks
      (λ at. tt) (λ at. (refl, tt)) (λ at. rw small refl)
      (λ at (_, (first, second)) rest. rw h (expr-Binary at o first second l rest))
  form-at w form.Conversion e h = node-at conversion-form l (rw e refl) small (λ at. conversion_of at) (λ ts. rw e refl) marks
      (λ at. tt) (λ at. (refl, tt)) (λ at. rw small refl)
      (λ at (bits, (_, converted)) rest. rw h (expr-To at bits converted l rest))
  form-at w form.Binding e h = node-at binding-form l (rw e refl) small (λ at. binding_of at) (λ ts. rw e refl) marks
      (λ at. tt) (λ at. (refl, tt)) (λ at. rw small refl)
      (λ at ((name, ty), (bound, body)) rest. rw h (expr-Let at name ty bound body l rest))
  form-at w form.Matching e h = node-at matching-form l (rw e refl) small (λ at. matching_of at) (λ ts. rw e refl) marks
      (λ at. tt) (λ at. (refl, tt)) (λ at. rw small refl)
      (λ at (matched, clauses) rest. rw h (match-written at matched clauses l rest))
  form-at w form.Other e h = none-at (rw e refl) (λ ts. rw e refl)

  expression-on : (t : Token) → AtToken total limit (open_at.expr l) (at_expr l) this t
  unfolding begins expression_one reading.expression_from reading.arguments into nothing
  expression-on (tok.Num n) = node-at (nothing-form total limit) l refl small (λ at y. X.Num at n) (λ ts. refl) marks
      (λ at. tt) (λ at. (refl, tt)) (λ at. rw small refl) (λ at y rest. expr-Num at n l rest)
  expression-on (tok.Lower x) = node-at arguments-form l refl small (λ at o. name_or_call at x o) (λ ts. refl) (λ at. node l ∷ number at ∷ number at ∷ [])
      (λ at. tt) (λ at. (refl, (refl, tt))) (λ at. rw small refl) (λ at o rest. called-written at x o rest)
  expression-on (tok.Upper x) = node-at build-form l refl small (λ at es. X.Build at (name_tree at x) es) (λ ts. refl) (λ at. node l ∷ number at ∷ number at ∷ [])
      (λ at. tt) (λ at. (refl, (refl, tt))) (λ at. rw small refl) (λ at es rest. build-written at (name_tree at x) es l rest)
  expression-on (tok.Reserved w) = form-at w (form_of w) refl (word-of-form w)
  expression-on _ = none-at refl (λ ts. refl)

  expression-again : (rest : List Written) → Clear opens_paren (tokens_in rest) → (x : ExprTree) → IsRight total (at_expr l x rest)
      → Again total limit this x (at_expr l x rest) rest
  unfolding expression_one reading.expression_from reading.arguments reading.from_form reading.operation reading.conversion reading.binding reading.matching reading.clause_tree form_of into nothing
  expression-again rest c = by_form (λ x. IsRight total (at_expr l x rest) → Again total limit this x (at_expr l x rest) rest)
      (λ at n i. node-again (nothing-form total limit) (tok.Num n) (λ m y. X.Num m n) (λ ts. refl) (marks at) tt (rw small refl) _ tt rest _
      (expr-Num at n l rest) (λ m h. rw h.0 refl) i clear)
      (λ at x i. node-again arguments-form (tok.Lower x.text) (λ m o. name_or_call m x.text o) (λ ts. refl) (node l ∷ number at ∷ number x.at ∷ []) tt (rw small refl) _ None rest _
      (expr-Var at x l rest) (λ m h. rw (h.0, ← h.1.0) refl) i c)
      (λ at x es i. node-again arguments-form (tok.Lower x.text) (λ m o. name_or_call m x.text o) (λ ts. refl) (node l ∷ number at ∷ number x.at ∷ []) tt (rw small refl) _ (Some es) rest _
      (call-written at x es l rest) (λ m h. rw (h.0, ← h.1.0) refl) i c)
      (λ at x es i. node-again build-form (tok.Upper x.text) (λ m es. X.Build m (name_tree m x.text) es) (λ ts. refl) (node l ∷ number at ∷ number x.at ∷ []) tt (rw small refl) _ es rest _
      (build-written at x es l rest) (λ m h. rw (h.0, ← h.1.0) refl) i c)
      (λ at o a b i. node-again operands-form (tok.Reserved (op_word o)) (λ m. operation_of m o) (λ ts. rw (form_of-op_word o) refl) (marks at) tt (rw small refl) _ (tt, (a, b)) rest _
      (expr-Binary at o a b l rest) (λ m h. rw h.0 refl) i clear)
      (λ at bits a i. node-again conversion-form (tok.Reserved word.To) (λ m. conversion_of m) (λ ts. refl) (marks at) tt (rw small refl) _ (bits, (tt, a)) rest _
      (expr-To at bits a l rest) (λ m h. rw h.0 refl) i clear)
      (λ at x t a b i. node-again binding-form (tok.Reserved word.Let) (λ m. binding_of m) (λ ts. refl) (marks at) tt (rw small refl) _ ((x, t), (a, b)) rest _
      (expr-Let at x t a b l rest) (λ m h. rw h.0 refl) i c)
      (λ at a cs i. node-again matching-form (tok.Reserved word.Match) (λ m. matching_of m) (λ ts. refl) (marks at) tt (rw small refl) _ (a, cs) rest _
      (match-written at a cs l rest) (λ m h. rw h.0 refl) i clear) where
        clear : Clear none (tokens_in rest)
        clear = all-clear (tokens_in rest)

  expression-above : IsPart total limit opens_paren (open_at.expr l) (at_expr l) this
  unfolding expression_one
  expression-above = part-form refl expression-on (λ x rest i c. expression-again rest c x i)

pub expression-part : (total limit n l : ℕ) → l + n ≡ suc limit → IsPart total limit opens_paren (open_at.expr l) (at_expr l) (expression n total)
unfolding expression
expression-part total limit zero l e = expression-zero total limit l e
expression-part total limit (suc n) l e = expression-above total limit l (within limit l n e)
    (pattern-part total limit n (suc l) (omega (arith, e))) (expression-part total limit n (suc l) (omega (arith, e)))
