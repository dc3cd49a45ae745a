use Rattle.std.proofs.Common.{◌≡◌, ◌∷◌, ◌∙◌, ◌-◌, ℕ, suc, List, map, ap, sym as turned, arith}
use Rattle.std.proofs.lemmas.Result.{on_ok_weaker}
use Rattle.rb_syntax.specs.declared.tree.ExprTree.{ExprTree}
use Rattle.rb_syntax.specs.declared.tree.ExprTree.TheOpen as expr
use Rattle.rb_syntax.specs.declared.token.Symbol.TheVariants as symbol
use Rattle.rb_syntax.specs.declared.token.ReservedWord.TheVariants as word
use Rattle.rb_syntax.specs.Written.{Written, token, tokens_in, any_with, some_with}
use Rattle.rb_syntax.specs.Spelling.{expr_step, expr_written, clause_written, lower_written, upper_written, ty_written, uint_written, at_level, comma, sym, word_token}
use Rattle.rb_syntax.proofs.ListLemmas.{any-some, fields-none, fields-some, parts_from, part-first, part-later}
use Rattle.rb_syntax.proofs.SpellingLemmas.{clause-is, expr-Build, expr-Call, expr-Match}
use Rattle.rb_syntax.proofs.spell.expression.+expression.Goals as goal

pub put_expr-returns-in_ok-put_lower-in-Call : goal.put_expr-returns-in_ok-put_lower-in-Call
put_expr-returns-in_ok-put_lower-in-Call t c l rest h =
    let closed = sym symbol.CloseParen ∷ rest in
    let e : expr_written c.args.expr.now l rest ≡ expr_step (expr.Call c.in-Call.field-0 c.in-Call.name (map expr_written c.in-Call.args)) l rest =
    ap (λ (x : ExprTree). expr_written x l rest) c.in-Call.is ∙ expr-Call c.in-Call.field-0 c.in-Call.name c.in-Call.args l rest in
    let all = c.in_ok-put_lower-in-Call.ensures (sym symbol.OpenParen ∷ any_with comma (at_level (suc l) (map expr_written c.as_slice.result.now)) closed)
    (c.in_ok-put_args-in-Call.ensures (suc l) rest h) in
    rw e (rw (← c.as_slice.ensures) all)

pub put_expr-returns-in-empty : goal.put_expr-returns-in-empty
put_expr-returns-in-empty t c =
    on_ok_weaker c.put_upper.result (λ wrote l rest h. let fields = c.as_slice-in-Build.result.now in
    let e : expr_written c.args.expr.now l rest ≡ expr_step (expr.Build c.in-Build.field-0 c.in-Build.name (map expr_written c.in-Build.fields)) l rest =
    ap (λ (x : ExprTree). expr_written x l rest) c.in-Build.is ∙ expr-Build c.in-Build.field-0 c.in-Build.name c.in-Build.fields l rest in
    let none = ap (λ (ws : List Written). tokens_in (upper_written c.in-Build.name ws)) (turned (fields-none expr_written (suc l) fields rest c.in-empty.len_below)) in
    rw e (rw (← c.as_slice-in-Build.ensures) (wrote rest h ∙ none))) c.put_upper.ensures

pub put_expr-returns-in_ok-put_upper-in-len1-up : goal.put_expr-returns-in_ok-put_upper-in-len1-up
put_expr-returns-in_ok-put_upper-in-len1-up t c l rest h =
    let fields = c.as_slice-in-Build.result.now in
    let same : c.as_slice-in-len1-up.result.now ≡ fields = c.as_slice-in-len1-up.ensures ∙ turned c.as_slice-in-Build.ensures in
    let closed = sym symbol.CloseParen ∷ rest in
    let e : expr_written c.args.expr.now l rest ≡ expr_step (expr.Build c.in-Build.field-0 c.in-Build.name (map expr_written c.in-Build.fields)) l rest =
    ap (λ (x : ExprTree). expr_written x l rest) c.in-Build.is ∙ expr-Build c.in-Build.field-0 c.in-Build.name c.in-Build.fields l rest in
    let all = c.in_ok-put_upper-in-len1-up.ensures (sym symbol.OpenParen ∷ any_with comma (at_level (suc l) (map expr_written c.as_slice-in-len1-up.result.now)) closed)
    (c.in_ok-put_args-in-len1-up.ensures (suc l) rest h) in
    let some = ap (λ (xs : List ExprTree). tokens_in (upper_written c.in-Build.name (sym symbol.OpenParen ∷ any_with comma (at_level (suc l) (map expr_written xs)) closed))) same
    ∙ ap (λ (ws : List Written). tokens_in (upper_written c.in-Build.name ws)) (turned (fields-some expr_written (suc l) fields rest c.in-len1-up.len_at_least)) in
    rw e (rw (← c.as_slice-in-Build.ensures) (all ∙ some))

pub put_expr-returns-in_ok-put_word-in-Match : goal.put_expr-returns-in_ok-put_word-in-Match
put_expr-returns-in_ok-put_word-in-Match t c l rest h =
    let opened = sym symbol.OpenBrace ∷ some_with comma (at_level (suc l) (map clause_written c.as_slice-in-Match.result.now)) (sym symbol.CloseBrace ∷ rest) in
    let e : expr_written c.args.expr.now l rest ≡ expr_step (expr.Match c.in-Match.field-0 (expr_written c.in-Match.scrutinee) (map clause_written c.in-Match.clauses)) l rest =
    ap (λ (x : ExprTree). expr_written x l rest) c.in-Match.is ∙ expr-Match c.in-Match.field-0 c.in-Match.scrutinee c.in-Match.clauses l rest in
    let all = c.in_ok-put_word-in-Match.ensures (expr_written c.get-in-Match.result.now (suc l) opened)
    (c.in_ok-put_expr-in-Match.ensures (suc l) opened (c.in_ok-put_clauses-in-Match.ensures (suc l) rest h)) in
    rw e (rw (← c.get-in-Match.ensures) (rw (← c.as_slice-in-Match.ensures) all))

pub put_binary-returns : goal.put_binary-returns
put_binary-returns t c l rest h =
    let closed = sym symbol.CloseParen ∷ rest in
    let second = expr_written c.args.b.now l closed in
    let first = expr_written c.args.a.now l (token comma ∷ second) in
    let all = c.in_ok-put_word.ensures (sym symbol.OpenParen ∷ first) (c.in_ok-put_symbol-3.ensures first
    (c.in_ok-put_expr-2.ensures l (token comma ∷ second) (c.in_ok-put_symbol-2.ensures second
    (c.in_ok-put_expr.ensures l closed (c.in_ok-put_symbol.ensures rest h))))) in
    rw (← c.word_of_op.ensures) all

pub put_conversion-returns : goal.put_conversion-returns
put_conversion-returns t c l rest h =
    let closed = sym symbol.CloseParen ∷ rest in
    let inner = expr_written c.args.a.now l closed in
    let opened = sym symbol.OpenParen ∷ inner in
    c.in_ok-put_word.ensures (uint_written c.args.bits opened) (c.in_ok-put_uint.ensures opened (c.in_ok-put_symbol-2.ensures inner
    (c.in_ok-put_expr.ensures l closed (c.in_ok-put_symbol.ensures rest h))))

pub put_let-returns : goal.put_let-returns
put_let-returns t c l rest h =
    let body = expr_written c.args.b.now l rest in
    let value = expr_written c.args.a.now l (word_token word.In ∷ body) in
    let ty = ty_written c.args.ty.now (sym symbol.Equals ∷ value) in
    let named = lower_written c.args.name.now (sym symbol.Colon ∷ ty) in
    c.in_ok-put_word-2.ensures named (c.in_ok-put_lower.ensures (sym symbol.Colon ∷ ty) (c.in_ok-put_symbol-2.ensures ty
    (c.in_ok-put_ty.ensures (sym symbol.Equals ∷ value) (c.in_ok-put_symbol.ensures value
    (c.in_ok-put_expr-2.ensures l (word_token word.In ∷ body) (c.in_ok-put_word.ensures body
    (c.in_ok-put_expr.ensures l rest h)))))))

pub put_args-loop-i-preserved : goal.put_args-loop-i-preserved
put_args-loop-i-preserved t c l rest h =
    let next : c.loop-i.i ≡ suc (c.loop-i.i - 1) = omega arith in
    let others = parts_from expr_written l c.args.args.now c.loop-i.i rest in
    c.in_ok-put_expr.ensures l others (c.loop-i.invariant l rest h)
    ∙ ap tokens_in (part-first expr_written l c.args.args.now (c.loop-i.i - 1) c.loop-i.i c.index-args-i.result rest next (omega arith) c.index-args-i.is (omega arith))

pub put_args-loop-i-preserved-in-Continue-branch-3 : goal.put_args-loop-i-preserved-in-Continue-branch-3
put_args-loop-i-preserved-in-Continue-branch-3 t c l rest h =
    let next : c.loop-i.i ≡ suc (c.loop-i.i - 1) = omega arith in
    let others = parts_from expr_written l c.args.args.now c.loop-i.i rest in
    c.in_ok-put_symbol-2.ensures (expr_written c.index-args-i.result l others) (c.in_ok-put_expr.ensures l others (c.loop-i.invariant l rest h))
    ∙ ap tokens_in (part-later expr_written l c.args.args.now (c.loop-i.i - 1) c.loop-i.i c.index-args-i.result rest next (omega arith) c.index-args-i.is (omega arith))

pub put_args-returns : goal.put_args-returns
put_args-returns t c l rest h =
    let z : c.loop-i.i ≡ 0 = omega arith in
    let closed = sym symbol.CloseParen ∷ rest in
    c.in_ok-put_symbol-3.ensures (any_with comma (at_level l (map expr_written c.args.args.now)) closed)
    (c.loop-i.invariant l closed (c.in_ok-put_symbol.ensures rest h) ∙ ap (λ (i : ℕ). tokens_in (parts_from expr_written l c.args.args.now i closed)) z)

pub put_clauses-loop-i-preserved : goal.put_clauses-loop-i-preserved
put_clauses-loop-i-preserved t c l rest h =
    let next : c.loop-i.i ≡ suc (c.loop-i.i - 1) = omega arith in
    let clause = c.index-clauses-i.result in
    let others = parts_from clause_written l c.args.clauses.now c.loop-i.i rest in
    let body = expr_written clause.body l others in
    c.in_ok-put_pat.ensures l (sym symbol.FatArrow ∷ body) (c.in_ok-put_symbol-2.ensures body (c.in_ok-put_expr.ensures l others (c.loop-i.invariant l rest h)))
    ∙ ap tokens_in (turned (clause-is clause l others)
    ∙ part-first clause_written l c.args.clauses.now (c.loop-i.i - 1) c.loop-i.i clause rest next (omega arith) c.index-clauses-i.is (omega arith))

pub put_clauses-loop-i-preserved-in-Continue-branch-5 : goal.put_clauses-loop-i-preserved-in-Continue-branch-5
put_clauses-loop-i-preserved-in-Continue-branch-5 t c l rest h =
    let next : c.loop-i.i ≡ suc (c.loop-i.i - 1) = omega arith in
    let clause = c.index-clauses-i.result in
    let others = parts_from clause_written l c.args.clauses.now c.loop-i.i rest in
    let body = expr_written clause.body l others in
    let one = c.in_ok-put_pat.ensures l (sym symbol.FatArrow ∷ body) (c.in_ok-put_symbol-2.ensures body (c.in_ok-put_expr.ensures l others (c.loop-i.invariant l rest h)))
    ∙ ap tokens_in (turned (clause-is clause l others)) in
    c.in_ok-put_symbol-3.ensures (clause_written clause l others) one
    ∙ ap tokens_in (part-later clause_written l c.args.clauses.now (c.loop-i.i - 1) c.loop-i.i clause rest next (omega arith) c.index-clauses-i.is (omega arith))

pub put_clauses-returns : goal.put_clauses-returns
put_clauses-returns t c l rest h =
    let z : c.loop-i.i ≡ 0 = omega arith in
    let closed = sym symbol.CloseBrace ∷ rest in
    let clauses = at_level l (map clause_written c.args.clauses.now) in
    c.in_ok-put_symbol-4.ensures (some_with comma clauses closed)
    (c.loop-i.invariant l closed (c.in_ok-put_symbol.ensures rest h) ∙ ap (λ (i : ℕ). tokens_in (parts_from clause_written l c.args.clauses.now i closed)) z ∙ any-some comma clauses closed)
