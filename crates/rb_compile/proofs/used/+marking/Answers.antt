use Rattle.std.proofs.Common.{ap, sym, subst, ◌∙◌, ◌++◌, ◌∷◌, [], map, take}
use Rattle.std.specs.List.{flat_map}
use Rattle.std.proofs.lemmas.List.{take_more}
use Rattle.rb_compile.specs.inner.Used.{AreKept, variables_in, variables_of_clause}
use Rattle.rb_compile.proofs.Agreeing.{variables-Binary, variables-Clause, variables-Let, variables-Match}
use Rattle.rb_compile.proofs.Marking.{kept_both, kept_more, kept_next}
use Rattle.rb_fragment.proofs.MakingAll.{take_all}
use Rattle.rb_compile.proofs.used.+marking.Goals as goal

pub mark_expr-returns-in-Binary-clause-kept : goal.mark_expr-returns-in-Binary-clause-kept
mark_expr-returns-in-Binary-clause-kept t c =
    let last = c.mark_expr-in-Binary.new.marks in
    let first = kept_more _ c.mark_expr.new.marks last (rw c.get.ensures at c.mark_expr.ensures.kept) c.mark_expr-in-Binary.ensures.more in
    subst (λ xs. AreKept xs last) (sym (ap variables_in c.in-Binary.is ∙ variables-Binary c.in-Binary.field-0 c.in-Binary.field-1 _ _))
    (kept_both _ _ last first (rw c.get-in-Binary.ensures at c.mark_expr-in-Binary.ensures.kept))

pub mark_expr-returns-in-Let-clause-kept : goal.mark_expr-returns-in-Let-clause-kept
mark_expr-returns-in-Let-clause-kept t c =
    let last = c.mark_expr-in-Let-2.new.marks in
    let first = kept_more _ c.mark_expr-in-Let.new.marks last (rw c.get-in-Let.ensures at c.mark_expr-in-Let.ensures.kept) c.mark_expr-in-Let-2.ensures.more in
    subst (λ xs. AreKept xs last) (sym (ap variables_in c.in-Let.is ∙ variables-Let c.in-Let.field-0 c.in-Let.field-1 c.in-Let.field-2 _ _))
    (kept_both _ _ last first (rw c.get-in-Let-2.ensures at c.mark_expr-in-Let-2.ensures.kept))

pub mark_expr-returns-in-Match-clause-kept : goal.mark_expr-returns-in-Match-clause-kept
mark_expr-returns-in-Match-clause-kept t c =
    let last = c.mark_bodies.new.marks in
    let first = kept_more _ c.mark_expr-in-Match.new.marks last (rw c.get-in-Match.ensures at c.mark_expr-in-Match.ensures.kept) c.mark_bodies.ensures.more in
    subst (λ xs. AreKept xs last) (sym (ap variables_in c.in-Match.is ∙ variables-Match c.in-Match.field-0 _ _))
    (kept_both _ _ last first (rw c.as_slice-in-Match.ensures at c.mark_bodies.ensures.kept))

pub mark_all-loop-expr-preserved : goal.mark_all-loop-expr-preserved
mark_all-loop-expr-preserved t c = record {
  more = λ x h. c.mark_expr.ensures.more x (c.loop-expr.invariant.more x h);
  kept = kept_next variables_in c.args.exprs.now c.loop-expr.expr-index c.expr-item.result c.loop-expr.marks c.mark_expr.new.marks
      (take_more c.args.exprs.now c.loop-expr.expr-index _ c.loop-expr-test.true ∙ ap (λ e. take c.loop-expr.expr-index c.args.exprs.now ++ e ∷ []) (sym c.expr-item.is))
      c.loop-expr.invariant.kept c.mark_expr.ensures.more c.mark_expr.ensures.kept;
}

pub mark_all-returns-clause-kept : goal.mark_all-returns-clause-kept
mark_all-returns-clause-kept t c =
    subst (λ es. AreKept (flat_map (λ xs. xs) (map variables_in es)) c.loop-expr.marks) (take_all c.args.exprs.now c.loop-expr.expr-index c.loop-expr-test.false)
    c.loop-expr.invariant.kept

pub mark_bodies-loop-clause-preserved : goal.mark_bodies-loop-clause-preserved
mark_bodies-loop-clause-preserved t c = record {
  more = λ x h. c.mark_expr.ensures.more x (c.loop-clause.invariant.more x h);
  kept = kept_next variables_of_clause c.args.clauses.now c.loop-clause.clause-index c.clause-item.result c.loop-clause.marks c.mark_expr.new.marks
      (take_more c.args.clauses.now c.loop-clause.clause-index _ c.loop-clause-test.true ∙ ap (λ e. take c.loop-clause.clause-index c.args.clauses.now ++ e ∷ []) (sym c.clause-item.is))
      c.loop-clause.invariant.kept c.mark_expr.ensures.more
      (subst (λ xs. AreKept xs c.mark_expr.new.marks) (sym (variables-Clause c.clause-item.result)) c.mark_expr.ensures.kept);
}

pub mark_bodies-returns-clause-kept : goal.mark_bodies-returns-clause-kept
mark_bodies-returns-clause-kept t c =
    subst (λ cs. AreKept (flat_map (λ xs. xs) (map variables_of_clause cs)) c.loop-clause.marks) (take_all c.args.clauses.now c.loop-clause.clause-index c.loop-clause-test.false)
    c.loop-clause.invariant.kept
