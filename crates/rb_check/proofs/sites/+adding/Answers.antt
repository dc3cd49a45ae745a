use Rattle.std.proofs.Common.{◌∙◌}
use Rattle.rb_core.specs.declared.expression.Expr.{Expr}
use Rattle.rb_core.specs.Coverage.{sites}
use Rattle.rb_check.specs.inner.Covering.{body_sites}
use Rattle.rb_check.proofs.SiteLemmas.{gathered-next, added-at, none-Num, none-Var, added-Call, added-Build, added-Binary, added-To, added-Let, added-Match}
use Rattle.rb_check.proofs.sites.+adding.Goals as goal

pub add_sites-returns-in-Num-clause-added : goal.add_sites-returns-in-Num-clause-added
add_sites-returns-in-Num-clause-added t c =
    added-at c.args.program.now.types c.args.program.now.funs c.args.scope.now _ _ _ _ c.in-Num.is
    (none-Num c.args.program.now.types c.args.program.now.funs c.args.scope.now c.in-Num.field-0 c.in-Num.field-1 c.args.found.now)

pub add_sites-returns-in-Var-clause-added : goal.add_sites-returns-in-Var-clause-added
add_sites-returns-in-Var-clause-added t c =
    added-at c.args.program.now.types c.args.program.now.funs c.args.scope.now _ _ _ _ c.in-Var.is
    (none-Var c.args.program.now.types c.args.program.now.funs c.args.scope.now c.in-Var.field-0 c.in-Var.field-1 c.args.found.now)

pub add_sites-returns-in_ok-add_arguments-in-Call-clause-added : goal.add_sites-returns-in_ok-add_arguments-in-Call-clause-added
add_sites-returns-in_ok-add_arguments-in-Call-clause-added t c =
    added-at c.args.program.now.types c.args.program.now.funs c.args.scope.now _ _ _ _ c.in-Call.is
    (added-Call c.args.program.now.types c.args.program.now.funs c.args.scope.now c.in-Call.field-0 c.in-Call.field-1 c.in-Call.parts _ _ (rw c.as_slice.ensures at c.in_ok-add_arguments-in-Call.ensures.added))

pub add_sites-returns-in_ok-add_arguments-in-Build-clause-added : goal.add_sites-returns-in_ok-add_arguments-in-Build-clause-added
add_sites-returns-in_ok-add_arguments-in-Build-clause-added t c =
    added-at c.args.program.now.types c.args.program.now.funs c.args.scope.now _ _ _ _ c.in-Build.is
    (added-Build c.args.program.now.types c.args.program.now.funs c.args.scope.now c.in-Build.field-0 c.in-Build.field-1 c.in-Build.parts _ _ (rw c.as_slice-in-Build.ensures at c.in_ok-add_arguments-in-Build.ensures.added))

pub add_sites-returns-in_ok-add_sites-in-Binary-2-clause-added : goal.add_sites-returns-in_ok-add_sites-in-Binary-2-clause-added
add_sites-returns-in_ok-add_sites-in-Binary-2-clause-added t c =
    added-at c.args.program.now.types c.args.program.now.funs c.args.scope.now _ _ _ _ c.in-Binary.is
    (added-Binary c.args.program.now.types c.args.program.now.funs c.args.scope.now c.in-Binary.field-0 c.in-Binary.field-1 c.in-Binary.a c.in-Binary.b _ _ _
    (rw c.get.ensures at c.in_ok-add_sites-in-Binary.ensures.added)
    (rw (c.get-in-Binary.ensures, c.in_ok-add_sites-in-Binary.ensures.scope) at c.in_ok-add_sites-in-Binary-2.ensures.added))

pub add_sites-returns-in_ok-add_sites-in-To-clause-added : goal.add_sites-returns-in_ok-add_sites-in-To-clause-added
add_sites-returns-in_ok-add_sites-in-To-clause-added t c =
    added-at c.args.program.now.types c.args.program.now.funs c.args.scope.now _ _ _ _ c.in-To.is
    (added-To c.args.program.now.types c.args.program.now.funs c.args.scope.now c.in-To.field-0 c.in-To.field-1 c.in-To.a _ _ (rw c.get-in-To.ensures at c.in_ok-add_sites-in-To.ensures.added))

pub add_sites-returns-in_ok-add_under-in-Let-clause-added : goal.add_sites-returns-in_ok-add_under-in-Let-clause-added
add_sites-returns-in_ok-add_under-in-Let-clause-added t c =
    added-at c.args.program.now.types c.args.program.now.funs c.args.scope.now _ _ _ _ c.in-Let.is
    (added-Let c.args.program.now.types c.args.program.now.funs c.args.scope.now c.in-Let.field-0 c.in-Let.var c.in-Let.ty c.in-Let.a c.in-Let.b _ _ _
    (rw c.get-in-Let.ensures at c.in_ok-add_sites-in-Let.ensures.added)
    (rw (c.get-in-Let-2.ensures, c.in_ok-add_sites-in-Let.ensures.scope) at c.in_ok-add_under-in-Let.ensures.added))

pub add_sites-returns-in_ok-add_bodies-in-Match-clause-added : goal.add_sites-returns-in_ok-add_bodies-in-Match-clause-added
add_sites-returns-in_ok-add_bodies-in-Match-clause-added t c =
    added-at c.args.program.now.types c.args.program.now.funs c.args.scope.now _ _ _ _ c.in-Match.is
    (added-Match c.args.program.now.types c.args.program.now.funs c.args.scope.now c.in-Match.at c.in-Match.scrutinee c.in-Match.clauses c.in_ok-ty-in-Match.ty c.in_ok-patterns-in-Match.patterns _ _ _ _
    (rw c.get-in-Match.ensures at c.in_ok-ty-in-Match.ensures.ty)
    (rw c.as_slice-in-Match.ensures at c.in_ok-patterns-in-Match.ensures)
    c.in_ok-push-in-Match.ensures.ok
    (rw (c.get-in-Match-2.ensures, c.in_ok-ty-in-Match.ensures.scope) at c.in_ok-add_sites-in-Match.ensures.added)
    (rw (c.as_slice-in-Match-2.ensures, c.in_ok-add_sites-in-Match.ensures.scope, c.in_ok-ty-in-Match.ensures.scope) at c.in_ok-add_bodies-in-Match.ensures.added))

pub add_arguments-loop-part-preserved : goal.add_arguments-loop-part-preserved
add_arguments-loop-part-preserved t c = record {
  scope = c.in_ok-add_sites.ensures.scope ∙ c.loop-part.invariant.scope;
  added = gathered-next (λ (e : Expr). sites c.args.program.now.types c.args.program.now.funs e c.args.scope.now) _ _ _ _ _ _ c.loop-part-test.true c.part-item.is
      c.loop-part.invariant.added (rw c.loop-part.invariant.scope at c.in_ok-add_sites.ensures.added);
}

pub add_bodies-loop-clause-preserved : goal.add_bodies-loop-clause-preserved
add_bodies-loop-clause-preserved t c = record {
  scope = c.in_ok-add_body.ensures.scope ∙ c.loop-clause.invariant.scope;
  added = gathered-next (body_sites c.args.program.now.types c.args.program.now.funs c.args.ty c.args.scope.now) _ _ _ _ _ _ c.loop-clause-test.true c.clause-item.is
      c.loop-clause.invariant.added (rw c.loop-clause.invariant.scope at c.in_ok-add_body.ensures.added);
}
