use Rattle.std.proofs.Common.{[], subst}
use Rattle.rb_matrix.specs.inner.OneColumn.{IsOneAnswer, one_each}
use Rattle.rb_matrix.proofs.Exhausts.{all-chosen, is-missing}
use Rattle.rb_matrix.proofs.coverage.exhaust.Goals as goal

pub returns-in-None : goal.returns-in-None
returns-in-None c =
    all-chosen c.args.types.now c.args.ty c.args.rows.now
    (subst (IsOneAnswer c.args.types.now c.args.ty [] (one_each c.args.rows.now)) c.in-None.is
    (subst (λ l. IsOneAnswer c.args.types.now c.args.ty [] l c.in_ok-find_one.field-0) c.in_ok-unwanted.ensures
    (subst (λ l. IsOneAnswer c.args.types.now c.args.ty l c.in_ok-unwanted.unwanted c.in_ok-find_one.field-0) c.new.ensures c.in_ok-find_one.ensures)))

pub returns-in-Some : goal.returns-in-Some
returns-in-Some c =
    is-missing c.args.types.now c.args.ty c.args.rows.now c.in-Some.pat
    (subst (IsOneAnswer c.args.types.now c.args.ty [] (one_each c.args.rows.now)) c.in-Some.is
    (subst (λ l. IsOneAnswer c.args.types.now c.args.ty [] l c.in_ok-find_one.field-0) c.in_ok-unwanted.ensures
    (subst (λ l. IsOneAnswer c.args.types.now c.args.ty l c.in_ok-unwanted.unwanted c.in_ok-find_one.field-0) c.new.ensures c.in_ok-find_one.ensures)))
