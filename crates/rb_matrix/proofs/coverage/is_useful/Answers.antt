use Rattle.std.proofs.Common.{sym, subst}
use Rattle.rb_matrix.specs.inner.OneColumn.{IsUseAnswer, IsOneAnswer}
use Rattle.rb_matrix.proofs.Exhausts.{use-answer}
use Rattle.rb_matrix.proofs.coverage.is_useful.Goals as goal

pub returns : goal.returns
returns c =
    let types = c.args.types.now in let ty = c.args.ty in let before = c.args.before.now in let q = c.args.pat.now in let unwanted = c.in_ok-unwanted.unwanted in
    subst (IsUseAnswer types ty before q) (sym c.is_some.ensures)
    (use-answer types ty before q unwanted c.in_ok-unwanted.ensures c.in_ok-found.found
    (subst (λ l. IsOneAnswer types ty l unwanted c.in_ok-found.found) c.in_ok-wanted.ensures c.in_ok-found.ensures))
