use Rattle.rb_core.proofs.InferenceForms.{first_clause-is}
use Rattle.rb_core.proofs.inference.+inferring.Goals as goal

pub infer_match-returns-clause-ty : goal.infer_match-returns-clause-ty
infer_match-returns-clause-ty t c =
    let first = first_clause-is c.args.program.now.types c.args.program.now.funs c.args.clauses.now c.first-item.result c.args.ty c.args.scope.now c.in-len1-up.len_at_least c.first-item.is in
    rw (c.in_default.is, first) (rw (c.in_ok-bind_types.ensures, c.as_slice.ensures) at c.in_ok-found.ensures.ty)
