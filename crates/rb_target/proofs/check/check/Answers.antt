use Rattle.std.proofs.Common.{rules, subst, sym}
use Rattle.rb_target.specs.Validity.{IsValid}
use Rattle.rb_target.proofs.Checks.{not_valid}
use Rattle.rb_target.proofs.check.check.Goals as goal

pub returns-in_err-check_funs-clause-valid : goal.returns-in_err-check_funs-clause-valid
returns-in_err-check_funs-clause-valid c = (
  λ ok. absurd (search rules),
  λ valid. absurd (not_valid c.as_slice.result.now _ c.in_err-check_funs.ensures.err.stands (subst IsValid (sym c.as_slice.ensures) valid)),
)
