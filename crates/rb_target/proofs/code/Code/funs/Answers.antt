use Rattle.std.proofs.Common.{subst}
use Rattle.rb_target.specs.Validity.{IsValid}
use Rattle.rb_target.proofs.Results.{final_call}
use Rattle.rb_target.proofs.Unrolling.{body_unrolls}
use Rattle.rb_target.proofs.Nesting.{enter_left, enter_deep}
use Rattle.rb_target.proofs.code.Code.funs.Goals as goal

pub returns-clause-laws : goal.returns-clause-laws
returns-clause-laws c = record {
  unrolls = body_unrolls c.args.self.now (subst IsValid c.self.view_is c.self.invariant);
  deep = enter_deep c.args.self.now;
  final = final_call;
  falls = enter_left c.args.self.now;
}
