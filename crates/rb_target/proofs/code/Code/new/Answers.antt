use Rattle.rb_target.proofs.Results.{final_call}
use Rattle.rb_target.proofs.Unrolling.{body_unrolls}
use Rattle.rb_target.proofs.Nesting.{enter_left, enter_deep}
use Rattle.rb_target.proofs.code.Code.new.Goals as goal

pub returns-clause-laws : goal.returns-clause-laws
returns-clause-laws c = record {
  unrolls = body_unrolls c.args.funs c.requires;
  deep = enter_deep c.args.funs;
  final = final_call;
  falls = enter_left c.args.funs;
}
