use Rattle.rb_target.proofs.Checks.{not_valid, first_same}
use Rattle.rb_target.proofs.FindingFaults.{fault_found}
use Rattle.rb_target.proofs.laws.faults_decide_validity.Goals as goal

pub returns-clause-none : goal.returns-clause-none
returns-clause-none c funs fault valid stands = not_valid funs fault stands valid

pub returns-clause-some : goal.returns-clause-some
returns-clause-some c = fault_found

pub returns-clause-one : goal.returns-clause-one
returns-clause-one c = first_same
