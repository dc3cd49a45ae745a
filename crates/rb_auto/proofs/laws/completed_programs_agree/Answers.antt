use Rattle.rb_auto.proofs.Agreeing.{completed-agree}
use Rattle.rb_auto.proofs.laws.completed_programs_agree.Goals as goal

pub returns : goal.returns
returns c = completed-agree
