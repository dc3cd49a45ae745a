use Rattle.rb_fragment.proofs.Functions.{runs_do}
use Rattle.rb_fragment.proofs.laws.runs_do_what_functions_do.Goals as goal

pub returns : goal.returns
returns c = runs_do
