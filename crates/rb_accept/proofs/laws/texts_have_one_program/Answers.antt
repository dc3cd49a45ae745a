use Rattle.rb_accept.proofs.OneProgram.{one_program}
use Rattle.rb_accept.proofs.laws.texts_have_one_program.Goals as goal

pub returns : goal.returns
returns c = one_program
