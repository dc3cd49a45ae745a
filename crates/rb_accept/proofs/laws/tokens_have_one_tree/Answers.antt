use Rattle.rb_accept.proofs.OneProgram.{one_file}
use Rattle.rb_accept.proofs.laws.tokens_have_one_tree.Goals as goal

pub returns : goal.returns
returns c = one_file
