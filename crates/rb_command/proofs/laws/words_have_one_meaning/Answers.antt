use Rattle.rb_command.proofs.OneCommand.{meaning, one_meaning}
use Rattle.rb_command.proofs.laws.words_have_one_meaning.Goals as goal

pub returns : goal.returns
returns c words = let m = meaning words in (m.0, m.1, λ other h. one_meaning words other m.0 h m.1)
