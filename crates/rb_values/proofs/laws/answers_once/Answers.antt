use Rattle.rb_values.proofs.AnswerLemmas.{one-answer}
use Rattle.rb_values.proofs.laws.answers_once.Goals as goal

pub returns : goal.returns
returns c = one-answer
