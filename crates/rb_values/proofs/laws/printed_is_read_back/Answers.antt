use Rattle.rb_values.proofs.BackLemmas.{read-back}
use Rattle.rb_values.proofs.laws.printed_is_read_back.Goals as goal

pub returns : goal.returns
returns c types ty limit v declared known typed within = read-back types declared ty limit v known typed within
