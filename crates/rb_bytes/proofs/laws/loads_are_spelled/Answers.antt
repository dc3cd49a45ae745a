use Rattle.rb_bytes.proofs.MemoryLemmas.{load_keeps}
use Rattle.rb_bytes.proofs.laws.loads_are_spelled.Goals as goal

pub returns : goal.returns
returns c = load_keeps
