use Rattle.rb_bytes.proofs.MemoryLemmas.{store_keeps}
use Rattle.rb_bytes.proofs.laws.stores_are_loaded.Goals as goal

pub returns : goal.returns
returns c = store_keeps
