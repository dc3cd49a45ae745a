use Rattle.rb_bytes.proofs.MemoryLemmas.{place_keeps}
use Rattle.rb_bytes.proofs.laws.places_keep_all.Goals as goal

pub returns : goal.returns
returns c = place_keeps
