use Rattle.rb_rel.proofs.Reading.{reads_loc}
use Rattle.rb_rel.proofs.laws.reading_gives_bits.Goals as goal

pub returns : goal.returns
returns c = λ types layouts m clean t v ws b loc x e. reads_loc b.leaf ws m clean b.subs b.ats b.placed loc x e
