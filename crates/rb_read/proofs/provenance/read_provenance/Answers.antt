use Rattle.rb_read.specs.inner.Reading.{provenance, begins_provenance}
use Rattle.rb_read.proofs.Loops.{beyond-fails}
use Rattle.rb_read.proofs.provenance.read_provenance.Goals as goal

pub returns-then-levels-eq0 : goal.returns-then-levels-eq0
unfolding provenance
returns-then-levels-eq0 c =
    rw (c.beyond.ensures, c.begins_provenance.ensures, c.if-levels-eq0.true) (beyond-fails _ (λ t. begins_provenance t) c.args.placed.now)
