use Rattle.std.proofs.Common.{rules}
use Rattle.rb_read.specs.inner.Reading.{below, begins_below}
use Rattle.rb_read.proofs.Loops.{beyond-fails}
use Rattle.rb_read.proofs.provenance.+below.Goals as goal

pub read_below-returns-then-levels-eq0 : goal.read_below-returns-then-levels-eq0
unfolding below
read_below-returns-then-levels-eq0 t c =
    rw (c.beyond.ensures, c.begins_below.ensures, c.if-levels-eq0.true) (beyond-fails _ (λ t. begins_below t) c.args.placed.now)

pub read_parts-returns : goal.read_parts-returns
read_parts-returns t c = c.read_in_parens.ensures (λ ts. below c.args.levels c.args.total ts) (λ ps r h. search rules)
