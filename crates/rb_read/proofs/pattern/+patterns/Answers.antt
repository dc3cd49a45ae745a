use Rattle.std.proofs.Common.{rules}
use Rattle.rb_read.specs.inner.Reading.{pattern, begins_pattern}
use Rattle.rb_read.proofs.Loops.{beyond-fails}
use Rattle.rb_read.proofs.pattern.+patterns.Goals as goal

pub read_pattern-returns-then-levels-eq0 : goal.read_pattern-returns-then-levels-eq0
unfolding pattern
read_pattern-returns-then-levels-eq0 t c =
    rw (c.beyond.ensures, c.begins_pattern.ensures, c.if-levels-eq0.true) (beyond-fails _ (λ t. begins_pattern t) c.args.placed.now)

pub read_subpatterns-returns : goal.read_subpatterns-returns
read_subpatterns-returns t c = c.read_in_parens.ensures (λ ts. pattern c.args.levels c.args.total ts) (λ ps r h. search rules)
