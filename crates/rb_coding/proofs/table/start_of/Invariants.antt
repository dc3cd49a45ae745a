use Rattle.std.proofs.Common.{◌≡◌}
use Rattle.rb_coding.specs.inner.Nodes.{start_of as the_start}
use Rattle.rb_coding.proofs.table.start_of.Given as goal

abbrev pub invariant-loop-turn : goal.invariant-loop-turn
invariant-loop-turn l = l.start ≡ the_start l.sizes l.fn.end l._turn
