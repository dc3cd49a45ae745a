use Rattle.std.proofs.Common.{◌<◌, ◌^◌}
use Rattle.rb_agree.specs.inner.Lists.{EachBefore}
use Rattle.rb_agree.proofs.splits.wide_literal.Given as goal

abbrev pub invariant-loop-k : goal.invariant-loop-k
invariant-loop-k l = EachBefore (λ c. c < 2 ^ l.bits) l.literals l.k
