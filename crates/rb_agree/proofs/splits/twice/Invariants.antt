use Rattle.rb_agree.proofs.Splitting.{DistinctBefore, HasFirst}
use Rattle.rb_agree.proofs.splits.twice.Given as goal

abbrev pub invariant-loop-k : goal.invariant-loop-k
invariant-loop-k l = record {
  distinct : DistinctBefore l.literals l.k;
  before : HasFirst l.before l.literals l.k;
}
