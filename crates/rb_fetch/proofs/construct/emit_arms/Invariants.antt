use Rattle.rb_fragment.specs.Arms.{ArmsAre}
use Rattle.rb_fetch.specs.inner.Constructing.{EmitsArms, Reaches}
use Rattle.rb_fetch.proofs.construct.emit_arms.Given as goal

abbrev pub invariant-loop-way : goal.invariant-loop-way
invariant-loop-way l = record {
  emits : EmitsArms l.ty l.leaves l.ways l.way-index l.fn.body l.body l.into l.joins l.starts;
  are : ArmsAre l.way-index l.fn.body l.body l.joins l.starts;
  reaches : Reaches l.way-index l.into;
}
