use Rattle.rb_match.specs.inner.Opening.{LeadsSome, StandBehind}
use Rattle.rb_match.proofs.deep.open_ways.Given as goal

abbrev pub invariant-loop-leaf : goal.invariant-loop-leaf
invariant-loop-leaf l = record {
  leads : LeadsSome l.agreed l.part.ty l.part.words.now l.part.spots.now l.part.known.now l.part.position l.onward l.leaf l.fn.body l.holes l.body l.edges;
  stands : StandBehind l.fn.body l.holes l.leaf l.body l.edges;
}
