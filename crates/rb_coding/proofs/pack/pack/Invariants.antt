use Rattle.std.proofs.Common.{◌≡◌, drop}
use Rattle.std.specs.Prelude.{slice_index}
use Rattle.rb_coding.specs.inner.Nodes.{subs_of}
use Rattle.rb_coding.specs.Packing.{word_of_parts}
use Rattle.rb_coding.proofs.pack.pack.Given as goal

abbrev pub invariant-loop-k : goal.invariant-loop-k
invariant-loop-k l = l.word ≡ word_of_parts (subs_of l.table l.nodes l.node) (slice_index l.addresses) (drop l.k l.parts)
