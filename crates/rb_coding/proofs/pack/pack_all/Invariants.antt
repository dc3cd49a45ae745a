use Rattle.std.proofs.Common.{◌≡◌, map, take}
use Rattle.std.specs.Prelude.{slice_index}
use Rattle.rb_coding.specs.inner.Nodes.{subs_of}
use Rattle.rb_coding.specs.Packing.{word_made}
use Rattle.rb_coding.proofs.pack.pack_all.Given as goal

abbrev pub invariant-loop-word : goal.invariant-loop-word
invariant-loop-word l = l.packed ≡ map (word_made (subs_of l.table l.nodes l.node) (slice_index l.addresses)) (take l.word-index l.words)
