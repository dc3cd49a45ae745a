use Rattle.std.proofs.Common.{◌≡◌, drop}
use Rattle.rb_coding.specs.Packing.{word_of_parts}
use Rattle.rb_peek.specs.Rebuilds.{words_at_path}
use Rattle.rb_peek.proofs.pack.pack.Given as goal

abbrev pub invariant-loop-k : goal.invariant-loop-k
invariant-loop-k l = l.word ≡ word_of_parts (words_at_path l.fields) (λ b. 0) (drop l.k l.parts)
