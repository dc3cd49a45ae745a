use Rattle.std.proofs.Common.{◌≡◌, map, take}
use Rattle.rb_coding.specs.Packing.{word_made}
use Rattle.rb_peek.specs.Rebuilds.{words_at_path}
use Rattle.rb_peek.proofs.pack.pack_all.Given as goal

abbrev pub invariant-loop-word : goal.invariant-loop-word
invariant-loop-word l = l.packed ≡ map (word_made (words_at_path l.fields) (λ b. 0)) (take l.word-index l.words)
