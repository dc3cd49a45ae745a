use Rattle.std.proofs.Common.{◌≡◌, take}
use Rattle.rb_peek.specs.Rebuilds.{numbers_of}
use Rattle.rb_peek.proofs.rebuild.numbers_of.Given as goal

abbrev pub invariant-loop-word : goal.invariant-loop-word
invariant-loop-word l = l.numbers ≡ numbers_of (take l.word-index l.words)
