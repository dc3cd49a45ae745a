use Rattle.std.proofs.Common.{◌≡◌, ◌++◌, drop}
use Rattle.rb_layout.specs.Flattening.{inline_words}
use Rattle.rb_layout.proofs.flat_leaf.push_shape.Given as goal

abbrev pub invariant-loop-number : goal.invariant-loop-number
invariant-loop-number l = l.words ++ inline_words l.path l.number (drop l.number l.shape) ≡ l.fn.words ++ inline_words l.path 0 l.shape
