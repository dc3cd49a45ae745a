use Rattle.std.proofs.Common.{◌≡◌, ℕ, ◌<◌, Some}
use Rattle.std.specs.Prelude.{slice_get}
use Rattle.rb_layout.specs.declared.layout.Block.{Block}
use Rattle.rb_fetch.specs.inner.Placing.{NoneOf}
use Rattle.rb_fetch.proofs.place.find_part.Given as goal

abbrev pub invariant-loop-b : goal.invariant-loop-b
invariant-loop-b l = (j : ℕ) (block : Block) → j < l.b → slice_get l.leaf.blocks j ≡ Some block → NoneOf l.path l.wanted block.words
