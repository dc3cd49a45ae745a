use Rattle.std.proofs.Common.{◌≡◌, ◌++◌, take}
use Rattle.rb_show.specs.Lines.{numbered_texts, block_lines}
use Rattle.rb_show.proofs.word.push_blocks.Given as goal

abbrev pub invariant-loop-i : goal.invariant-loop-i
invariant-loop-i l = l.text.items ≡ l.initial.text.items ++ numbered_texts block_lines 0 (take l.i l.blocks)
