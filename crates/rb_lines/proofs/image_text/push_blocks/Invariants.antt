use Rattle.std.proofs.Common.{◌≡◌, ◌++◌, map, take}
use Rattle.rb_image_text.specs.MemoryImages.{block_over}
use Rattle.rb_image_text.specs.Text.{blocks_text}
use Rattle.rb_lines.proofs.ImageTexts.{Parted}
use Rattle.rb_lines.proofs.image_text.push_blocks.Given as goal

-- so many blocks were shown, and the next one begins at the address or above
abbrev pub invariant-loop-turn : goal.invariant-loop-turn
invariant-loop-turn l = record {
  shown : l.text.items ≡ l.initial.text.items ++ blocks_text (map (block_over l.memory) (take l._turn l.memory.blocks));
  parted : Parted l.memory.blocks l._turn l.from;
}
