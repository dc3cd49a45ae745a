use Rattle.std.proofs.Common.{◌≡◌, ◌++◌}
use Rattle.rb_image_text.specs.MemoryImages.{bytes_over}
use Rattle.rb_image_text.specs.Text.{bytes_text}
use Rattle.rb_lines.proofs.image_text.push_bytes.Given as goal

abbrev pub invariant-loop-at : goal.invariant-loop-at
invariant-loop-at l = l.text.items ≡ l.initial.text.items ++ bytes_text (bytes_over l.memory l.address l.at)
