use Rattle.std.proofs.Common.{◌++◌, ap, sym, ◌∙◌}
use Rattle.std.specs.Prelude.{unwrap_or}
use Rattle.rb_core.proofs.TextLemmas.{appended}
use Rattle.rb_image_text.specs.MemoryImages.{bytes_over}
use Rattle.rb_image_text.specs.Text.{byte_text, bytes_text}
use Rattle.rb_lines.proofs.ImageTexts.{bytes_next}
use Rattle.rb_lines.proofs.image_text.push_bytes.Goals as goal

pub loop-at-preserved : goal.loop-at-preserved
loop-at-preserved c =
    let m = c.args.memory.now in
    let is = c.unwrap_or.ensures ∙ ap (λ o. unwrap_or o 0) c.byte.ensures in
    appended _ _ _ _ _ _ c.loop-at.invariant c.in_ok-push_byte.ensures
    (bytes_next m c.args.address c.loop-at.at ∙ ap (λ b. bytes_text (bytes_over m c.args.address c.loop-at.at) ++ byte_text b) (sym is))
