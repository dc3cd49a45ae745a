use Rattle.std.proofs.Common.{sym, ap, ◌∙◌}
use Rattle.rb_image.specs.Blocks.{word_in}
use Rattle.rb_image.proofs.SiteLemmas.{no_word_at_zero}
use Rattle.rb_image.proofs.leaf.read_block.Goals as goal

pub returns-then-base-eq0-clause-word : goal.returns-then-base-eq0-clause-word
returns-then-base-eq0-clause-word g c =
    let blocks = c.args.image.now.blocks in
    sym (ap (λ base. word_in blocks base c.args.byte c.args.width) c.if-base-eq0.true ∙ no_word_at_zero blocks c.requires.placed c.args.byte c.args.width)
