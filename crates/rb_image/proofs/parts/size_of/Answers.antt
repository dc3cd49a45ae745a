use Rattle.std.proofs.Common.{sym, ap, ◌∙◌}
use Rattle.std.specs.Option.{option_copied}
use Rattle.rb_image.proofs.OrderLemmas.{block_short}
use Rattle.rb_image.proofs.parts.size_of.Goals as goal

pub block_size-requires : goal.block_size-requires
block_size-requires c = block_short c.args.leaf.now c.args.block c.in-Some.block.now c.requires.readable (sym c.get.ensures.value ∙ ap option_copied c.in-Some.is)
