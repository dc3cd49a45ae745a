use Rattle.std.proofs.Common.{◌≡◌, drop}
use Rattle.rb_compose.specs.inner.Code.{blocks_code}
use Rattle.rb_compose.proofs.block.emit_blocks.Given as goal

abbrev pub invariant-loop-block : goal.invariant-loop-block
invariant-loop-block l = blocks_code l.subs (drop l.block-index l.wanted) l.blocks l.body ≡ blocks_code l.subs l.wanted l.fn.blocks l.fn.body
