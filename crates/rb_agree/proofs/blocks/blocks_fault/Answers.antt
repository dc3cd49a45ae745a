use Rattle.std.proofs.Common.{subst, arith}
use Rattle.std.specs.Prelude.{MatchOption}
use Rattle.rb_layout.specs.declared.layout.Block.{Block}
use Rattle.rb_agree.specs.inner.Blocks.{ArePointersFine, FailsPointers, FailsBlock, IsBlock}
use Rattle.rb_agree.specs.Lists.{SomeOf}
use Rattle.rb_agree.specs.inner.Lists.{EachOf}
use Rattle.rb_agree.proofs.PointerParts.{block-fails, in-leaf}
use Rattle.rb_agree.proofs.blocks.blocks_fault.Goals as goal

pub returns-in-Some-each_block_fault : goal.returns-in-Some-each_block_fault
returns-in-Some-each_block_fault c = block-fails c.args.leaf.now c.in-Some-each_block_fault.why (subst (λ bs. SomeOf (λ (b : Block). FailsBlock b c.in-Some-each_block_fault.why) bs) c.as_slice.ensures c.in-Some-each_block_fault.ensures)

pub returns : goal.returns
returns c =
    in-leaf c.args.leaf.now c.pointers_fault.result (omega (arith, c.len.ensures)) (subst (λ bs. EachOf IsBlock bs) c.as_slice.ensures c.in_default-each_block_fault.ensures)
    (subst (λ ws. MatchOption c.pointers_fault.result (ArePointersFine ws) (FailsPointers ws)) c.as_slice-2.ensures c.pointers_fault.ensures)
