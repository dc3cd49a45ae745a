use Rattle.std.proofs.Common.{subst, length}
use Rattle.std.specs.Prelude.{MatchOption}
use Rattle.rb_layout.specs.A4.{IsBlockLength}
use Rattle.rb_agree.specs.inner.Blocks.{ArePointersFine, FailsLength, FailsPointers, HasWidth, FailsWidth}
use Rattle.rb_agree.specs.Lists.{SomeOf}
use Rattle.rb_agree.specs.inner.Lists.{EachOf}
use Rattle.rb_agree.proofs.PointerParts.{length-fails, width-fails, in-block}
use Rattle.rb_agree.proofs.blocks.block_fault.Goals as goal

pub returns-in-Some : goal.returns-in-Some
returns-in-Some c = length-fails c.args.block.now c.in-Some.why (subst (λ ws. FailsLength ws c.in-Some.why) c.as_slice-words.ensures c.in-Some.ensures)

pub returns-in-Some-width_fault : goal.returns-in-Some-width_fault
returns-in-Some-width_fault c = width-fails c.args.block.now c.in-Some-width_fault.why (subst (λ ws. SomeOf (FailsWidth c.in-Some-width_fault.why) ws) c.as_slice-words.ensures c.in-Some-width_fault.ensures)

pub returns : goal.returns
returns c =
    let words = c.as_slice-words.ensures in
    in-block c.args.block.now c.pointers_fault.result (subst (λ ws. IsBlockLength (length ws)) words c.in_default.ensures) (subst (λ ws. EachOf HasWidth ws) words c.in_default-width_fault.ensures)
    (subst (λ ws. MatchOption c.pointers_fault.result (ArePointersFine ws) (FailsPointers ws)) words c.pointers_fault.ensures)
