use Rattle.std.proofs.Common.{◌≡◌, ◌^◌, ◌∙◌, sym}
use borrow.Author.Count.{below_more}
use Rattle.rb_agree.proofs.PointerParts.{power-more, small-more, no-power}
use Rattle.rb_agree.proofs.blocks.bits_saved.Goals as goal

pub loop-k-preserved : goal.loop-k-preserved
loop-k-preserved c = record {
  power = power-more c.loop-k.k c.loop-k.power c.loop-k.invariant.power;
  small = small-more c.loop-k.k c.loop-k.power c.loop-k.invariant.power c.loop-k-test.true;
  before = below_more (λ j. c.args.align ≡ 2 ^ j → ⊥) c.loop-k.k c.loop-k.invariant.before (λ e. c.if-align-power.false (e ∙ sym c.loop-k.invariant.power));
}

pub returns : goal.returns
returns c = no-power c.args.align c.loop-k.k c.loop-k-test.false c.loop-k.invariant.before
