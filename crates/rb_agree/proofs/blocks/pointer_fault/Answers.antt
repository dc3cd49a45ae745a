use Rattle.std.proofs.Common.{arith}
use Rattle.rb_agree.proofs.PointerParts.{is-wide, is-alignment}
use Rattle.rb_agree.proofs.blocks.pointer_fault.Goals as goal

pub returns-then-l-ge24 : goal.returns-then-l-ge24
returns-then-l-ge24 c = (
  is-alignment c.args.align c.in-Some.k c.in-Some.ensures.0 c.in-Some.ensures.1,
  is-wide c.args.l c.args.align c.in-Some.k c.in-Some.ensures.1 (omega arith),
)

pub returns-then-l-k-ge24 : goal.returns-then-l-k-ge24
returns-then-l-k-ge24 c = (
  is-alignment c.args.align c.in-Some.k c.in-Some.ensures.0 c.in-Some.ensures.1,
  is-wide c.args.l c.args.align c.in-Some.k c.in-Some.ensures.1 c.if-l-k-ge24.true,
)
