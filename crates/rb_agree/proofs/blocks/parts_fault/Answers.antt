use Rattle.rb_agree.proofs.Lists.{before-more, before-all}
use Rattle.rb_layout.specs.declared.layout.Part.{Part}
use Rattle.rb_agree.specs.inner.Blocks.{IsKind}
use Rattle.rb_agree.proofs.blocks.parts_fault.Goals as goal

pub loop-part-preserved : goal.loop-part-preserved
loop-part-preserved c = before-more (λ (p : Part). IsKind p.l p.kind) c.args.parts.now c.loop-part.part-index c.part-item.result c.loop-part-test.true c.part-item.is c.in_default.ensures c.loop-part.invariant

pub returns : goal.returns
returns c = before-all (λ (p : Part). IsKind p.l p.kind) c.args.parts.now c.loop-part.part-index c.loop-part-test.false c.loop-part.invariant
