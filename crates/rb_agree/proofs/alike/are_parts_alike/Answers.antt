use Rattle.std.proofs.Common.{arith}
use Rattle.rb_agree.specs.inner.Alike.{IsPartAlike}
use Rattle.rb_agree.proofs.Alikeness.{pairs-all, pairs-next}
use Rattle.rb_agree.proofs.Lists.{at-item}
use Rattle.rb_agree.proofs.alike.are_parts_alike.Goals as goal

pub loop-k-preserved : goal.loop-k-preserved
loop-k-preserved c =
    let within = c.loop-k-test.true in
    let same = c.if-parts-parts_2.false in
    pairs-next (IsPartAlike c.args.types.now c.args.one.now c.args.other.now c.args.loc.now.o c.args.loc.now.l) c.args.parts.now c.args.parts_2.now c.loop-k.k c.index-parts-k.result c.index-parts_2-k.result
    (at-item c.args.parts.now c.loop-k.k c.index-parts-k.result within c.index-parts-k.is)
    (at-item c.args.parts_2.now c.loop-k.k c.index-parts_2-k.result (omega (arith, within, same)) c.index-parts_2-k.is)
    c.if-not-is_part_alike.ensures c.loop-k.invariant

pub returns : goal.returns
returns c = (
  c.if-parts-parts_2.false,
  pairs-all (IsPartAlike c.args.types.now c.args.one.now c.args.other.now c.args.loc.now.o c.args.loc.now.l) c.args.parts.now c.args.parts_2.now c.loop-k.k c.loop-k-test.false c.loop-k.invariant,
)
