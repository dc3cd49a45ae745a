use Rattle.rb_layout.specs.Positions.{open_positions}
use Rattle.rb_agree.specs.inner.Held.{FailsPath, IsOpenPath, part_paths}
use Rattle.rb_agree.proofs.Lists.{flat-found, flat-passed, flat-ends}
use Rattle.rb_agree.proofs.held.parts_fault.Goals as goal

pub returns-in-Some : goal.returns-in-Some
returns-in-Some c =
    let opens = open_positions c.args.types.now c.args.prov.now in
    flat-found (IsOpenPath opens) (FailsPath opens) part_paths c.args.parts.now c.loop-part.part-index c.part-item.result c.in_ok-why.field-0 c.in-Some.why
    c.loop-part-test.true c.part-item.is c.in_ok-why.ensures c.in-Some.is c.loop-part.invariant

pub loop-part-preserved : goal.loop-part-preserved
loop-part-preserved c =
    let opens = open_positions c.args.types.now c.args.prov.now in
    flat-passed (IsOpenPath opens) (FailsPath opens) part_paths c.args.parts.now c.loop-part.part-index c.part-item.result c.in_ok-why.field-0
    c.loop-part-test.true c.part-item.is c.in_ok-why.ensures c.in_default.is c.loop-part.invariant

pub returns : goal.returns
returns c =
    let opens = open_positions c.args.types.now c.args.prov.now in
    flat-ends (IsOpenPath opens) (FailsPath opens) part_paths c.args.parts.now c.loop-part.part-index c.loop-part-test.false c.loop-part.invariant
