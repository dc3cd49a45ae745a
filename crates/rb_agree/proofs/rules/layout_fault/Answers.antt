use Rattle.std.proofs.Common.{Bool, List, sym, subst}
use Rattle.std.proofs.lemmas.Option.{slice_get_within}
use Rattle.rb_agree.specs.inner.Rules.{HoldsWhereOff}
use Rattle.rb_agree.proofs.Reading.{leaves-of-type}
use Rattle.rb_agree.proofs.Ruling.{type-fails, type-passes}
use Rattle.rb_agree.proofs.rules.layout_fault.Goals as goal

pub returns-in-Some : goal.returns-in-Some
returns-in-Some c =
    type-fails c.args.ruled.now.program.now c.args.ruled.now.layouts.now c.args.ruled.now.ty c.args.ruled.now.layout.now c.args.ruled.now.rule c.rule_number.result c.in_ok-why.field-0 c.in-Some.why c.rule_number.ensures c.in_ok-why.ensures c.in-Some.is

pub returns : goal.returns
returns c =
    type-passes c.args.ruled.now.program.now c.args.ruled.now.layouts.now c.args.ruled.now.ty c.args.ruled.now.layout.now c.args.ruled.now.rule c.in_ok-why.field-0 c.in_ok-why.ensures c.in_default.is c.leaves_fault.result c.leaves_fault.ensures

pub leaves_fault-requires-clause-written : goal.leaves_fault-requires-clause-written
leaves_fault-requires-clause-written c =
    leaves-of-type c.args.ruled.now.program.now.layouts _ c.args.ruled.now.ty c.args.ruled.now.related.now.written c.leaves_at.result.now c.as_slice.result.now c.requires.ruled.known.written
    (slice_get_within c.args.ruled.now.layouts.now c.args.ruled.now.ty c.args.ruled.now.layout.now c.requires.ruled.layout) c.as_slice.ensures c.leaves_at.ensures

pub leaves_fault-requires-clause-marks : goal.leaves_fault-requires-clause-marks
leaves_fault-requires-clause-marks c =
    subst (λ (ms : List Bool). HoldsWhereOff c.args.ruled.now.program.now c.args.ruled.now.layouts.now c.args.ruled.now.rule c.args.ruled.now.ty c.args.ruled.now.layout.now ms) (sym c.as_slice-2.ensures) c.in_ok-marks.ensures
