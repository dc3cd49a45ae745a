use Rattle.std.proofs.Common.{subst}
use Rattle.rb_agree.specs.declared.rules.Rule.{Rule}
use Rattle.rb_agree.specs.inner.Rules.{RuleIsReady}
use Rattle.rb_agree.proofs.Ruling.{holds-nowhere, holds-tests, holds-values, inhabited, type-in}
use Rattle.rb_agree.proofs.rules.doubts.Goals as goal

pub returns-in-Roots : goal.returns-in-Roots
returns-in-Roots c = holds-nowhere c.args.ruled.now.program.now c.args.ruled.now.layouts.now c.args.ruled.now.ty c.args.ruled.now.layout.now c.args.ruled.now.rule c.new.result c.new.ensures

pub returns-in-Parts : goal.returns-in-Parts
returns-in-Parts c = holds-nowhere c.args.ruled.now.program.now c.args.ruled.now.layouts.now c.args.ruled.now.ty c.args.ruled.now.layout.now c.args.ruled.now.rule c.new-in-Parts.result c.new-in-Parts.ensures

pub returns-in-Blocks : goal.returns-in-Blocks
returns-in-Blocks c = holds-nowhere c.args.ruled.now.program.now c.args.ruled.now.layouts.now c.args.ruled.now.ty c.args.ruled.now.layout.now c.args.ruled.now.rule c.new-in-Blocks.result c.new-in-Blocks.ensures

pub returns-in-Fields : goal.returns-in-Fields
returns-in-Fields c = holds-nowhere c.args.ruled.now.program.now c.args.ruled.now.layouts.now c.args.ruled.now.ty c.args.ruled.now.layout.now c.args.ruled.now.rule c.new-in-Fields.result c.new-in-Fields.ensures

pub returns-in-Splits : goal.returns-in-Splits
returns-in-Splits c = holds-nowhere c.args.ruled.now.program.now c.args.ruled.now.layouts.now c.args.ruled.now.ty c.args.ruled.now.layout.now c.args.ruled.now.rule c.new-in-Splits.result c.new-in-Splits.ensures

pub returns-in-Flattening : goal.returns-in-Flattening
returns-in-Flattening c = holds-nowhere c.args.ruled.now.program.now c.args.ruled.now.layouts.now c.args.ruled.now.ty c.args.ruled.now.layout.now c.args.ruled.now.rule c.new-in-Flattening.result c.new-in-Flattening.ensures

pub returns-in-Holding : goal.returns-in-Holding
returns-in-Holding c = holds-nowhere c.args.ruled.now.program.now c.args.ruled.now.layouts.now c.args.ruled.now.ty c.args.ruled.now.layout.now c.args.ruled.now.rule c.new-in-Holding.result c.new-in-Holding.ensures

pub returns-in-Values : goal.returns-in-Values
returns-in-Values c =
    holds-values c.args.ruled.now.program.now c.args.ruled.now.layouts.now c.args.ruled.now.ty c.args.ruled.now.layout.now c.args.ruled.now.rule c.as_slice.result.now c.sharing_marks.result c.in-Values.is c.as_slice.ensures c.sharing_marks.ensures

pub returns-in-Tests : goal.returns-in-Tests
returns-in-Tests c =
    holds-tests c.args.ruled.now.program.now c.args.ruled.now.layouts.now c.args.ruled.now.ty c.args.ruled.now.layout.now c.args.ruled.now.rule c.as_slice-in-Tests.result.now c.failure_marks.result c.in-Tests.is c.as_slice-in-Tests.ensures c.failure_marks.ensures

pub sharing_marks-requires-clause-inhabited : goal.sharing_marks-requires-clause-inhabited
sharing_marks-requires-clause-inhabited c = inhabited c.args.ruled.now.program.now c.as_slice.result.now c.as_slice.ensures c.requires.ruled.known.typed

pub sharing_marks-requires-clause-ty : goal.sharing_marks-requires-clause-ty
sharing_marks-requires-clause-ty c =
    type-in c.args.ruled.now.program.now c.args.ruled.now.layouts.now c.args.ruled.now.related.now c.as_slice.result.now c.args.ruled.now.ty c.args.ruled.now.layout.now c.as_slice.ensures c.requires.ruled.known c.requires.ruled.layout

pub failure_marks-requires : goal.failure_marks-requires
failure_marks-requires c = λ n leaf at.
    subst (λ (r : Rule). RuleIsReady c.args.ruled.now.layouts.now r) c.in-Tests.is c.requires.ready c.args.ruled.now.ty c.args.ruled.now.layout.now n leaf c.requires.ruled.layout at
