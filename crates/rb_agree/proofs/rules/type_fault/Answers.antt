use Rattle.std.proofs.Common.{List, Option, IfOk, refl, subst}
use Rattle.std.specs.Prelude.{MatchOption}
use Rattle.rb_core.specs.declared.types.DataDecl.{DataDecl}
use Rattle.rb_layout.specs.A5.{FailsComplete, IsComplete}
use Rattle.rb_layout.specs.Spots as S
use Rattle.rb_layout.specs.declared.evidence.Why.{Why}
use Rattle.rb_agree.specs.declared.rules.Rule.TheVariants.{Roots, Parts, Blocks, Values, Fields, Tests, Splits, Flattening, Holding}
use Rattle.rb_agree.proofs.Ruling.{inhabited, type-in, type-none, type-one}
use Rattle.rb_agree.proofs.rules.type_fault.Goals as goal

pub returns-in-Roots : goal.returns-in-Roots
returns-in-Roots c = type-none c.args.ruled.now.program.now c.args.ruled.now.layouts.now c.args.ruled.now.ty c.args.ruled.now.layout.now c.args.ruled.now.rule Roots c.in-Roots.is refl

pub returns-in-Parts : goal.returns-in-Parts
returns-in-Parts c = type-none c.args.ruled.now.program.now c.args.ruled.now.layouts.now c.args.ruled.now.ty c.args.ruled.now.layout.now c.args.ruled.now.rule Parts c.in-Parts.is refl

pub returns-in-Blocks : goal.returns-in-Blocks
returns-in-Blocks c = type-none c.args.ruled.now.program.now c.args.ruled.now.layouts.now c.args.ruled.now.ty c.args.ruled.now.layout.now c.args.ruled.now.rule Blocks c.in-Blocks.is refl

pub returns-in-Fields : goal.returns-in-Fields
returns-in-Fields c = type-none c.args.ruled.now.program.now c.args.ruled.now.layouts.now c.args.ruled.now.ty c.args.ruled.now.layout.now c.args.ruled.now.rule Fields c.in-Fields.is refl

pub returns-in-Tests : goal.returns-in-Tests
returns-in-Tests c = type-none c.args.ruled.now.program.now c.args.ruled.now.layouts.now c.args.ruled.now.ty c.args.ruled.now.layout.now c.args.ruled.now.rule Tests c.in-Tests.is refl

pub returns-in-Values : goal.returns-in-Values
returns-in-Values c =
    type-one c.args.ruled.now.program.now c.args.ruled.now.layouts.now c.args.ruled.now.ty c.args.ruled.now.layout.now c.args.ruled.now.rule Values (S.Complete c.args.ruled.now.ty c.args.ruled.now.layout.now) c.in-Values.is refl refl c.complete_fault.result
    (subst (λ (ts : List DataDecl). IfOk c.complete_fault.result (λ (x : Option Why). MatchOption x (IsComplete ts c.args.ruled.now.ty c.args.ruled.now.layout.now) (FailsComplete ts c.args.ruled.now.ty c.args.ruled.now.layout.now)))
    c.as_slice.ensures c.complete_fault.ensures)

pub returns-in-Splits : goal.returns-in-Splits
returns-in-Splits c =
    type-one c.args.ruled.now.program.now c.args.ruled.now.layouts.now c.args.ruled.now.ty c.args.ruled.now.layout.now c.args.ruled.now.rule Splits (S.Splits c.args.ruled.now.ty c.args.ruled.now.layout.now) c.in-Splits.is refl refl c.splits_fault.result c.splits_fault.ensures

pub returns-in-Flattening : goal.returns-in-Flattening
returns-in-Flattening c =
    type-one c.args.ruled.now.program.now c.args.ruled.now.layouts.now c.args.ruled.now.ty c.args.ruled.now.layout.now c.args.ruled.now.rule Flattening (S.Flattening c.args.ruled.now.ty) c.in-Flattening.is refl refl c.flat_cycle.result c.flat_cycle.ensures

pub returns-in-Holding : goal.returns-in-Holding
returns-in-Holding c =
    type-one c.args.ruled.now.program.now c.args.ruled.now.layouts.now c.args.ruled.now.ty c.args.ruled.now.layout.now c.args.ruled.now.rule Holding (S.Holding c.args.ruled.now.ty) c.in-Holding.is refl refl c.hold_cycle.result c.hold_cycle.ensures

pub complete_fault-requires-clause-inhabited : goal.complete_fault-requires-clause-inhabited
complete_fault-requires-clause-inhabited c = inhabited c.args.ruled.now.program.now c.as_slice.result.now c.as_slice.ensures c.requires.ruled.known.typed

pub complete_fault-requires-clause-ty : goal.complete_fault-requires-clause-ty
complete_fault-requires-clause-ty c =
    type-in c.args.ruled.now.program.now c.args.ruled.now.layouts.now c.args.ruled.now.related.now c.as_slice.result.now c.args.ruled.now.ty c.args.ruled.now.layout.now c.as_slice.ensures c.requires.ruled.known c.requires.ruled.layout
