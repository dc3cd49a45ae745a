use Rattle.std.proofs.Common.{Bool, ℕ, List, Option, IfOk, refl, sym, subst}
use Rattle.std.specs.Prelude.{MatchOption}
use Rattle.rb_core.specs.declared.types.DataDecl.{DataDecl}
use Rattle.rb_layout.specs.A2.{FailsRoot, HasRoot}
use Rattle.rb_layout.specs.A5.{FailsApart, IsApart}
use Rattle.rb_layout.specs.A6.{FailsHeld, HoldsOnce}
use Rattle.rb_layout.specs.Items.{Item}
use Rattle.rb_layout.specs.A7.{FailsTests, MeetsAll}
use Rattle.rb_layout.specs.Spots as S
use Rattle.rb_layout.specs.declared.evidence.Why.{Why}
use Rattle.rb_agree.specs.declared.rules.Rule.TheVariants.{Roots, Blocks, Values, Fields, Tests, Splits, Flattening, Holding}
use Rattle.rb_agree.specs.inner.Rules.{RuleIsReady}
use Rattle.rb_agree.specs.Pointing.{AreMarks}
use Rattle.rb_agree.specs.Written.{shown_items}
use Rattle.rb_agree.specs.declared.rules.Rule.{Rule}
use Rattle.std.proofs.lemmas.Option.{slice_get_within}
use Rattle.rb_agree.proofs.Ruling.{inhabited, leaf-at, leaf-none, leaf-one, leaf-parts, type-in}
use Rattle.rb_agree.proofs.rules.leaf_fault.Goals as goal

pub returns-in-Roots : goal.returns-in-Roots
returns-in-Roots c =
    leaf-one c.args.ruled.now.program.now c.args.ruled.now.layouts.now c.args.ruled.now.ty c.args.ruled.now.layout.now c.args.n c.args.leaf.now c.args.ruled.now.rule Roots (S.Root c.args.ruled.now.ty c.args.n c.args.ruled.now.layout.now c.args.leaf.now) c.in-Roots.is refl refl
    c.root_fault.result
    (subst (λ (ws : List ℕ). IfOk c.root_fault.result (λ (x : Option Why). MatchOption x (HasRoot ws c.args.leaf.now) (FailsRoot ws c.args.leaf.now))) c.as_slice.ensures c.root_fault.ensures)

pub returns-in-Parts : goal.returns-in-Parts
returns-in-Parts c =
    leaf-parts c.args.ruled.now.program.now c.args.ruled.now.layouts.now c.args.ruled.now.ty c.args.ruled.now.layout.now c.args.n c.args.leaf.now c.args.ruled.now.rule (shown_items c.args.items.now) c.in-Parts.is c.requires.items
    c.items_fault.result c.items_fault.ensures

pub returns-in-Blocks : goal.returns-in-Blocks
returns-in-Blocks c =
    leaf-at c.args.ruled.now.program.now c.args.ruled.now.layouts.now c.args.ruled.now.ty c.args.ruled.now.layout.now c.args.n c.args.leaf.now c.args.ruled.now.rule Blocks (S.Blocks c.args.ruled.now.ty c.args.n c.args.leaf.now) c.in-Blocks.is refl refl
    c.blocks_fault.result c.blocks_fault.ensures

pub returns-in-Values : goal.returns-in-Values
returns-in-Values c =
    leaf-one c.args.ruled.now.program.now c.args.ruled.now.layouts.now c.args.ruled.now.ty c.args.ruled.now.layout.now c.args.n c.args.leaf.now c.args.ruled.now.rule Values (S.Apart c.args.ruled.now.ty c.args.n c.args.ruled.now.layout.now c.args.leaf.now) c.in-Values.is refl refl
    c.apart_fault.result
    (subst (λ (ts : List DataDecl). IfOk c.apart_fault.result (λ (x : Option Why). MatchOption x (IsApart ts c.args.ruled.now.ty c.args.ruled.now.layout.now c.args.n c.args.leaf.now) (FailsApart ts c.args.ruled.now.ty c.args.ruled.now.layout.now c.args.n c.args.leaf.now)))
    c.as_slice-in-Values.ensures c.apart_fault.ensures)

pub returns-in-Fields : goal.returns-in-Fields
returns-in-Fields c =
    leaf-one c.args.ruled.now.program.now c.args.ruled.now.layouts.now c.args.ruled.now.ty c.args.ruled.now.layout.now c.args.n c.args.leaf.now c.args.ruled.now.rule Fields (S.Held c.args.ruled.now.ty c.args.n c.args.leaf.now) c.in-Fields.is refl refl
    c.held_fault.result (subst (λ (xs : List Item). IfOk c.held_fault.result (λ (x : Option Why). MatchOption x (HoldsOnce c.args.ruled.now.program.now c.args.leaf.now xs) (FailsHeld c.args.ruled.now.program.now c.args.leaf.now xs)))
    c.requires.items c.held_fault.ensures)

pub returns-in-Tests : goal.returns-in-Tests
returns-in-Tests c =
    leaf-one c.args.ruled.now.program.now c.args.ruled.now.layouts.now c.args.ruled.now.ty c.args.ruled.now.layout.now c.args.n c.args.leaf.now c.args.ruled.now.rule Tests (S.Tests c.args.ruled.now.ty c.args.n c.args.ruled.now.layout.now c.args.leaf.now) c.in-Tests.is refl refl
    c.tests_fault.result
    (subst (λ (ts : List DataDecl). IfOk c.tests_fault.result (λ (x : Option Why). MatchOption x (MeetsAll ts c.args.ruled.now.layouts.now c.args.ruled.now.layout.now.tree c.args.n c.args.leaf.now) (FailsTests ts c.args.ruled.now.layouts.now c.args.ruled.now.layout.now.tree c.args.n c.args.leaf.now)))
    c.as_slice-in-Tests.ensures c.tests_fault.ensures)

pub returns-in-Splits : goal.returns-in-Splits
returns-in-Splits c =
    leaf-none c.args.ruled.now.program.now c.args.ruled.now.layouts.now c.args.ruled.now.ty c.args.ruled.now.layout.now c.args.n c.args.leaf.now c.args.ruled.now.rule Splits c.in-Splits.is refl

pub returns-in-Flattening : goal.returns-in-Flattening
returns-in-Flattening c =
    leaf-at c.args.ruled.now.program.now c.args.ruled.now.layouts.now c.args.ruled.now.ty c.args.ruled.now.layout.now c.args.n c.args.leaf.now c.args.ruled.now.rule Flattening (S.NoPointer c.args.ruled.now.ty c.args.n c.args.leaf.now) c.in-Flattening.is refl refl
    c.pointer_fault.result c.pointer_fault.ensures

pub returns-in-Holding : goal.returns-in-Holding
returns-in-Holding c =
    leaf-none c.args.ruled.now.program.now c.args.ruled.now.layouts.now c.args.ruled.now.ty c.args.ruled.now.layout.now c.args.n c.args.leaf.now c.args.ruled.now.rule Holding c.in-Holding.is refl

pub apart_fault-requires-clause-inhabited : goal.apart_fault-requires-clause-inhabited
apart_fault-requires-clause-inhabited c = inhabited c.args.ruled.now.program.now c.as_slice-in-Values.result.now c.as_slice-in-Values.ensures c.requires.ruled.known.typed

pub apart_fault-requires-clause-ty : goal.apart_fault-requires-clause-ty
apart_fault-requires-clause-ty c =
    type-in c.args.ruled.now.program.now c.args.ruled.now.layouts.now c.args.ruled.now.related.now c.as_slice-in-Values.result.now c.args.ruled.now.ty c.args.ruled.now.layout.now c.as_slice-in-Values.ensures c.requires.ruled.known c.requires.ruled.layout

pub apart_fault-requires-clause-leaf : goal.apart_fault-requires-clause-leaf
apart_fault-requires-clause-leaf c = slice_get_within c.args.ruled.now.layout.now.leaves c.args.n c.args.leaf.now c.requires.leaf

pub tests_fault-requires : goal.tests_fault-requires
tests_fault-requires c =
    subst (λ (r : Rule). RuleIsReady c.args.ruled.now.layouts.now r) c.in-Tests.is c.requires.ready c.args.ruled.now.ty c.args.ruled.now.layout.now c.args.n c.args.leaf.now c.requires.ruled.layout c.requires.leaf

pub pointer_fault-requires : goal.pointer_fault-requires
pointer_fault-requires c = subst (λ (ms : List Bool). AreMarks c.args.ruled.now.layouts.now ms) (sym c.as_slice-in-Flattening.ensures) c.requires.ruled.known.marks
