use Rattle.std.proofs.Common.{[], refl}
use Rattle.rb_names.specs.Definitions.{defined_twice, type_names}
use Rattle.rb_names.proofs.AnswerLemmas.{err-kept}
use Rattle.rb_names.proofs.TablesLemmas.{tables-next, twice-next, twice-here}
use Rattle.rb_names.proofs.tables.define_items.Goals as goal

pub loop-item-init : goal.loop-item-init
loop-item-init c = record {
  tables = rw c.requires.nothing refl;
  twice = (
    [],
    record {
      types = λ q. rw c.requires.nothing refl;
      constructors = λ q. rw c.requires.nothing refl;
      functions = λ q. rw c.requires.nothing refl;
      laid = λ q. rw c.requires.nothing refl;
    },
    refl,
  );
}

pub loop-item-preserved : goal.loop-item-preserved
loop-item-preserved c =
    let before = c.loop-item.invariant.twice in
    let names = type_names c.args.items.now in
    record {
      tables = tables-next c.args.items.now c.loop-item.item-index c.item-item.result c.loop-item-test.true c.item-item.is c.loop-item.known.tables c.define_item.new.known.tables
          c.in_ok-define_item.ensures.tables c.loop-item.invariant.tables;
      twice = twice-next c.args.items.now c.loop-item.item-index c.item-item.result c.loop-item-test.true c.item-item.is names before.0 c.define_item.new.known _
          (c.in_ok-define_item.ensures.added names before.0 c.requires.names before.1) before.2;
    }

pub returns-in_err-define_item-clause-again : goal.returns-in_err-define_item-clause-again
returns-in_err-define_item-clause-again c =
    let before = c.loop-item.invariant.twice in
    let names = type_names c.args.items.now in
    err-kept _ _ _ c.from_residual.ensures.1
    (twice-here c.args.items.now c.loop-item.item-index c.item-item.result c.loop-item-test.true c.item-item.is names before.0 c.in_err-define_item.field-0.0 (defined_twice c.args.items.now)
    (c.in_err-define_item.ensures.again names before.0 c.requires.names before.1) before.2)
