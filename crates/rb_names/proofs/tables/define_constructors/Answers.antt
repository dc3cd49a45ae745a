use Rattle.std.proofs.Common.{List, refl, map, subst}
use Rattle.std.proofs.lemmas.List.{drop_all}
use Rattle.rb_syntax.specs.declared.tree.ConTree.{ConTree}
use Rattle.rb_names.specs.Definitions.{constructor_definition}
use Rattle.rb_names.proofs.AnswerLemmas.{err-kept}
use Rattle.rb_names.proofs.TablesLemmas.{constructors-next, Passed, constructor-passed, constructor-again, passed-all, handed}
use Rattle.rb_names.proofs.tables.define_constructors.Goals as goal

pub loop-i-preserved : goal.loop-i-preserved
loop-i-preserved c = record {
  constructors = constructors-next c.args.cons.now c.loop-i.i c.index-cons-i.result c.loop-i-test.true c.index-cons-i.is _ c.define.new.table _ c.args.ty c.in_ok-number.number
      (handed _ _ _ refl c.in_ok-number.ensures) c.in_ok-define.ensures.table c.loop-i.invariant.constructors;
  types = c.loop-i.invariant.types;
  functions = c.loop-i.invariant.functions;
  added = λ before a. constructor-passed c.args.cons.now c.loop-i.i c.index-cons-i.result c.loop-i-test.true c.index-cons-i.is before _ c.loop-i.known _ c.define.new.table
      c.in_ok-define.ensures.table c.in_ok-define.ensures.new (c.loop-i.invariant.added before a);
}

pub returns-in_err-define-clause-again : goal.returns-in_err-define-clause-again
returns-in_err-define-clause-again c =
    err-kept _ _ _ c.from_residual-in_err-define.ensures.1 (λ before a.
    constructor-again c.args.cons.now c.loop-i.i c.index-cons-i.result c.loop-i-test.true c.index-cons-i.is before _ c.loop-i.known c.in_err-define.field-0.0
    c.in_err-define.ensures.again (c.loop-i.invariant.added before a))

pub returns-clause-added : goal.returns-clause-added
returns-clause-added c before a =
    passed-all before (map constructor_definition c.args.cons.now) c.loop-i.known
    (subst (λ (cs : List ConTree). Passed before (map constructor_definition c.args.cons.now) (map constructor_definition cs) c.loop-i.known)
    (drop_all c.loop-i.i c.args.cons.now c.loop-i-test.false) (c.loop-i.invariant.added before a))
