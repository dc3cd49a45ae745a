use Rattle.std.proofs.Common.{◌∷◌, [], ◌++◌, List, map, refl, ap, ◌∙◌, subst}
use Rattle.rb_syntax.specs.declared.tree.ConTree.{ConTree}
use Rattle.rb_names.specs.declared.tables.Defining.{Defining}
use Rattle.rb_names.specs.Definitions.{OfType, constructor_definition, constructors_from}
use Rattle.rb_names.specs.inner.Defining.{AreAdded, IsAgain}
use Rattle.rb_names.proofs.DefiningLemmas.{type-added}
use Rattle.rb_names.proofs.TablesLemmas.{type-rest, added-both, handed, later-again}
use Rattle.rb_names.proofs.AnswerLemmas.{err-kept}
use Rattle.rb_names.proofs.tables.define_type.Goals as goal

pub returns-clause-tables : goal.returns-clause-tables
returns-clause-tables c =
    type-rest c.args.known.now.tables c.define_constructors.new.known.tables c.args.tree.now c.in_ok-ty.ty (handed _ _ _ refl c.in_ok-ty.ensures ∙ c.len.ensures)
    (c.in_ok-define_constructors.ensures.types ∙ c.in_ok-define.ensures.table)
    (c.in_ok-define_constructors.ensures.constructors ∙ ap (λ cs. c.args.known.now.tables.constructors ++ constructors_from c.in_ok-ty.ty 0 cs) c.as_slice.ensures)
    c.in_ok-define_constructors.ensures.functions

pub returns-clause-added : goal.returns-clause-added
returns-clause-added c before a =
    let typed : Defining = record {
      tables = record { types = c.define.new.table; constructors = c.args.known.now.tables.constructors; functions = c.args.known.now.tables.functions };
      laid = c.args.known.now.laid;
    } in
    added-both before (record { kind = OfType; name = c.args.tree.now.name } ∷ []) (map constructor_definition c.args.tree.now.cons) typed c.define_constructors.new.known
    (type-added before c.args.known.now a c.args.tree.now.name c.in_ok-ty.ty c.define.new.table c.in_ok-define.ensures.table c.in_ok-define.ensures.new)
    (λ all k. subst (λ (cs : List ConTree). AreAdded all (map constructor_definition cs) c.define_constructors.new.known) c.as_slice.ensures (c.in_ok-define_constructors.ensures.added all k))

pub returns-in_err-define_constructors-clause-again : goal.returns-in_err-define_constructors-clause-again
returns-in_err-define_constructors-clause-again c =
    err-kept _ _ _ c.from_residual-in_err-define_constructors.ensures.1 (λ before a.
    let typed : Defining = record {
      tables = record { types = c.define.new.table; constructors = c.args.known.now.tables.constructors; functions = c.args.known.now.tables.functions };
      laid = c.args.known.now.laid;
    } in
    let added = type-added before c.args.known.now a c.args.tree.now.name c.in_ok-ty.ty c.define.new.table c.in_ok-define.ensures.table c.in_ok-define.ensures.new in
    later-again before (record { kind = OfType; name = c.args.tree.now.name } ∷ []) (map constructor_definition c.args.tree.now.cons) typed c.in_err-define_constructors.field-0.0 added
    (subst (λ (cs : List ConTree). IsAgain added.all (map constructor_definition cs) c.in_err-define_constructors.field-0.0) c.as_slice.ensures
    (c.in_err-define_constructors.ensures.again added.all added.are_known)))
