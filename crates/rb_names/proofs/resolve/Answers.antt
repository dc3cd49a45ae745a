use Rattle.std.proofs.Common.{◌≡◌, List, Ok}
use Rattle.rb_core.specs.declared.program.Program.{Program}
use Rattle.rb_syntax.specs.declared.tree.FileTree.{FileTree}
use Rattle.rb_syntax.specs.declared.tree.ItemTree.{ItemTree}
use Rattle.rb_names.specs.declared.tables.Tables.{Tables}
use Rattle.rb_names.specs.Answers.{AnswersNumbering}
use Rattle.rb_names.specs.Definitions.{defined_twice, tables_of}
use Rattle.rb_names.specs.Numbering.{Resolved, and_then}
use Rattle.rb_names.specs.Programs.{no_twice, program_by_tables, program_of}
use Rattle.rb_names.proofs.AnswerLemmas.{Answers-fails}
use Rattle.rb_names.proofs.PartLemmas.{tables-found, tables-fail}
use Rattle.rb_names.proofs.WellProgram.{answer-well}
use Rattle.rb_names.proofs.resolve.Goals as goal

pub returns-in_err-tables-clause-answers : goal.returns-in_err-tables-clause-answers
returns-in_err-tables-clause-answers c =
    Answers-fails _ _ _ _ c.from_residual.ensures.1 (rw c.as_slice-items.ensures at c.in_err-tables.ensures)
    (tables-fail (defined_twice c.args.tree.now.items) (tables_of c.args.tree.now.items) _)

answered : (tree : FileTree) (r : Resolved Program) (found : Tables) (seen : List ItemTree) → seen ≡ tree.items
    → and_then (no_twice (defined_twice seen)) (λ done. Ok (tables_of seen)) ≡ Ok found → AnswersNumbering r (program_by_tables found seen) → AnswersNumbering r (program_of tree)
answered tree r found seen same h g =
    tables-found r (defined_twice tree.items) (tables_of tree.items) found (λ t. program_by_tables t tree.items) (rw same at h) (rw same at g)

pub returns-clause-answers : goal.returns-clause-answers
returns-clause-answers c =
    answered c.args.tree.now c.number_file.result c.in_ok-tables.tables c.as_slice-items.result.now c.as_slice-items.ensures c.in_ok-tables.ensures c.number_file.ensures

pub returns-clause-well : goal.returns-clause-well
returns-clause-well c =
    answer-well c.number_file.result c.args.tree.now
    (answered c.args.tree.now c.number_file.result c.in_ok-tables.tables c.as_slice-items.result.now c.as_slice-items.ensures c.in_ok-tables.ensures c.number_file.ensures)
