-- Parts that are numbered inside larger ones, and what a call that numbers one answers. Numbering replaces the names
-- in a part of a file by numbers, as the tables `t` say; it gives the numbered part or the first fault of a name. A
-- binder is what binds a variable; it has a number in its function.
use Rattle.std.specs.Prelude.{◌≡◌, ℕ, Ok, Err}
use Rattle.rb_core.specs.declared.expression.Expr.{Expr}
use Rattle.rb_core.specs.declared.expression.Clause.{Clause}
use Rattle.rb_core.specs.declared.layout_decl.Arm.{Arm}
use Rattle.rb_core.specs.declared.layout_decl.LayTree.{LayTree}
use Rattle.rb_syntax.specs.declared.tree.ExprTree.TheFolds.{fold-ClauseTree}
use Rattle.rb_syntax.specs.declared.tree.ClauseTree.{ClauseTree}
use Rattle.rb_syntax.specs.declared.tree.SplitTree.TheFolds.{fold-ArmTree}
use Rattle.rb_syntax.specs.declared.tree.ArmTree.{ArmTree}
use Rattle.rb_names.specs.declared.tables.Tables.{Tables}
use Rattle.rb_names.specs.declared.fault.NameFault.TheVariants.{Memory}
use Rattle.rb_names.specs.Numbering.{Resolved, Numbered, Numbering, expr_step, clause_step, split_step, arm_step}

-- a call's answer and the next binder's number are what numbering gives, or the answer is the fault that it gives;
-- want of memory says nothing of it
abbrev pub AnswersFrom : {A : Type 0} → Resolved A → ℕ → Resolved (Numbered A) → Type 0
AnswersFrom (Ok a) next gives = gives ≡ Ok (record { what = a; next = next })
AnswersFrom (Err Memory) next gives = Unit {0}
AnswersFrom (Err fault) next gives = gives ≡ Err fault

-- how a clause of a `match` is numbered, its pattern and then its body
abbrev pub numbered_clause : Tables → ClauseTree → Numbering Clause
numbered_clause t = fold-ClauseTree (Numbering Expr) (Numbering Clause) (expr_step t) (clause_step t)

-- an arm of a split in a layout, with the provenances in the tree below it numbered
abbrev pub numbered_arm : Tables → ArmTree → Resolved Arm
numbered_arm t = fold-ArmTree (Resolved LayTree) (Resolved Arm) (split_step t) arm_step
