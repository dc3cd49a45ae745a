use Rattle.std.proofs.Common.{◌++◌, sym, ap, ◌∙◌, arith}
use Rattle.std.proofs.lemmas.Grind.{common_steps}
use Rattle.rb_decide.proofs.Moving.{front-past, front-split}
use Rattle.rb_decide.proofs.clause_matrix.columns_to_front.Goals as goal

pub returns-then-i-columns : goal.returns-then-i-columns
returns-then-i-columns c = c.in_ok-push_columns.ensures ∙ ap (λ l. l ++ c.args.columns.now) c.new-moved.ensures ∙ sym (front-past c.args.i c.args.columns.now c.if-i-columns.true)

pub returns : goal.returns
returns c = grind (arith, common_steps, front-split c.args.i c.args.columns.now c.index-columns-i.result c.if-i-columns.false c.index-columns-i.is, c.in_ok-push_columns-3.ensures, c.in_ok-push_columns-2.ensures, c.in_ok-push.ensures.ok, c.in_ok-copy.ensures, c.new-moved.ensures)
