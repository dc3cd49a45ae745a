use Rattle.std.proofs.Common.{rules}
use Rattle.rb_read.specs.inner.Reading.{pattern, expression, clause_tree, begins_expression}
use Rattle.rb_read.proofs.ExpressionNode.{lower-node}
use Rattle.rb_read.proofs.Loops.{beyond-fails}
use Rattle.rb_read.proofs.expression.+expressions.Goals as goal

pub read_expression-returns-then-levels-eq0 : goal.read_expression-returns-then-levels-eq0
unfolding expression
read_expression-returns-then-levels-eq0 t c =
    rw (c.beyond.ensures, c.begins_expression.ensures, c.if-levels-eq0.true) (beyond-fails _ (λ t. begins_expression t) c.args.placed.now)

pub read_expression_node-returns-in-Lower : goal.read_expression_node-returns-in-Lower
read_expression_node-returns-in-Lower t c =
    rw (lower-node _ _ _ _ _ _ _ c.in-len1-up.len_at_least c.first-item.is c.in-Lower.is c.number_of-at.ensures) c.read_called.ensures

pub read_some_expressions-returns : goal.read_some_expressions-returns
read_some_expressions-returns t c = c.read_some_closed.ensures (λ ts. expression c.args.levels c.args.total ts) (λ ps r h. search rules)

pub read_clauses-returns : goal.read_clauses-returns
read_clauses-returns t c =
    c.read_some_closed.ensures
    (clause_tree (λ ts. pattern c.args.levels c.args.total ts) (λ ts. expression c.args.levels c.args.total ts) c.args.total 0)
    (λ ps r h. search rules)
