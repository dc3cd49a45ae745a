use Rattle.std.proofs.Common.{◌+◌, ◌*◌}
use Rattle.rb_read.proofs.expression.+expressions.Given as goal

abbrev pub decreases-read_expression : goal.decreases-read_expression
decreases-read_expression l = 7 * l.levels

abbrev pub decreases-read_boxed : goal.decreases-read_boxed
decreases-read_boxed l = 7 * l.levels + 1

abbrev pub decreases-read_boxed_before : goal.decreases-read_boxed_before
decreases-read_boxed_before l = 7 * l.levels + 2

abbrev pub decreases-read_some_expressions-read_some_closed : goal.decreases-read_some_expressions-read_some_closed
decreases-read_some_expressions-read_some_closed l = 7 * l.levels + 1

abbrev pub decreases-read_clause : goal.decreases-read_clause
decreases-read_clause l = 7 * l.levels + 1

abbrev pub decreases-read_some_expressions : goal.decreases-read_some_expressions
decreases-read_some_expressions l = 7 * l.levels + 2

abbrev pub decreases-read_fields : goal.decreases-read_fields
decreases-read_fields l = 7 * l.levels + 3

abbrev pub decreases-read_arguments : goal.decreases-read_arguments
decreases-read_arguments l = 7 * l.levels + 3

abbrev pub decreases-read_clauses-read_some_closed : goal.decreases-read_clauses-read_some_closed
decreases-read_clauses-read_some_closed l = 7 * l.levels + 2

abbrev pub decreases-read_operation : goal.decreases-read_operation
decreases-read_operation l = 7 * l.levels + 3

abbrev pub decreases-read_conversion : goal.decreases-read_conversion
decreases-read_conversion l = 7 * l.levels + 3

abbrev pub decreases-read_bound_and_body : goal.decreases-read_bound_and_body
decreases-read_bound_and_body l = 7 * l.levels + 2

abbrev pub decreases-read_binding : goal.decreases-read_binding
decreases-read_binding l = 7 * l.levels + 3

abbrev pub decreases-read_clauses : goal.decreases-read_clauses
decreases-read_clauses l = 7 * l.levels + 3

abbrev pub decreases-read_call : goal.decreases-read_call
decreases-read_call l = 7 * l.levels + 4

abbrev pub decreases-read_called : goal.decreases-read_called
decreases-read_called l = 7 * l.levels + 5

abbrev pub decreases-read_built : goal.decreases-read_built
decreases-read_built l = 7 * l.levels + 4

abbrev pub decreases-read_matching : goal.decreases-read_matching
decreases-read_matching l = 7 * l.levels + 4

abbrev pub decreases-read_form : goal.decreases-read_form
decreases-read_form l = 7 * l.levels + 5

abbrev pub decreases-read_expression_node : goal.decreases-read_expression_node
decreases-read_expression_node l = 7 * l.levels + 6
