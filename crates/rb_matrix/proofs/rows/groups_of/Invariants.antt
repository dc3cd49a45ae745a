use Rattle.rb_matrix.proofs.Grouping.{AreFirst}
use Rattle.rb_matrix.proofs.rows.groups_of.Given as goal

abbrev pub invariant-loop-number : goal.invariant-loop-number
invariant-loop-number l = AreFirst l.rows l.number l.groups
