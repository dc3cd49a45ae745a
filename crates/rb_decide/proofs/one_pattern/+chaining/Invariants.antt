use Rattle.std.proofs.Common.{◌+◌, ◌*◌, ◌-◌}
use Rattle.rb_matrix.specs.Counts.{head_count, row_head_count}
use Rattle.rb_decide.proofs.Chaining.{AreFrom}
use Rattle.rb_decide.proofs.one_pattern.+chaining.Given as goal

abbrev pub decreases-add_pattern : goal.decreases-add_pattern
decreases-add_pattern l = 2 * head_count l.pat.now

abbrev pub decreases-add_fields : goal.decreases-add_fields
decreases-add_fields l = 2 * row_head_count l.subs.now + 1

abbrev pub invariant-add_fields-loop-i : goal.invariant-add_fields-loop-i
invariant-add_fields-loop-i l = AreFrom l.types l.position l.fields l.subs (l.count - l.i) l.initial.nodes l.under l.nodes l.first
