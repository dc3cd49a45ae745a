use Rattle.std.proofs.Common.{◌+◌, ◌*◌}
use Rattle.rb_read.proofs.pattern.+patterns.Given as goal

abbrev pub decreases-read_pattern : goal.decreases-read_pattern
decreases-read_pattern l = 5 * l.levels

abbrev pub decreases-read_pattern_node : goal.decreases-read_pattern_node
decreases-read_pattern_node l = 5 * l.levels + 4

abbrev pub decreases-read_constructed : goal.decreases-read_constructed
decreases-read_constructed l = 5 * l.levels + 3

abbrev pub decreases-read_subpatterns : goal.decreases-read_subpatterns
decreases-read_subpatterns l = 5 * l.levels + 2

abbrev pub decreases-read_subpatterns-read_in_parens : goal.decreases-read_subpatterns-read_in_parens
decreases-read_subpatterns-read_in_parens l = 5 * l.levels + 1
