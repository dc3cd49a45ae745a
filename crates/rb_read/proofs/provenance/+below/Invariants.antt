use Rattle.std.proofs.Common.{◌+◌, ◌*◌}
use Rattle.rb_read.proofs.provenance.+below.Given as goal

abbrev pub decreases-read_below : goal.decreases-read_below
decreases-read_below l = 5 * l.levels

abbrev pub decreases-read_below_node : goal.decreases-read_below_node
decreases-read_below_node l = 5 * l.levels + 4

abbrev pub decreases-read_constructed : goal.decreases-read_constructed
decreases-read_constructed l = 5 * l.levels + 3

abbrev pub decreases-read_parts : goal.decreases-read_parts
decreases-read_parts l = 5 * l.levels + 2

abbrev pub decreases-read_parts-read_in_parens : goal.decreases-read_parts-read_in_parens
decreases-read_parts-read_in_parens l = 5 * l.levels + 1
