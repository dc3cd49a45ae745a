use Rattle.std.proofs.Common.{◌+◌, ◌*◌}
use Rattle.rb_read.proofs.layout.+splits.Given as goal

abbrev pub decreases-read_tree_node : goal.decreases-read_tree_node
decreases-read_tree_node l = 7 * l.levels + 6

abbrev pub decreases-read_split : goal.decreases-read_split
decreases-read_split l = 7 * l.levels + 5

abbrev pub decreases-read_branches : goal.decreases-read_branches
decreases-read_branches l = 7 * l.levels + 4

abbrev pub decreases-read_arms : goal.decreases-read_arms
decreases-read_arms l = 7 * l.levels + 3

abbrev pub decreases-read_arms-read_each+arg3 : goal.decreases-read_arms-read_each+arg3
decreases-read_arms-read_each+arg3 l = 7 * l.levels + 2

abbrev pub decreases-read_arm : goal.decreases-read_arm
decreases-read_arm l = 7 * l.levels + 1

abbrev pub decreases-read_other_arm : goal.decreases-read_other_arm
decreases-read_other_arm l = 7 * l.levels + 2

abbrev pub decreases-read_else : goal.decreases-read_else
decreases-read_else l = 7 * l.levels + 1

abbrev pub decreases-read_layout_tree : goal.decreases-read_layout_tree
decreases-read_layout_tree l = 7 * l.levels
