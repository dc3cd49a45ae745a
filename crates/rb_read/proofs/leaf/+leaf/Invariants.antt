use Rattle.std.proofs.Common.{◌+◌, ◌*◌}
use Rattle.rb_read.proofs.leaf.+leaf.Given as goal

abbrev pub decreases-read_items : goal.decreases-read_items
decreases-read_items l = 9 * l.levels + 8

abbrev pub decreases-read_items-read_any_closed : goal.decreases-read_items-read_any_closed
decreases-read_items-read_any_closed l = 9 * l.levels + 7

abbrev pub decreases-read_item : goal.decreases-read_item
decreases-read_item l = 9 * l.levels + 6

abbrev pub decreases-read_word : goal.decreases-read_word
decreases-read_word l = 9 * l.levels + 5

abbrev pub decreases-read_parts : goal.decreases-read_parts
decreases-read_parts l = 9 * l.levels + 4

abbrev pub decreases-read_parts-read_any_closed : goal.decreases-read_parts-read_any_closed
decreases-read_parts-read_any_closed l = 9 * l.levels + 3

abbrev pub decreases-read_part : goal.decreases-read_part
decreases-read_part l = 9 * l.levels + 2

abbrev pub decreases-read_part_kind : goal.decreases-read_part_kind
decreases-read_part_kind l = 9 * l.levels + 1

abbrev pub decreases-read_pointed : goal.decreases-read_pointed
decreases-read_pointed l = 9 * l.levels
