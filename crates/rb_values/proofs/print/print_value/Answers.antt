use Rattle.std.proofs.Common.{arith}
use Rattle.rb_values.proofs.PostLemmas.{some_node}
use Rattle.rb_values.proofs.print.print_value.Goals as goal

pub overflow_sub-len : goal.overflow_sub-len
overflow_sub-len c = let s = some_node c.value.inside.nodes _ c.value.invariant in omega (arith, s)

pub print_node-requires : goal.print_node-requires
print_node-requires c = let s = some_node c.value.inside.nodes _ c.value.invariant in omega (arith, s)
