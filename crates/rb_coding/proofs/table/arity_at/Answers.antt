use Rattle.std.proofs.Common.{arith}
use Rattle.rb_coding.proofs.TableLemmas.{no_arity}
use Rattle.rb_coding.proofs.table.arity_at.Goals as goal

pub returns-else-node-len : goal.returns-else-node-len
returns-else-node-len c = no_arity c.args.nodes.now c.args.node (omega (arith, c.len.ensures, c.if-node-len.false))
