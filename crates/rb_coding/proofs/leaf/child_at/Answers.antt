use Rattle.std.proofs.Common.{length, ap, arith}
use Rattle.rb_coding.proofs.TableLemmas.{no_subs}
use Rattle.rb_coding.proofs.leaf.child_at.Goals as goal

pub returns-then-node-len : goal.returns-then-node-len
returns-then-node-len c = λ lt. let e = ap length (no_subs c.args.nodes.now c.args.node (omega (arith, c.len.ensures, c.if-node-len.true))) in absurd (omega (arith, e, lt))
