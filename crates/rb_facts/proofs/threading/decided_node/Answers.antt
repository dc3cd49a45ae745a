use Rattle.rb_core.specs.declared.types.Ty.TheVariants.{Named}
use Rattle.rb_facts.proofs.Threads.{decides_option}
use Rattle.rb_facts.proofs.threading.decided_node.Goals as goal

pub returns-then-is_looked_at : goal.returns-then-is_looked_at
returns-then-is_looked_at c =
    let looked = rw (c.as_slice-types.ensures, c.program.ensures.same, c.covered.ensures.same) at (c.is_looked_at.ensures c.if-is_looked_at.true) in
    decides_option c.args.agreed.now c.args.ty (Named c.in_ok-con.con.ty) c.args.pats.now c.args.known.now c.args.position.now c.args.arms.now c.args.other c.link_of.result c.in_ok-sub.sub.now c.in_ok-con.con.con c.in_ok-sub.ensures c.in_ok-con.ensures looked c.link_of.ensures
