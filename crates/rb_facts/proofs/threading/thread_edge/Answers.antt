use Rattle.std.proofs.Common.{refl, sym, subst}
use Rattle.rb_facts.specs.Knowing.{AreKnown}
use Rattle.rb_facts.specs.Threading.{LeadsOn}
use Rattle.rb_facts.proofs.threading.thread_edge.Goals as goal

pub returns : goal.returns
returns c =
    let same = rw c.as_slice.ensures at c.in_ok-facts.ensures in
    record {
      pc = refl;
      arm = refl;
      known = λ at of all. c.carried_facts-known.ensures at of (c.in_ok-leaf.ensures.known at of (subst (λ k. AreKnown at k) (sym same) all));
      leads = subst (λ k. LeadsOn c.args.agreed.now c.args.ty c.args.pats.now c.args.nodes.now k c.args.edge.now.hole.leaf c.in_ok-leaf.leaf) same c.in_ok-leaf.ensures.leads;
    }
