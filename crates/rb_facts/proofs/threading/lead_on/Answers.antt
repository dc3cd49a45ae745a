use Rattle.std.proofs.Common.{ℕ, sym, subst}
use Rattle.rb_facts.specs.Threading.{LeadsOn}
use Rattle.rb_facts.proofs.Threads.{leads_less, leads_refl, leads_trans}
use Rattle.rb_facts.proofs.threading.lead_on.Goals.{then-not-is_marked, else-not-is_marked}
use Rattle.rb_facts.proofs.threading.lead_on.Goals as goal

pub loop-step-init : goal.loop-step-init
loop-step-init c =
    let same = leads_refl c.args.agreed.now c.args.ty c.args.pats.now c.args.nodes.now c.args.known.now c.args.node in
    record { here = same; end = same; known = λ at of all. all }

pub loop-step-preserved : goal.loop-step-preserved
loop-step-preserved c =
    let Leads : ℕ → Type 0 = LeadsOn c.args.agreed.now c.args.ty c.args.pats.now c.args.nodes.now c.args.known.now c.args.node in
    let inv = c.loop-step.invariant in
    let step = leads_less c.args.agreed.now c.args.ty c.args.pats.now c.args.nodes.now c.args.known.now c.loop-step.known c.loop-step.here c.in-Some.next inv.known (rw c.as_slice.ensures at c.in-Some.ensures) in
    let more = leads_trans c.args.agreed.now c.args.ty c.args.pats.now c.args.nodes.now c.args.known.now c.args.node c.loop-step.here c.in-Some.next inv.here step in
    record {
      here = more;
      end = elim c.if-not-is_marked.branch [
        | then-not-is_marked w ↦ subst Leads (sym w.end-is) more
        | else-not-is_marked w ↦ subst Leads (sym w.end-is) inv.end
      ];
      known = λ at of all. c.in_ok-pass_over.ensures at of (inv.known at of all);
    }
