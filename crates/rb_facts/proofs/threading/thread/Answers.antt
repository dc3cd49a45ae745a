use Rattle.std.proofs.lemmas.Result.{IfOk-weaker}
use Rattle.rb_facts.specs.Threading.{AreThreaded, Threads}
use Rattle.rb_facts.proofs.Threads.{threads_open, threads_same}
use Rattle.rb_facts.proofs.threading.thread.Goals as goal

pub returns-then-ascend : goal.returns-then-ascend
returns-then-ascend c =
    let edges = c.args.edges in
    IfOk-weaker c.thread_each.result (λ more. AreThreaded c.args.agreed.now c.args.ty c.args.pats.now c.args.nodes.now edges more) (λ more. Threads c.args.agreed.now c.args.ty c.args.pats.now c.args.nodes.now edges more)
    (λ more threaded. threads_open c.args.agreed.now c.args.ty c.args.pats.now c.args.nodes.now edges more threaded (rw c.as_slice.ensures at (c.ascend.ensures c.if-ascend.true))) (rw c.as_slice-then-ascend.ensures at c.thread_each.ensures)

pub returns : goal.returns
returns c = threads_same c.args.agreed.now c.args.ty c.args.pats.now c.args.nodes.now c.args.edges
