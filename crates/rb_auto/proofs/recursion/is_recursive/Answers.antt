use Rattle.std.proofs.Common.{sym}
use Rattle.rb_auto.specs.inner.Graphs.{state}
use Rattle.rb_auto.proofs.Searching.{no-row, search-init, found-branch, next-branch, no-cycle, not-within}
use Rattle.rb_auto.proofs.recursion.is_recursive.Goals as goal

pub returns-then-start-graph : goal.returns-then-start-graph
returns-then-start-graph c = no-row c.args.graph.now c.args.start c.if-start-graph.true

pub loop-i-init : goal.loop-i-init
loop-i-init c =
    search-init c.args.graph.now c.args.start c.in_ok-marks.marks (state c.add.new.marks c.add.new.found) c.in_ok-marks.ensures c.if-start-graph.false
    (cc (c.in_ok-add.ensures, c.new-found.ensures))

pub returns-in-None : goal.returns-in-None
returns-in-None c =
    no-cycle c.args.graph.now c.args.start (state c.loop-i.marks c.loop-i.found) c.loop-i.i c.loop-i.invariant (not-within c.loop-i.i _ (c.in-None.ensures.within.1))

pub returns-then-branch : goal.returns-then-branch
returns-then-branch c =
    found-branch c.args.graph.now c.args.start (state c.loop-i.marks c.loop-i.found) (state c.follow.new.marks c.follow.new.found) c.loop-i.i c.in-Some.last.now c.edges_of.result.now
    c.in_ok-follow.field-0 c.loop-i.invariant (sym c.in-Some.ensures.value) c.edges_of.ensures c.in_ok-follow.ensures.leads c.if-branch.true

pub loop-i-preserved : goal.loop-i-preserved
loop-i-preserved c =
    next-branch c.args.graph.now c.args.start (state c.loop-i.marks c.loop-i.found) (state c.follow.new.marks c.follow.new.found) c.loop-i.i c.in-Some.last.now c.edges_of.result.now
    c.in_ok-follow.field-0 c.loop-i.invariant (sym c.in-Some.ensures.value) c.edges_of.ensures c.in_ok-follow.ensures.leads c.if-branch.false
    c.in_ok-follow.ensures.added
