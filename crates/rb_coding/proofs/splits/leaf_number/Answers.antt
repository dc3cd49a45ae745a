use Rattle.std.proofs.Common.{None, sym, ap, ◌∙◌}
use Rattle.std.specs.Option.{option_copied}
use Rattle.rb_coding.specs.Arms.{under_number}
use Rattle.rb_coding.proofs.SplitLemmas.{leaf_only, turn, turned, turned_to, fewer}
use Rattle.rb_coding.proofs.splits.leaf_number.Goals as goal

pub returns-in-Leaf : goal.returns-in-Leaf
returns-in-Leaf g c = λ leaf h. leaf_only c.args.words.now (g.M.ByteMemory.memory c.args.memory.now) _ _ leaf c.in-Leaf.is (c.loop-tree.invariant leaf h)

pub read_loc-requires-clause-reads : goal.read_loc-requires-clause-reads
read_loc-requires-clause-reads g c =
    let h = c.requires.leads in
    let t = turn c.args.words.now (g.M.ByteMemory.memory c.args.memory.now) _ c.in-Split.loc _ c.in-Split.other h.0 c.in-Split.is (c.loop-tree.invariant h.0 h.1) in
    (t.n, t.reads)

pub loop-tree-smaller : goal.loop-tree-smaller
loop-tree-smaller g c =
    let under = ap option_copied (sym c.in-Some.is) ∙ c.under.ensures ∙ ap (λ arms. under_number arms c.in-Split.other c.read_loc.result) c.as_slice.ensures in
    fewer c.loop-tree.tree.now c.in-Split.loc c.in-Split.arms c.in-Split.other c.read_loc.result c.in-Some.next.now c.in-Split.is under

pub unreachable-requires : goal.unreachable-requires
unreachable-requires g c =
    let h = c.requires.leads in
    let under = ap option_copied (sym c.in-None.is) ∙ c.under.ensures ∙ ap (λ arms. under_number arms c.in-Split.other c.read_loc.result) c.as_slice.ensures in
    let t = turned c.args.words.now (g.M.ByteMemory.memory c.args.memory.now) c.loop-tree.tree.now c.in-Split.loc c.in-Split.arms c.in-Split.other h.0 c.in-Split.is (c.loop-tree.invariant h.0 h.1) c.read_loc.result None c.read_loc.ensures under in
    let e = t.1 in cc

pub loop-tree-preserved : goal.loop-tree-preserved
loop-tree-preserved g c = λ leaf h.
    (let under = ap option_copied (sym c.in-Some.is) ∙ c.under.ensures ∙ ap (λ arms. under_number arms c.in-Split.other c.read_loc.result) c.as_slice.ensures in
    turned_to c.args.words.now (g.M.ByteMemory.memory c.args.memory.now) c.loop-tree.tree.now c.in-Split.loc c.in-Split.arms c.in-Split.other leaf c.in-Split.is (c.loop-tree.invariant leaf h) c.read_loc.result c.in-Some.next.now c.read_loc.ensures under)
