use Rattle.std.proofs.lemmas.Result.{IfOk-weaker}
use Rattle.rb_match.specs.inner.Trees.{TakesShared, TakesTree}
use Rattle.rb_match.proofs.choosing.emit_tree.Goals as goal

pub returns-clause-takes : goal.returns-clause-takes
returns-clause-takes c =
    let old = c.args.body.now in
    let new = c.emit_shared.new.body in
    IfOk-weaker c.emit_shared.result (λ holes. TakesShared c.args.agreed.now c.args.ty c.args.words.now c.args.pats.now c.in_ok-graph.graph old new holes) (λ holes. TakesTree c.args.agreed.now c.args.ty c.args.words.now c.args.pats.now c.args.tree.now old new holes)
    (λ holes takes. takes c.args.tree.now c.in_ok-graph.ensures.unfolds c.in_ok-graph.ensures.lower) c.emit_shared.ensures.takes

pub returns-clause-holes : goal.returns-clause-holes
returns-clause-holes c = c.emit_shared.ensures.holes

pub returns-clause-ways : goal.returns-clause-ways
returns-clause-ways c = c.emit_shared.ensures.ways

pub returns-clause-grows : goal.returns-clause-grows
returns-clause-grows c = c.emit_shared.ensures.grows
