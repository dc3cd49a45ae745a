use Rattle.std.proofs.Common.{[], ◌∷◌}
use Rattle.std.proofs.lemmas.Result.{IfOk-weaker}
use Rattle.rb_core.specs.declared.pattern.Pat.{Wild}
use Rattle.rb_decide.specs.Trees.{match_tree}
use Rattle.rb_match.specs.inner.Clauses.{TakesAlone}
use Rattle.rb_match.specs.inner.Trees.{TakesShared}
use Rattle.rb_match.proofs.clauses.emit_alone.Goals as goal

pub returns-clause-takes : goal.returns-clause-takes
returns-clause-takes c =
    let pair = c.args.pat.now ∷ Wild 0 ∷ [] in
    let old = c.args.body.now in
    let new = c.emit_shared.new.body in
    let unfolds = rw (c.as_slice-types.ensures, c.program.ensures.same, c.covered.ensures.same) at c.in_ok-graph.ensures.unfolds in
    IfOk-weaker c.emit_shared.result (λ holes. TakesShared c.args.agreed.now c.args.ty c.args.words.now pair c.in_ok-graph.graph old new holes) (λ holes. TakesAlone c.args.agreed.now c.args.ty c.args.words.now c.args.pat.now old new holes)
    (λ holes takes. takes (match_tree c.args.agreed.now.covered.program.types c.args.ty pair) unfolds c.in_ok-graph.ensures.lower) (rw (c.as_slice-pats.ensures, c.in_ok-pats.ensures) at c.emit_shared.ensures.takes)

pub returns-clause-holes : goal.returns-clause-holes
returns-clause-holes c = rw (c.as_slice-pats.ensures, c.in_ok-pats.ensures) at c.emit_shared.ensures.holes

pub returns-clause-ways : goal.returns-clause-ways
returns-clause-ways c = c.emit_shared.ensures.ways

pub returns-clause-grows : goal.returns-clause-grows
returns-clause-grows c = c.emit_shared.ensures.grows
