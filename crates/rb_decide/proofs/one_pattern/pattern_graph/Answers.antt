use Rattle.std.proofs.Common.{[], ◌∷◌, ◌++◌, ap, ◌∙◌}
use Rattle.std.specs.Prelude.{slice_get}
use Rattle.rb_core.specs.declared.pattern.Pat.{Wild}
use Rattle.rb_decide.specs.declared.decision_graph.GraphNode.TheVariants.{Clause}
use Rattle.rb_decide.specs.Decisions.{TakesChosen, TestsOnce, TestsHeads}
use Rattle.rb_decide.specs.Graphs.{node_trees}
use Rattle.rb_decide.specs.Trees.{match_tree}
use Rattle.rb_decide.proofs.Chaining.{root-tree, of-root}
use Rattle.rb_decide.proofs.Chains.{pattern-exhaustive}
use Rattle.rb_decide.proofs.Positions.{match-once, match-heads}
use Rattle.rb_decide.proofs.Taking.{match-takes}
use Rattle.rb_decide.proofs.one_pattern.pattern_graph.Goals as goal

pub returns-clause-unfolds : goal.returns-clause-unfolds
returns-clause-unfolds c =
    root-tree c.args.types.now c.args.ty c.args.pat.now _ c.add_pattern.new.nodes c.in_ok-root.root
    (c.in_ok-push-2.ensures.ok ∙ ap (λ l. l ++ Clause 0 ∷ []) (c.in_ok-push.ensures.ok ∙ ap (λ l. l ++ Clause 1 ∷ []) c.new-nodes.ensures)) c.in_ok-root.ensures

pub returns-clause-takes : goal.returns-clause-takes
returns-clause-takes c =
    let pats = c.args.pat.now ∷ Wild 0 ∷ [] in
    of-root (TakesChosen c.args.types.now c.args.ty pats) (slice_get (node_trees c.add_pattern.new.nodes) c.in_ok-root.root) (match_tree c.args.types.now c.args.ty pats)
    (root-tree c.args.types.now c.args.ty c.args.pat.now _ c.add_pattern.new.nodes c.in_ok-root.root
    (c.in_ok-push-2.ensures.ok ∙ ap (λ l. l ++ Clause 0 ∷ []) (c.in_ok-push.ensures.ok ∙ ap (λ l. l ++ Clause 1 ∷ []) c.new-nodes.ensures)) c.in_ok-root.ensures)
    (match-takes c.args.types.now c.args.ty pats (pattern-exhaustive c.args.types.now c.args.ty c.args.pat.now))

pub returns-clause-once : goal.returns-clause-once
returns-clause-once c =
    let pats = c.args.pat.now ∷ Wild 0 ∷ [] in
    of-root TestsOnce (slice_get (node_trees c.add_pattern.new.nodes) c.in_ok-root.root) (match_tree c.args.types.now c.args.ty pats)
    (root-tree c.args.types.now c.args.ty c.args.pat.now _ c.add_pattern.new.nodes c.in_ok-root.root
    (c.in_ok-push-2.ensures.ok ∙ ap (λ l. l ++ Clause 0 ∷ []) (c.in_ok-push.ensures.ok ∙ ap (λ l. l ++ Clause 1 ∷ []) c.new-nodes.ensures)) c.in_ok-root.ensures)
    (match-once c.args.types.now c.args.ty pats)

pub returns-clause-heads : goal.returns-clause-heads
returns-clause-heads c =
    let pats = c.args.pat.now ∷ Wild 0 ∷ [] in
    of-root (TestsHeads pats) (slice_get (node_trees c.add_pattern.new.nodes) c.in_ok-root.root) (match_tree c.args.types.now c.args.ty pats)
    (root-tree c.args.types.now c.args.ty c.args.pat.now _ c.add_pattern.new.nodes c.in_ok-root.root
    (c.in_ok-push-2.ensures.ok ∙ ap (λ l. l ++ Clause 0 ∷ []) (c.in_ok-push.ensures.ok ∙ ap (λ l. l ++ Clause 1 ∷ []) c.new-nodes.ensures)) c.in_ok-root.ensures)
    (match-heads c.args.types.now c.args.ty pats)
