use Rattle.std.proofs.Common.{◌≡◌, length, ℕ, Some}
use Rattle.std.specs.Prelude.{slice_get}
use Rattle.rb_target.specs.declared.body.Hole.{Hole}
use Rattle.rb_facts.specs.declared.knowledge.Edge.{Edge}
use Rattle.rb_match.specs.inner.Flowing.{IsClauseHole}
use Rattle.rb_match.proofs.engine.clause_holes.Given as goal

abbrev pub invariant-loop-edge : goal.invariant-loop-edge
invariant-loop-edge l = record {
  long : length l.holes ≡ l.edge-index;
  each : (k : ℕ) (e : Edge) (h : Hole) → slice_get l.edges k ≡ Some e → slice_get l.holes k ≡ Some h → IsClauseHole l.nodes l.count e.hole h;
}
