-- Edges that are led on: values that come to the edges of a test come to those that they become.
use Rattle.std.proofs.Common.{ℕ, zero, suc, List, [], ◌∷◌, length, refl, sym, subst, ap, ◌∙◌, arith}
use Rattle.std.specs.Prelude.{slice_get}
use Rattle.std.proofs.lemmas.Option.{same_Some}
use Rattle.rb_core.specs.declared.types.Ty.{Ty}
use Rattle.rb_core.specs.declared.pattern.Pat.{Pat}
use Rattle.rb_decide.specs.declared.decision_graph.GraphNode.{GraphNode}
use Rattle.rb_decide.specs.Graphs.{LinksAreLower}
use Rattle.rb_target.specs.Sheet.{Sheet}
use Rattle.rb_target.specs.Targets.{Finishes, target_in}
use Rattle.rb_target.proofs.Finishing.{agrees-sub}
use Rattle.rb_layout.specs.declared.agreed.LaidOut.{LaidOut}
use Rattle.rb_fetch.specs.Finding.{IsPlanOf}
use Rattle.rb_fragment.specs.declared.reads.Read.{Read}
use Rattle.rb_fragment.specs.Plan.{Plan}
use Rattle.rb_facts.specs.declared.knowledge.Edge.{Edge}
use Rattle.rb_facts.specs.declared.knowledge.Spot.{Spot}
use Rattle.rb_facts.specs.Knowing.{IsEdge, view_of}
use Rattle.rb_facts.specs.Edges.{holes_of}
use Rattle.rb_match.specs.inner.Flowing.{Flows}
use Rattle.rb_facts.specs.Ways.{job_of}
use Rattle.rb_facts.specs.Threading.{AreThreaded, IsThreaded}
use Rattle.rb_match.proofs.Edges.{edge_open, open_edge}
use Rattle.rb_facts.proofs.Threads.{was}

module _ (agreed : LaidOut) (ty : Ty) (pats : List Pat) (nodes : List GraphNode) where
  abbrev One : Edge → Edge → Type 0
  One = IsThreaded agreed ty pats nodes

  abbrev Are : List Edge → List Edge → Type 0
  Are = AreThreaded agreed ty pats nodes

  -- the edge that an edge becomes
  becomes : (es fs : List Edge) → Are es fs → (e : Edge) → IsEdge e es → (f : Edge) × IsEdge f fs × One e f
  becomes [] fs a e (k, at) = absurd cc
  becomes (x ∷ es) [] a e i = absurd a
  becomes (x ∷ es) (y ∷ fs) a e (zero, at) = (y, (0, refl), subst (λ z. One z y) (same_Some x e at) a.0)
  becomes (x ∷ es) (y ∷ fs) a e (suc k, at) = let r = becomes es fs a.1 e (k, at) in (r.0, (suc r.1.0, r.1.1), r.2)

  -- values that come to the edges come to those that they become
  pub thread_flows : (plan : Plan) (base : ℕ) (spots : List Spot) (words : List Read) (root : ℕ) (first new : Sheet) (es fs : List Edge)
      → let job = job_of plan base spots ty words pats nodes root first in
      IsPlanOf agreed plan → LinksAreLower nodes → Are es fs → Flows job new es → Flows job new fs
  thread_flows plan base spots words root first new es fs of lower a flows = record {
    adds = flows.adds;
    arrives = λ final callee next law fin s w clean v long given.
        let fin1 : Finishes final new.code (holes_of es) (length first.code) (length new.code) = λ q lo hi. agrees-sub final new.code new.code (holes_of es) (holes_of fs) q refl
        (λ arm o. let f = open_edge fs q arm o in let e = was agreed ty pats nodes es fs a f.0 f.1 in edge_open es q arm e.0 e.1 (sym e.2.pc ∙ f.2) (sym e.2.arm ∙ f.3)) (fin q lo hi) in
        let r = flows.arrives final callee next law fin1 s w clean v long given in
        let b = becomes es fs a r.edge r.is_edge in
        let l = b.2.leads plan base spots words root first of lower clean v r.slots w.memory given.clause r.path r.known given.takes r.on in
        record {
          edge = b.0;
          is_edge = b.1;
          target = r.target;
          is_target = ap (λ p. target_in (slice_get final p) b.0.hole.arm) b.2.pc ∙ ap (λ o. target_in (slice_get final r.edge.hole.pc) o) b.2.arm ∙ r.is_target;
          slots = r.slots;
          world = r.world;
          runs = r.runs;
          keeps = r.keeps;
          path = l.0;
          later = record { memory = r.later.memory; left = r.later.left; switches = (let x = r.later.switches in let y = l.1 in omega (arith, x, y)) };
          known = b.2.known (view_of plan clean v spots r.slots w.memory) of r.known;
          on = l.2;
        };
  }
