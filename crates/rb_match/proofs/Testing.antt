-- A node's test behind the code that comes to it.
use Rattle.std.proofs.Common.{◌≡◌, ℕ, inl, inr, List, [], ◌∷◌, ◌++◌, length, Option, Some, refl, sym, subst, ◌∙◌, arith}
use Rattle.std.specs.Prelude.{slice_get}
use Rattle.rb_decide.specs.declared.decision_graph.GraphArm.{GraphArm}
use Rattle.rb_decide.specs.declared.decision_graph.GraphNode.TheVariants.{Test}
use Rattle.rb_decide.specs.Graphs.{LinksAreLower}
use Rattle.rb_bytes.specs.Memory.{Memory, IsGood}
use Rattle.rb_target.specs.declared.instr.Instr.{Instr}
use Rattle.rb_target.specs.Growth.{Grows, Keeps}
use Rattle.rb_target.specs.Sheet.{Sheet}
use Rattle.rb_target.specs.Targets.{Finishes}
use Rattle.rb_target.proofs.Finishing.{agrees-sub}
use Rattle.rb_target.proofs.Growing.{Keeps-refl, Keeps-trans}
use Rattle.rb_fragment.specs.declared.reads.Read.{Read}
use Rattle.rb_fragment.specs.Plan.{Plan, Rep}
use Rattle.rb_fragment.specs.WordReads.{AreMeant, AllFit}
use Rattle.rb_fragment.proofs.Adding.{Adds-refl, Adds-trans}
use Rattle.rb_fragment.proofs.Patching.{hole_within}
use Rattle.rb_fragment.proofs.Pieces.{later-refl, later-trans}
use Rattle.rb_fragment.proofs.ReadForms.{mean-kept}
use Rattle.rb_facts.specs.declared.knowledge.Known.{Known}
use Rattle.rb_facts.specs.declared.knowledge.Edge.{Edge}
use Rattle.rb_facts.specs.declared.knowledge.Spot.{Spot}
use Rattle.rb_match.specs.declared.asking.Whole.{Whole}
use Rattle.rb_layout.specs.declared.agreed.LaidOut.{LaidOut}
use Rattle.rb_fetch.specs.Finding.{IsPlanOf}
use Rattle.rb_facts.specs.Looks.{TypedPosition, choosing_look}
use Rattle.rb_facts.specs.Knowing.{AreKnown, view_of}
use Rattle.rb_facts.specs.Edges.{holes_of, AreOpen, StandOpen}
use Rattle.rb_match.specs.inner.Asking.{Asked}
use Rattle.rb_facts.specs.Ways.{Job, looks, job_of}
use Rattle.rb_match.specs.inner.Flowing.{Flows, FlowsHere}
use Rattle.rb_match.specs.inner.Opening.{IsOnward}
use Rattle.rb_match.proofs.Edges.{edge_append, edge_left, edge_right, open_edge, edge_open}
use Rattle.rb_facts.proofs.Passing.{tested, passes, begins_on, looks-snoc}

-- reads over kept slots mean what they meant
pub meant-kept : (n : ℕ) (s s' : List ℕ) (m : Memory) → Keeps n s s' → (rs : List Read) (ws : List ℕ) → AllFit n rs → AreMeant rs s m ws → AreMeant rs s' m ws
meant-kept n s s' m k [] [] fit h = tt
meant-kept n s s' m k [] (w ∷ ws) fit h = h
meant-kept n s s' m k (r ∷ rs) [] fit h = h
meant-kept n s s' m k (r ∷ rs) (w ∷ ws) fit h = (mean-kept n s s' m k r fit.0 ∙ h.0, meant-kept n s s' m k rs ws fit.1 h.1)

-- the job that a graph of tests gives
abbrev pub test_job : Whole → Plan → ℕ → List Spot → List Read → ℕ → Sheet → Job
test_job graph plan base spots words root first = job_of plan base spots graph.ty words graph.pats.now graph.nodes.now root first

module _ (agreed : LaidOut) (graph : Whole) (plan : Plan) (base : ℕ) (spots : List Spot) (words : List Read) (root : ℕ) (first : Sheet) (b new : Sheet) (rest edges : List Edge) (known : List Known) (n : ℕ) (position : List ℕ) (arms : List GraphArm) (other : Option ℕ)
    (of : IsPlanOf agreed plan) (lower : LinksAreLower graph.nodes.now) (fit : AllFit base words) (at : slice_get graph.nodes.now n ≡ Some (Test position arms other)) (here : FlowsHere (test_job graph plan base spots words root first) b rest known n)
    (before : AreOpen (length first.code) b.code rest) (asked : Asked (IsOnward agreed graph) plan graph.ty base words graph.pats.now spots known position arms other b new edges) (stand : StandOpen b new edges) where
  abbrev job : Job
  job = test_job graph plan base spots words root first

  abbrev lo : ℕ
  lo = length job.first.code

  abbrev all : List Edge
  all = rest ++ edges

  abbrev grows : Grows b.code new.code
  grows = asked.adds.grows

  first_part : (final : List Instr) → Finishes final new.code (holes_of all) lo (length new.code) → Finishes final b.code (holes_of rest) lo (length b.code)
  first_part final fin = λ q l h.
      agrees-sub final b.code new.code (holes_of rest) (holes_of all) q (grows.same q h)
      (λ arm o. let e = open_edge all q arm o in elim (edge_append rest edges e.0 e.1) [
        | inl i ↦ edge_open rest q arm e.0 i e.2 e.3
        | inr i ↦ (let s = stand.are_open e.0 i in absurd (omega (arith, s.0, e.2, h)))
      ]) (fin q l (omega (arith, h, grows.longer)))

  second_part : (final : List Instr) → Finishes final new.code (holes_of all) lo (length new.code) → Finishes final new.code (holes_of edges) (length b.code) (length new.code)
  second_part final fin = λ q l h.
      agrees-sub final new.code new.code (holes_of edges) (holes_of all) q refl
      (λ arm o. let e = open_edge all q arm o in elim (edge_append rest edges e.0 e.1) [
        | inl i ↦ (let s = before e.0 i in let lt = hole_within b.code e.0.hole s.1 in absurd (omega (arith, lt, e.2, l)))
        | inr i ↦ edge_open edges q arm e.0 i e.2 e.3
      ]) (fin q (let g = here.adds.grows.longer in omega (arith, l, g)) h)

  pub test_flows : Flows job new all
  test_flows = record {
    adds = Adds-trans job.plan job.first b new here.adds asked.adds;
    arrives = λ final callee next law fin s w clean v long given.
        let more = asked.adds.more in
        elim (here.arrives final callee next law (first_part final fin) s w clean v (omega (arith, long, more)) given) [
          | inl a ↦ record {
            edge = a.edge;
            is_edge = edge_left rest edges a.edge a.is_edge;
            target = a.target;
            is_target = a.is_target;
            slots = a.slots;
            world = a.world;
            runs = a.runs;
            keeps = a.keeps;
            path = a.path;
            later = a.later;
            known = a.known;
            on = a.on;
          }
          | inr l ↦
              let t = tested job lower n position arms other at v given.clause (l.on.same given.clause given.takes) in
              let mem = sym l.later.memory in
              let meant = meant-kept job.base s l.slots w.memory l.keeps job.words given.ws fit given.meant in
              let r = asked.leaves final callee next law (second_part final fin) l.slots l.world v t.part clean given.ws t.node (omega (arith, long, l.keeps.long)) (subst IsGood mem given.good)
              (subst (λ m. AreMeant job.words l.slots m given.ws) mem meant) (subst (λ m. Rep job.plan m clean job.ty v given.ws) mem given.represents) (subst (λ m. AreKnown (view_of job.plan clean v job.spots l.slots m) known) mem l.is_known) t.is_part t.is_node in
              let place : TypedPosition = record { path = position; ty = asked.at } in
              let p = passes job lower n position arms other at v given.clause l.path asked.at given.takes l.on asked.looked t in
              let sum = looks-snoc job.plan l.path place in
              let on = r.is_node.3.0 plan base spots words root first of lower clean v r.is_node.1 l.world.memory given.clause (l.path ++ place ∷ []) r.is_node.2 given.takes p in
              let costs = later-trans (looks job.plan l.path) (choosing_look job.plan.layouts asked.at) w l.world r.world l.later r.later in
              record {
                edge = r.edge;
                is_edge = edge_right rest edges r.edge r.is_edge;
                target = r.target;
                is_target = r.is_target;
                slots = r.slots;
                world = r.world;
                runs = l.runs ∙ r.runs;
                keeps = Keeps-trans job.base job.base s l.slots r.slots (omega arith) l.keeps r.keeps;
                path = on.0;
                later = record { memory = costs.memory; left = costs.left; switches = (let x = costs.switches in let y = on.1 in omega (arith, x, y, sum)) };
                known = subst (λ m. AreKnown (view_of job.plan clean v job.spots r.slots m) r.edge.known) l.later.memory r.known;
                on = on.2;
              }
        ];
  }

-- a root that tests: its code comes first
pub root_flows : (job : Job) → FlowsHere job job.first [] [] job.root
root_flows job = record {
  adds = Adds-refl job.plan job.first;
  arrives = λ final callee next law fin s w clean v long given. inr (record {
    slots = s;
    world = w;
    runs = refl;
    keeps = Keeps-refl job.base s;
    path = [];
    later = later-refl w;
    is_known = λ i x at. absurd cc;
    on = begins_on job v;
  });
}
