-- One node behind another: the edges that stand, and what runs do.
use Rattle.std.proofs.Common.{◌≡◌, ℕ, zero, suc, ◌+◌, ◌<◌, ◌≤◌, ◌⊎◌, inl, inr, List, [], ◌∷◌, ◌++◌, length, Option, Some, None, refl, sym, subst, ap, ◌∙◌, arith, length-append}
use Rattle.std.specs.Prelude.{slice_get}
use Rattle.std.proofs.lemmas.Option.{same_Some, slice_get_within}
use Rattle.rb_core.specs.declared.types.Ty.{Ty}
use Rattle.rb_core.specs.declared.types.Ty.TheVariants.{Int, Named}
use Rattle.rb_core.specs.declared.pattern.Pat.{Pat}
use Rattle.rb_decide.specs.declared.decision_graph.GraphArm.{GraphArm}
use Rattle.rb_decide.specs.declared.decision_graph.GraphNode.{GraphNode}
use Rattle.rb_decide.specs.declared.decision_graph.GraphNode.TheVariants.{Test, Clause}
use Rattle.rb_target.specs.declared.instr.Instr.TheVariants.{Jump}
use Rattle.rb_target.specs.declared.body.Hole.{Hole}
use Rattle.rb_target.specs.Growth.{Grows}
use Rattle.rb_target.specs.Meaning.{taken}
use Rattle.rb_target.specs.Sheet.{Sheet, with_more, IsHole, IsHoleIn}
use Rattle.rb_target.specs.Targets.{Finishes, IsHoleAmong, without_targets_in, target_in}
use Rattle.rb_target.proofs.Finishing.{agrees-sub}
use Rattle.rb_target.proofs.Growing.{Grows-trans, Grows-append, Keeps-refl, get-seam}
use Rattle.rb_target.proofs.Shapes.{jump_shape}
use Rattle.rb_layout.specs.declared.agreed.LaidOut.{LaidOut}
use Rattle.rb_rel.proofs.Lists.{got, get-append-at}
use Rattle.rb_fragment.specs.declared.reads.Read.{Read}
use Rattle.rb_fragment.specs.Arms.{AreHoles, AreOfOneWay, ArePatchable, HasHole, with_targets}
use Rattle.rb_fragment.specs.Plan.{Plan, Rep}
use Rattle.rb_fragment.proofs.Adding.{push_adds}
use Rattle.rb_fragment.proofs.Patching.{at_closed, closed_hole, closed_length, hole_within, retarget_none}
use Rattle.rb_facts.specs.declared.knowledge.Known.{Known}
use Rattle.rb_facts.specs.declared.knowledge.Edge.{Edge}
use Rattle.rb_facts.specs.declared.knowledge.Spot.{Spot}
use Rattle.rb_facts.specs.declared.place.Place.{Place}
use Rattle.rb_match.specs.declared.asking.Whole.{Whole}
use Rattle.rb_facts.specs.Knowing.{IsEdge, IsCommonKnowledge}
use Rattle.rb_facts.specs.Places.{FindsPlace, IsLookedAt}
use Rattle.rb_facts.specs.Edges.{holes_of, AreOpen, StandOpen}
use Rattle.rb_match.specs.inner.Asking.{AskedAt, AskedThere, AsksLeaf, AsksNumber, edge_at}
use Rattle.rb_match.specs.inner.Flowing.{landing_of, others_of, Flows, JobStands, StepsNode, RootStands, IsFineJob, IsClauseHole, AreClauseHoles, TakesGraph}
use Rattle.rb_facts.specs.Ways.{job_of}
use Rattle.rb_match.proofs.Edges.{edge_append, edge_open, other_from, holes_from, patchable_from}
use Rattle.rb_match.proofs.Landing.{landing_hole, landing_target, land_flows}
use Rattle.rb_facts.proofs.Passing.{begins_on, ends_on}
use Rattle.rb_facts.specs.Threading.{LeadsOn, Threads}
use Rattle.rb_match.specs.inner.Opening.{Asks, AsksOnward, AsksPart, IsOnward}
use Rattle.rb_match.proofs.Testing.{test_flows, test_job, root_flows}
use Rattle.rb_facts.proofs.Threads.{leads_refl, thread_append, thread_refl}
use Rattle.rb_match.proofs.Threaded.{thread_flows}
use Rattle.rb_facts.proofs.SavedParts.{spots-more}

-- from reads of the part to reads of the whole value
pub asks_of : (agreed : LaidOut) (graph : Whole) (words : List Read) (spots : List Spot) (known : List Known) (position : List ℕ) (arms : List GraphArm) (other : Option ℕ) (old new : Sheet) (edges : List Edge) (place : Place)
    → FindsPlace agreed graph.ty words spots known position place → IsLookedAt agreed.covered.program.types graph.ty graph.pats.now position place.ty
    → AsksPart agreed graph place.ty spots place.reads known position arms other old new edges → Asks agreed graph words spots known position arms other old new edges
asks_of agreed graph words spots known position arms other old new edges place finds looked asks = λ plan n of are fit count.
    let p = finds plan of count are.count in
    let a = asks plan n of are (p.fit old.slots fit are.below) p.count in
    record {
      at = place.ty;
      looked = subst (λ (g : Rattle.rb_core.specs.declared.program.Program.Program). IsLookedAt g.types graph.ty graph.pats.now position place.ty) (sym of.program) looked;
      adds = a.adds;
      leaves = λ final callee next law fin s w v part clean ws node long good meant rep all is takes.
          let m = p.means clean v ws s w.memory good meant rep all in
          let same : m.part ≡ part = same_Some m.part part (sym m.is_part ∙ is) in
          a.leaves final callee next law fin s w v part clean m.words node long good m.are_meant (subst (λ u. Rep plan w.memory clean place.ty u m.words) same m.represents) all is takes;
    }

-- what leads to a node leads on from there
pub asked_on : (agreed : LaidOut) (graph : Whole) (plan : Plan) (ty : Ty) (n : ℕ) (spots : List Spot) (reads : List Read) (known : List Known) (position : List ℕ) (arms : List GraphArm) (other : Option ℕ) (old new : Sheet) (edges : List Edge)
    → AskedAt plan ty n spots reads known position arms other old new edges → AskedThere (IsOnward agreed graph) plan ty n spots reads known position arms other old new edges
asked_on agreed graph plan ty n spots reads known position arms other old new edges a = record {
  adds = a.adds;
  leaves = λ final callee next law fin s w v part clean ws node long good meant rep all is takes.
      let r = a.leaves final callee next law fin s w v part clean ws node long good meant rep all is takes in
      record {
        edge = r.edge;
        is_edge = r.is_edge;
        target = r.target;
        is_target = r.is_target;
        slots = r.slots;
        world = r.world;
        runs = r.runs;
        keeps = r.keeps;
        later = r.later;
        known = r.known;
        is_node = (
          [],
          s,
          λ i x e. absurd (let z = e in cc),
          (subst (λ k. LeadsOn agreed graph.ty graph.pats.now graph.nodes.now [] node k) (sym r.is_node) (leads_refl agreed graph.ty graph.pats.now graph.nodes.now [] node), λ none. r.is_node),
        );
      };
}

-- tests of an integer and of a leaf alone
pub number_part : (agreed : LaidOut) (graph : Whole) (bits : ℕ) (spots : List Spot) (reads : List Read) (known : List Known) (position : List ℕ) (arms : List GraphArm) (other : Option ℕ) (old new : Sheet) (edges : List Edge)
    → AsksNumber reads known arms other old new edges → AsksPart agreed graph (Int bits) spots reads known position arms other old new edges
number_part agreed graph bits spots reads known position arms other old new edges asks = λ plan n of are fit count.
    asked_on agreed graph plan (Int bits) n spots reads known position arms other old new edges (asks plan n bits position spots are.low are.below fit)

pub leaf_part : (agreed : LaidOut) (graph : Whole) (t : ℕ) (spots : List Spot) (reads : List Read) (known : List Known) (position : List ℕ) (arms : List GraphArm) (other : Option ℕ) (old new : Sheet) (edges : List Edge)
    → AsksLeaf agreed t reads known position arms other old new edges → AsksPart agreed graph (Named t) spots reads known position arms other old new edges
leaf_part agreed graph t spots reads known position arms other old new edges asks = λ plan n of are fit count.
    asked_on agreed graph plan (Named t) n spots reads known position arms other old new edges (asks plan n spots of are fit count)

-- where no hole is, code that is closed stays
has_in : (pc : ℕ) (hs : List Hole) → HasHole pc hs → (h : Hole) × IsHoleAmong h hs × (pc ≡ h.pc)
has_in pc [] h = absurd h
has_in pc (x ∷ hs) (inl e) = (x, (0, refl), e)
has_in pc (x ∷ hs) (inr h) = let r = has_in pc hs h in (r.0, (suc r.1.0, r.1.1), r.2)

pub closed_grows : (first b : Sheet) (hs : List Hole) (ts : List ℕ) → Grows first.code b.code → ((h : Hole) → IsHoleAmong h hs → length first.code ≤ h.pc) → Grows first.code (with_targets b hs ts).code
closed_grows first b hs ts g low = record {
  longer = (let n = closed_length b hs ts in omega (arith, n, g.longer));
  same = λ pc lt. at_closed b hs ts pc ∙ retarget_none pc hs ts _ (λ h. let r = has_in pc hs h in let l = low r.0 r.1 in omega (arith, l, r.2, lt)) ∙ g.same pc lt;
}

module _ (agreed : LaidOut) (graph : Whole) (words : List Read) (spots : List Spot) (position : List ℕ) (arms : List GraphArm) (other : Option ℕ) (n : ℕ) (old : Sheet) (edges : List Edge) where
  abbrev ty : Ty
  ty = graph.ty

  abbrev pats : List Pat
  pats = graph.pats.now

  abbrev nodes : List GraphNode
  nodes = graph.nodes.now

  abbrev node : GraphNode
  node = Test position arms other

  -- a node that stays: nothing is done
  pub stays_node : (node : GraphNode) → StepsNode agreed ty words pats spots nodes node n old edges old edges
  stays_node node = record { stands = λ first st. st; flows = λ plan base root first fine at st f. f }

  module _ (known : List Known) (common : IsCommonKnowledge edges n (Some known)) (new : Sheet) (asked onward : List Edge) where
    abbrev b : Sheet
    b = with_targets old (landing_of n edges) (length old.code ∷ [])

    abbrev rest : List Edge
    rest = others_of n edges

    module _ (asks : Asks agreed graph words spots known position arms other b new asked) (asked_stand : StandOpen b new asked) (threads : Threads agreed ty pats nodes asked onward) (grows : Grows b.code new.code) where
      stand : StandOpen b new onward
      stand = threads.stand b new asked_stand

      module _ (first : Sheet) (st : JobStands first old edges) where
        from_low : Grows first.code b.code
        from_low = closed_grows first old (landing_of n edges) (length old.code ∷ []) st.grows (λ h i. (landing_hole old edges n (length first.code) st.stand.are_open h i).0)

        before : AreOpen (length first.code) b.code rest
        before e i =
            let o = other_from n edges e i in
            let s = st.stand.are_open e o.0 in
            (s.0, closed_hole old (landing_of n edges) (length old.code ∷ []) e.hole s.1)

        below : (e : Edge) → IsEdge e rest → e.hole.pc < length b.code
        below e i = hole_within b.code e.hole (before e i).1

        keeps_hole : (e : Edge) → IsEdge e rest → IsHole new.code e.hole
        keeps_hole e i = subst (λ o. IsHoleIn o e.hole.arm) (sym (grows.same e.hole.pc (below e i))) (before e i).1

        all_stand : JobStands first new (rest ++ onward)
        all_stand = record {
          grows = Grows-trans _ _ _ from_low grows;
          stand = record {
            are_open = λ e i. elim (edge_append rest onward e i) [
              | inl j ↦ ((before e j).0, keeps_hole e j)
              | inr j ↦ (let s = stand.are_open e j in (omega (arith, s.0, from_low.longer), s.1))
            ];
            one = λ e f i j p s. both e f (edge_append rest onward e i) (edge_append rest onward f j) p s;
          };
        }
          where
            both : (e f : Edge) → IsEdge e rest ⊎ IsEdge e onward → IsEdge f rest ⊎ IsEdge f onward → e.hole.pc ≡ f.hole.pc → e.hole.arm ≡ f.hole.arm → e.hole.leaf ≡ f.hole.leaf
            both e f (inl i) (inl j) p s = st.stand.one e f (other_from n edges e i).0 (other_from n edges f j).0 p s
            both e f (inl i) (inr j) p s = absurd (let a = below e i in let c = stand.are_open f j in omega (arith, a, c.0, p))
            both e f (inr i) (inl j) p s = absurd (let a = below f j in let c = stand.are_open e i in omega (arith, a, c.0, p))
            both e f (inr i) (inr j) p s = stand.one e f i j p s

      steps_node : StepsNode agreed ty words pats spots nodes node n old edges new (rest ++ onward)
      steps_node = record {
        stands = λ first st. all_stand first st;
        flows = λ plan base root first fine at st f.
            let job = job_of plan base spots ty words pats nodes root first in
            let h = land_flows job old edges n known f st common in
            let low = fine.spots.low in
            let more = h.adds.more in
            let f1 = test_flows agreed graph plan base spots words root first b new rest asked known n position arms other fine.of fine.lower (fine.fit base (omega arith)) at h (before first st) (asks plan base fine.of (spots-more plan base first.slots b.slots spots more fine.spots) (fine.fit b.slots (omega (arith, low, more))) fine.count) asked_stand in
            thread_flows agreed ty pats nodes plan base spots words root first new (rest ++ asked) (rest ++ onward) fine.of fine.lower (thread_append agreed ty pats nodes rest rest asked onward (thread_refl agreed ty pats nodes rest) threads.threaded) f1;
      }

-- a node that tests
pub steps_onward : (agreed : LaidOut) (graph : Whole) (words : List Read) (spots : List Spot) (position : List ℕ) (arms : List GraphArm) (other : Option ℕ) (n : ℕ) (old : Sheet) (edges : List Edge) (known : List Known) (new : Sheet) (onward : List Edge)
    → IsCommonKnowledge edges n (Some known) → AsksOnward agreed graph words spots known position arms other (with_targets old (landing_of n edges) (length old.code ∷ [])) new onward
    → StepsNode agreed graph.ty words graph.pats.now spots graph.nodes.now (Test position arms other) n old edges new (others_of n edges ++ onward)
steps_onward agreed graph words spots position arms other n old edges known new onward common a =
    steps_node agreed graph words spots position arms other n old edges known common new a.asked onward a.asks a.stand a.threads a.grows

-- the root
begins_test : (agreed : LaidOut) (graph : Whole) (words : List Read) (spots : List Spot) (root : ℕ) (position : List ℕ) (arms : List GraphArm) (other : Option ℕ) (old new : Sheet) (edges onward : List Edge)
    → slice_get graph.nodes.now root ≡ Some (Test position arms other) → Asks agreed graph words spots [] position arms other old new edges → StandOpen old new edges → Threads agreed graph.ty graph.pats.now graph.nodes.now edges onward → Grows old.code new.code
    → RootStands agreed graph.ty words graph.pats.now spots graph.nodes.now root old new onward
begins_test agreed graph words spots root position arms other old new edges onward at asks stand threads grows = record {
  stands = record { grows = grows; stand = threads.stand old new stand };
  flows = λ plan base fine.
      let job = test_job graph plan base spots words root old in
      let low = fine.spots.low in
      let f = test_flows agreed graph plan base spots words root old old new [] edges [] root position arms other fine.of fine.lower (fine.fit base (omega arith)) at (root_flows job) (λ e i. absurd (let z = i.1 in cc)) (asks plan base fine.of fine.spots (fine.fit old.slots low) fine.count) stand in
      thread_flows agreed graph.ty graph.pats.now graph.nodes.now plan base spots words root old new edges onward fine.of fine.lower threads.threaded f;
}

pub begins_onward : (agreed : LaidOut) (graph : Whole) (words : List Read) (spots : List Spot) (root : ℕ) (position : List ℕ) (arms : List GraphArm) (other : Option ℕ) (old new : Sheet) (onward : List Edge)
    → slice_get graph.nodes.now root ≡ Some (Test position arms other) → AsksOnward agreed graph words spots [] position arms other old new onward → RootStands agreed graph.ty words graph.pats.now spots graph.nodes.now root old new onward
begins_onward agreed graph words spots root position arms other old new onward at a = begins_test agreed graph words spots root position arms other old new a.asked onward at a.asks a.stand a.threads a.grows

pub begins_jump : (agreed : LaidOut) (ty : Ty) (words : List Read) (pats : List Pat) (spots : List Spot) (nodes : List GraphNode) (root : ℕ) (old : Sheet) → RootStands agreed ty words pats spots nodes root old (with_more old (Jump (length old.code + 1))) (edge_at (length old.code) None root [] ∷ [])
begins_jump agreed ty words pats spots nodes root old =
    let pc = length old.code in
    let code = old.code ++ Jump (pc + 1) ∷ [] in
    let here = edge_at pc None root [] in
    let len : length code ≡ pc + 1 = length-append old.code (Jump (pc + 1) ∷ []) in
    record {
      stands = record {
        grows = Grows-append old.code (Jump (pc + 1) ∷ []);
        stand = record {
          are_open = λ e i. subst (λ (x : Edge). (pc ≤ x.hole.pc) × IsHole code x.hole) (single here e i) (omega arith, subst (λ o. IsHoleIn o None) (sym (get-seam old.code (Jump (pc + 1)) [])) tt);
          one = λ e f i j p s. sym (ap (λ (x : Edge). x.hole.leaf) (single here e i)) ∙ ap (λ (x : Edge). x.hole.leaf) (single here f j);
        };
      };
      flows = λ plan base fine. record {
        adds = push_adds plan old (Jump (pc + 1)) (record { bounded = tt; slots_fit = tt; targets = (omega arith, omega arith); calls = tt });
        arrives = λ final callee next law fin s w clean v long given.
            let a = fin pc (omega arith) (omega (arith, len)) in
            let j = jump_shape (slice_get final pc) (pc + 1) (a.shapes ∙ ap without_targets_in (get-seam old.code (Jump (pc + 1)) [])) in
            record {
              edge = here;
              is_edge = (0, refl);
              target = j.0;
              is_target = ap (λ o. target_in o None) j.1;
              slots = s;
              world = taken w;
              runs = law.step pc (Jump j.0) s w j.1;
              keeps = Keeps-refl base s;
              path = [];
              later = record { memory = refl; left = refl; switches = omega arith };
              known = λ i x e. absurd (let z = e in cc);
              on = begins_on (job_of plan base spots ty words pats nodes root old) v;
            };
      };
    }
  where
    single : (x e : Edge) → IsEdge e (x ∷ []) → x ≡ e
    single x e (zero, at) = same_Some x e at
    single x e (suc k, at) = absurd cc

-- clauses
module _ (nodes : List GraphNode) (count : ℕ) (edges : List Edge) (holes : List Hole) (are : AreClauseHoles nodes count edges holes) where
  edge_at_hole : (h : Hole) → IsHoleAmong h holes → (e : Edge) × IsEdge e edges × IsClauseHole nodes count e.hole h
  edge_at_hole h (k, at) =
      let lt = slice_get_within holes k h at in
      let e = got edges k (omega (arith, lt, are.long)) in
      (e.0, (k, e.1), are.each k e.0 h e.1 at)

  hole_at_edge : (e : Edge) → IsEdge e edges → (h : Hole) × IsHoleAmong h holes × IsClauseHole nodes count e.hole h
  hole_at_edge e (k, at) =
      let lt = slice_get_within edges k e at in
      let h = got holes k (omega (arith, lt, are.long)) in
      (h.0, (k, h.1), are.each k e h.0 at h.1)

  pub graph_holes : (first new : Sheet) → JobStands first new edges → AreHoles (length first.code) count new.code holes
  graph_holes first new st = holes_from (length first.code) count new.code holes (λ h i.
      let r = edge_at_hole h i in
      let s = st.stand.are_open r.0 r.1 in
      (omega (arith, s.0, r.2.pc), r.2.few, subst (λ a. IsHoleIn (slice_get new.code h.pc) a) (sym r.2.arm) (subst (λ q. IsHoleIn (slice_get new.code q) r.0.hole.arm) (sym r.2.pc) s.1)))

  pub graph_ways : (first new : Sheet) → JobStands first new edges → AreOfOneWay holes
  graph_ways first new st = λ h k i j p s.
      let a = edge_at_hole h i in
      let c = edge_at_hole k j in
      let same = st.stand.one a.0 c.0 a.1 c.1 (sym a.2.pc ∙ p ∙ c.2.pc) (sym a.2.arm ∙ s ∙ c.2.arm) in
      let is = same_Some (Clause h.leaf) (Clause k.leaf) (sym a.2.node ∙ ap (slice_get nodes) same ∙ c.2.node) in cc

  pub graph_takes : (agreed : LaidOut) (ty : Ty) (words : List Read) (pats : List Pat) (spots : List Spot) (root : ℕ) (first new : Sheet)
      → ((plan : Plan) (base : ℕ) → let job = job_of plan base spots ty words pats nodes root first in IsFineJob agreed job → Flows job new edges) → TakesGraph agreed ty words pats spots nodes root first new holes
  graph_takes agreed ty words pats spots root first new flows = λ plan base fine.
      let job = job_of plan base spots ty words pats nodes root first in
      let f = flows plan base fine in
      record {
        adds = f.adds;
        leaves = λ final callee next law fin s w clean v long g.
            let fin1 : Finishes final new.code (holes_of edges) (length first.code) (length new.code) = λ q l h. agrees-sub final new.code new.code (holes_of edges) holes q refl
            (λ arm o. let r = edge_at_hole o.0 o.1 in edge_open edges q arm r.0 r.1 (sym r.2.pc ∙ o.2) (sym r.2.arm ∙ o.3)) (fin q l h) in
            let a = f.arrives final callee next law fin1 s w clean v long g in
            let h = hole_at_edge a.edge a.is_edge in
            let e = ends_on job fine.lower v a.edge.hole.leaf h.0.leaf g.clause a.path h.2.node a.on g.takes in
            record {
              path = a.path;
              is_way = e.1;
              looked = a.on.looked;
              leaves = record {
                hole = h.0;
                is_hole = h.1;
                is_way = e.0;
                target = a.target;
                is_target = ap (λ q. target_in (slice_get final q) h.0.arm) h.2.pc ∙ ap (λ m. target_in (slice_get final a.edge.hole.pc) m) h.2.arm ∙ a.is_target;
                slots = a.slots;
                world = a.world;
                runs = a.runs;
                keeps = a.keeps;
                later = a.later;
                exit = tt;
              };
            };
      }

-- one more clause's hole
pub clause_push : (nodes : List GraphNode) (count : ℕ) (edges : List Edge) (holes : List Hole) (i : ℕ) (e0 : Edge) (h0 : Hole) → slice_get edges i ≡ Some e0 → length holes ≡ i → IsClauseHole nodes count e0.hole h0
    → ((k : ℕ) (e : Edge) (h : Hole) → slice_get edges k ≡ Some e → slice_get holes k ≡ Some h → IsClauseHole nodes count e.hole h)
    → (k : ℕ) (e : Edge) (h : Hole) → slice_get edges k ≡ Some e → slice_get (holes ++ h0 ∷ []) k ≡ Some h → IsClauseHole nodes count e.hole h
clause_push nodes count edges holes i e0 h0 at len one all k e h a b = elim (get-append-at holes (h0 ∷ []) k h b) [
  | inl c ↦ all k e h a c
  | inr c ↦ last c
]
  where
    last : (j : ℕ) × (slice_get (h0 ∷ []) j ≡ Some h) × (k ≡ length holes + j) → IsClauseHole nodes count e.hole h
    last (zero, c, is) =
        let same : k ≡ i = omega (arith, is, len) in
        let e1 : e0 ≡ e = same_Some e0 e (sym at ∙ ap (slice_get edges) (sym same) ∙ a) in
        subst (λ (x : Hole). IsClauseHole nodes count e.hole x) (same_Some h0 h c) (subst (λ (x : Edge). IsClauseHole nodes count x.hole h0) e1 one)
    last (suc j, c, is) = absurd cc

pub land_patchable : (b : Sheet) (edges : List Edge) (n : ℕ) → AreOpen 0 b.code edges → ArePatchable b.code (landing_of n edges) (length b.code ∷ [])
land_patchable b edges n st = patchable_from b.code (landing_of n edges) (length b.code ∷ []) (λ h i.
    let x = landing_hole b edges n 0 st h i in
    let t = landing_target b edges n 0 st h i in (x.1, t.0, t.1))
