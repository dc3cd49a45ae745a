-- From the code of a tree to the choice of a clause, within the bound.
use Rattle.std.proofs.Common.{◌≡◌, ℕ, ◌*◌, ◌<◌, ◌≤◌, Bool, true, false, List, [], ◌∷◌, map, length, Some, sym, subst, ap, ◌∙◌, arith}
use Rattle.std.specs.Prelude.{nat_lt, unwrap_or, if◌then◌else◌}
use Rattle.std.proofs.lemmas.Bool.Decides.{nat_tests}
use Rattle.std.proofs.lemmas.List.{length-map}
use Rattle.rb_core.specs.declared.types.Ty.{Ty}
use Rattle.rb_core.specs.declared.pattern.Pat.{Pat}
use Rattle.rb_core.specs.Matching.{IsExhaustive, chosen_clause}
use Rattle.rb_core.specs.TypedPrograms.{IsTyped}
use Rattle.rb_decide.specs.declared.decision_tree.Tree.{Tree}
use Rattle.rb_decide.specs.declared.decision_tree.Tree as T
use Rattle.rb_decide.specs.declared.decision_graph.Graph.{Graph}
use Rattle.rb_decide.specs.Decisions.{AreDistinct}
use Rattle.rb_decide.specs.Graphs.{unfolding_of, LinksAreLower}
use Rattle.rb_decide.specs.Trees.{clause_taken, ways, size, match_tree}
use Rattle.rb_decide.proofs.Positions.{match-once}
use Rattle.rb_decide.proofs.Taking.{match-takes}
use Rattle.rb_target.specs.declared.body.Hole.{Hole}
use Rattle.rb_target.specs.Meaning.{slots_at}
use Rattle.rb_target.specs.Sheet.{Sheet}
use Rattle.rb_bytes.specs.Memory.{Memory, IsGood}
use Rattle.rb_layout.specs.declared.agreed.LaidOut.{LaidOut}
use Rattle.rb_layout.specs.Agreement.{Agrees}
use Rattle.rb_layout.specs.Flattening.{flat_layouts}
use Rattle.rb_rel.proofs.Agreeing.{lawful}
use Rattle.rb_rel.proofs.Typing.{Represents-typed}
use Rattle.rb_fragment.specs.declared.reads.Read.{Read, Slot}
use Rattle.rb_fragment.specs.Plan.{Plan, Rep}
use Rattle.rb_target.specs.Growth.{AgreesBut, Grows, Nowhere}
use Rattle.rb_target.specs.Targets.{Finishes}
use Rattle.rb_target.proofs.Growing.{Keeps-trans}
use Rattle.rb_fragment.specs.Arms.{AreHoles}
use Rattle.rb_fragment.proofs.Adding.{Adds-trans}
use Rattle.rb_fragment.proofs.MakingAll.{meant-kept}
use Rattle.rb_fragment.proofs.Pieces.{later-trans}
use Rattle.rb_fragment.specs.Slots.{AllBelow}
use Rattle.rb_facts.specs.declared.knowledge.Spot.{Spot}
use Rattle.rb_facts.specs.Saving.{GivesSpots}
use Rattle.rb_match.proofs.Edges.{hole_at}
use Rattle.rb_fragment.specs.WordReads.{AreMeant, AllFit}
use Rattle.rb_fragment.proofs.ReadForms.{mean-Slot, fits-Slot}
use Rattle.rb_facts.specs.Looks.{TypedPosition, choosing_look, looks_with}
use Rattle.rb_match.specs.Bounding.{places_of_patterns, rounds}
use Rattle.rb_match.specs.Choosing.{ChoosesClause}
use Rattle.rb_facts.specs.Ways.{tree_from, looks, path_of, HasWay}
use Rattle.rb_match.specs.inner.Flowing.{TakesGraph}
use Rattle.rb_facts.specs.Places.{IsPlaceIn, IsLookedAt}
use Rattle.rb_match.specs.inner.Trees.{TakesTree}
use Rattle.rb_match.proofs.Bounds.{in_distinct, within_sum, all_at}

-- the code of a graph, behind that of its spots, is that of the tree to which it unfolds
pub tree_takes : (agreed : LaidOut) (ty : Ty) (words : List Read) (pats : List Pat) (spots : List Spot) (tree : Tree) (graph : Graph) (old mid new : Sheet) (holes : List Hole) → unfolding_of graph ≡ Some tree → LinksAreLower graph.nodes
    → GivesSpots agreed old mid spots → Grows old.code mid.code → AreHoles (length mid.code) (length pats) new.code holes → TakesGraph agreed ty words pats spots graph.nodes graph.root mid new holes → TakesTree agreed ty words pats tree old new holes
tree_takes agreed ty words pats spots tree graph old mid new holes unfolds lower gives grows are takes = λ plan of fit count.
    let g = gives plan of in
    let t = takes plan old.slots (record { of = of; spots = g.are; fit = fit; count = count; lower = lower }) in
    let is : tree_from graph.nodes graph.root ≡ tree = ap (λ o. unwrap_or o (T.Clause 0)) unfolds in
    let l1 = grows.longer in
    let l2 = t.adds.grows.longer in
    record {
      adds = Adds-trans plan old mid new g.straight.adds t.adds;
      leaves = λ final callee next law fin s w v clean ws k long good meant rep e.
          let agrees1 : AgreesBut final mid.code (length old.code) (length mid.code) Nowhere = record {
            same = λ pc lo hi out.
                (fin pc lo (omega (arith, hi, l2))).same (λ arm o. let h = (hole_at (length mid.code) (length pats) new.code holes are o.0 o.1).0 in absurd (omega (arith, h, o.2, hi))) ∙ t.adds.grows.same pc hi;
          } in
          let fin2 : Finishes final new.code holes (length mid.code) (length new.code) = λ pc lo hi. fin pc (omega (arith, lo, l1)) hi in
          let r = g.straight.runs final callee next law agrees1 s w (omega (arith, t.adds.more, long)) tt in
          let mem = sym r.5.memory in
          let meant1 = meant-kept old.slots s r.1 w.memory r.4 words ws (fit old.slots (omega arith)) meant in
          let l = t.leaves final callee next law fin2 r.1 r.2 clean v (omega (arith, r.4.long, long)) (record {
            good = subst IsGood mem good;
            ws = ws;
            meant = subst (λ m. AreMeant words r.1 m ws) mem meant1;
            represents = subst (λ m. Rep plan m clean ty v ws) mem rep;
            clause = k;
            takes = ap (λ u. clause_taken u v) is ∙ e;
          }) in
          let q = l.leaves in
          record {
            path = l.path;
            is_way = subst (λ u. HasWay (ways u) (map path_of l.path)) is l.is_way;
            looked = l.looked;
            leaves = record {
              hole = q.hole;
              is_hole = q.is_hole;
              is_way = q.is_way;
              target = q.target;
              is_target = q.is_target;
              slots = q.slots;
              world = q.world;
              runs = r.3 ∙ ap (λ pc. next pc r.1 r.2) r.6.0 ∙ q.runs;
              keeps = Keeps-trans old.slots old.slots s r.1 q.slots (omega arith) r.4 q.keeps;
              later = (let x = later-trans 0 (looks plan l.path) w r.2 q.world r.5 q.later in record { memory = x.memory; left = x.left; switches = (let y = x.switches in omega (arith, y)) });
              exit = tt;
            };
          };
    }

-- the words in slots
pub slots_meant : (words : List ℕ) (s : List ℕ) (m : Memory) → AreMeant (map Slot words) s m (slots_at s words)
slots_meant [] s m = tt
slots_meant (x ∷ words) s m = (mean-Slot x s m, slots_meant words s m)

pub slots_fit : (n k : ℕ) (words : List ℕ) → AllBelow n words → n ≤ k → AllFit k (map Slot words)
slots_fit n k [] all le = tt
slots_fit n k (x ∷ words) all le =
    let lt : x < k = omega (arith, all.0, le) in
    let test : nat_lt x k ≡ true = grind (arith, nat_tests, lt) in
    (fits-Slot k x ∙ test, slots_fit n k words all.1 le)

-- looks on one way of the match's tree are within the sum
pub way_within : (plan : Plan) (ty : Ty) (pats : List Pat) (path : List TypedPosition) → HasWay (ways (match_tree plan.program.types ty pats)) (map path_of path)
    → ((p : TypedPosition) → IsPlaceIn p path → IsLookedAt plan.program.types ty pats p.path p.ty) → looks plan path ≤ looks_with (choosing_look plan.layouts) (places_of_patterns plan.program.types ty pats)
way_within plan ty pats path way looked =
    let once = all_at AreDistinct (ways (match_tree plan.program.types ty pats)) (match-once plan.program.types ty pats) way.0 (map path_of path) way.1 in
    within_sum (choosing_look plan.layouts) path (places_of_patterns plan.program.types ty pats) once (λ p i. in_distinct p _ (looked p i))

pub one_round : (plan : Plan) (ty : Ty) (pats : List Pat) → size (match_tree plan.program.types ty pats) ≤ 512 → rounds plan.program.types ty pats ≡ 1
one_round plan ty pats le =
    let no : nat_lt 512 (size (match_tree plan.program.types ty pats)) ≡ false = grind (arith, nat_tests, le) in
    ap (λ u. if u then length pats else 1) no

-- what a represented value takes
pub value_takes : (plan : Plan) (ty : Ty) (pats : List Pat) → IsTyped plan.program → Agrees plan.program → plan.layouts ≡ flat_layouts plan.program → IsExhaustive plan.program.types ty pats → (m : Memory) (clean : Bool) (v : Rattle.rb_core.specs.declared.value.Value.Value) (ws : List ℕ)
    → Rep plan m clean ty v ws → (k : ℕ) → chosen_clause pats v ≡ Some k → clause_taken (match_tree plan.program.types ty pats) v ≡ Some k
value_takes plan ty pats typed agrees flat exhaustive m clean v ws rep k e =
    let rep1 = subst (λ ls. Rattle.rb_rel.specs.Relation.Represents plan.program.types ls m clean ty v ws) flat rep in
    match-takes plan.program.types ty pats exhaustive v (Represents-typed plan.program.types (flat_layouts plan.program) m clean (lawful plan.program agrees typed).provenances rep1) ∙ e

pub chooses_tree : (agreed : LaidOut) (ty : Ty) (pats : List Pat) (words : List ℕ) (tree : Tree) (old new : Sheet) (holes : List Hole) → IsTyped agreed.covered.program → Agrees agreed.covered.program → agreed.layouts ≡ flat_layouts agreed.covered.program
    → tree ≡ match_tree agreed.covered.program.types ty pats → size tree ≤ 512 → TakesTree agreed ty (map Slot words) pats tree old new holes → ChoosesClause agreed ty pats words old new holes
chooses_tree agreed ty pats words tree old new holes typed agrees flat is small takes = λ plan of typed_pats exhaustive low count.
    let typed1 = subst IsTyped (sym of.program) typed in
    let agrees1 = subst Agrees (sym of.program) agrees in
    let flat1 : plan.layouts ≡ flat_layouts plan.program = of.layouts ∙ flat ∙ ap flat_layouts (sym of.program) in
    let is1 : tree ≡ match_tree plan.program.types ty pats = is ∙ ap (λ (g : Rattle.rb_core.specs.declared.program.Program.Program). match_tree g.types ty pats) (sym of.program) in
    let t = takes plan of (λ k le. slots_fit old.slots k words low le) (length-map words Slot ∙ count) in
    record {
      adds = t.adds;
      low = omega arith;
      leaves = λ final callee next law fin s w k long good pre.
          let e = ap (λ u. clause_taken u pre.value) is1 ∙ value_takes plan ty pats typed1 agrees1 flat1 exhaustive w.memory pre.clean pre.value (slots_at s words) pre.represents k pre.chosen in
          let l = t.leaves final callee next law fin s w pre.value pre.clean (slots_at s words) k long good (slots_meant words s w.memory) pre.represents e in
          let sum = way_within plan ty pats l.path (subst (λ u. HasWay (ways u) (map path_of l.path)) is1 l.is_way) l.looked in
          let one = one_round plan ty pats (subst (λ u. size u ≤ 512) is1 small) in
          let r = l.leaves in
          record {
            hole = r.hole;
            is_hole = r.is_hole;
            is_way = r.is_way;
            target = r.target;
            is_target = r.is_target;
            slots = r.slots;
            world = r.world;
            runs = r.runs;
            keeps = r.keeps;
            later = record { memory = r.later.memory; left = r.later.left; switches = (let b = within (rounds plan.program.types ty pats) (looks_with (choosing_look plan.layouts) (places_of_patterns plan.program.types ty pats)) one in omega (arith, r.later.switches, sum, b)) };
            exit = tt;
          };
    }
  where
    within : (n x : ℕ) → n ≡ 1 → x ≤ n * x
    within n x e = subst (λ k. x ≤ k * x) (sym e) (omega arith)
