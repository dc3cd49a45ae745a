-- One more way of a part whose fields are saved.
use denote.Ref.{Bor}
use Rattle.std.proofs.Common.{◌≡◌, ℕ, zero, suc, ◌+◌, ◌-◌, ◌<◌, ◌≤◌, ◌==◌, ◌⊎◌, inl, inr, Bool, true, false, List, [], ◌∷◌, ◌++◌, length, length-append, Option, Some, None, refl, sym, subst, ap, ◌∙◌, arith}
use Rattle.std.specs.Prelude.{slice_get, slice_index, nat_le, if◌then◌else◌}
use Rattle.std.proofs.lemmas.Bool.Decides.{nat_tests}
use Rattle.std.proofs.lemmas.Option.{same_Some, slice_get_within}
use Rattle.rb_core.specs.declared.value.Value.{Value, out-Value}
use Rattle.rb_core.specs.declared.types.Ty.TheVariants.{Named}
use Rattle.rb_core.specs.Values.{part_at}
use Rattle.rb_decide.specs.declared.decision_graph.GraphArm.{GraphArm}
use Rattle.rb_decide.specs.declared.decision_graph.GraphNode.{GraphNode}
use Rattle.rb_bytes.specs.Memory.{Memory}
use Rattle.rb_target.specs.declared.instr.Instr.{Instr}
use Rattle.rb_target.specs.declared.instr.Instr.TheVariants.{Jump}
use Rattle.rb_target.specs.declared.body.Hole.{Hole}
use Rattle.rb_target.specs.Growth.{AgreesBut, Grows, Nowhere}
use Rattle.rb_target.specs.Laws.{Law}
use Rattle.rb_target.specs.Meaning.{World, Next, Callee, slots_at, taken}
use Rattle.rb_target.specs.Sheet.{Sheet, IsHole, IsHoleIn, with_more}
use Rattle.rb_target.specs.Targets.{Finishes, IsHoleAmong, IsOpenTarget, without_targets_in, target_in}
use Rattle.rb_target.proofs.Finishing.{agrees-sub}
use Rattle.rb_target.proofs.Growing.{Grows-append, Grows-trans, Keeps-trans, get-append, get-seam}
use Rattle.rb_layout.specs.declared.agreed.LaidOut.{LaidOut}
use Rattle.rb_layout.specs.declared.layout.Layout.{Layout}
use Rattle.rb_layout.specs.Positions.{layout_of, leaf_of}
use Rattle.rb_rel.specs.Switches.{depth_of}
use Rattle.rb_rel.proofs.Lists.{get-map, get-mapped}
use Rattle.rb_fragment.specs.declared.reads.Read.{Read}
use Rattle.rb_fragment.specs.Arms.{AreHoles, AreOfOneWay, ArePatchable, with_targets}
use Rattle.rb_fragment.specs.Plan.{Plan, Rep}
use Rattle.rb_fragment.specs.Pieces.{GoesOutBy}
use Rattle.rb_fragment.specs.Slots.{AllBelow}
use Rattle.rb_fragment.proofs.Adding.{Adds-trans, push_adds}
use Rattle.rb_fragment.proofs.Holds.{AllBelow-more, slots_at-kept}
use Rattle.rb_fragment.proofs.Patching.{AreAllHoles, adds_closed, closed_hole, closed_length, closed_slots, hole_within}
use Rattle.rb_fragment.specs.WordReads.{MakesAll}
use Rattle.rb_rel.proofs.Represented.{opened}
use Rattle.rb_fetch.specs.Finding.{FindsGroup, HasGroup, IsPlanOf, leaf_count, layout_leaf_count}
use Rattle.rb_fetch.specs.Pruning.{group_at, group_or_none}
use Rattle.rb_fetch.proofs.Grouping.{found_by_depth}
use Rattle.rb_match.specs.declared.deep.Onward.{Onward}
use Rattle.rb_facts.specs.declared.knowledge.Known.{Known}
use Rattle.rb_facts.specs.declared.knowledge.Known.TheVariants as K
use Rattle.rb_facts.specs.declared.knowledge.Spot.{Spot}
use Rattle.rb_facts.specs.declared.knowledge.Edge.{Edge}
use Rattle.rb_match.specs.declared.asking.Whole.{Whole}
use Rattle.rb_facts.specs.Looks.{choosing_look, rebuilding_bound}
use Rattle.rb_facts.specs.Knowing.{AreKnown, IsEdge, IsKnown, view_of}
use Rattle.rb_match.specs.inner.Asking.{AreGroups, LeavesWhere, group_for, edge_at}
use Rattle.rb_facts.specs.Saving.{AreSpots, IsThereWith, Knows, SavesFields}
use Rattle.rb_facts.specs.Edges.{StandOpen, holes_of}
use Rattle.rb_facts.specs.Links.{take_link}
use Rattle.rb_match.specs.inner.Clauses.{way_holes}
use Rattle.rb_match.specs.inner.Opening.{AsksDeep, CanOpen, GoOn, HasGroupOnward, IsAlone, IsOnward, LeadLeaves, LeadsAll, LeadsFrom, LeadsLeaf, LeadsWays, PartLeads, ShowOnward, StepsWay, WaysLead, WaysStand, group_onward, holes_to_set, shared_edge, shared_edges}
use Rattle.rb_facts.specs.Threading.{AllFollow}
use Rattle.rb_match.proofs.ClauseForms.{way_from, way_in}
use Rattle.rb_match.proofs.Edges.{all_holes_from, closable_from, hole_at, edge_append, edge_left, edge_open, edge_right, in_append, in_left, in_right, open_edge, patchable_from, carried_known}
use Rattle.rb_facts.proofs.Numbers.{other-nat, same-nat}
use Rattle.rb_facts.proofs.Following.{known-kept, snoc-at}
use Rattle.rb_match.proofs.Landing.{IsLanded, closed_open}
use Rattle.rb_match.proofs.LeafTests.{by_group, leaf_links}
use Rattle.rb_target.proofs.Shapes.{jump_shape}
use Rattle.rb_match.proofs.Nodes.{closed_grows}
use Rattle.rb_facts.proofs.SavedParts.{spots-more}
use Rattle.rb_match.proofs.NumberTests.{Keeps-less}

-- Holes that are pending

nat_le-true : (a b : ℕ) → a ≤ b → nat_le a b ≡ true
nat_le-true a b le = grind (arith, nat_tests)

nat_le-is : (a b : ℕ) → nat_le a b ≡ true → a ≤ b
nat_le-is a b e = grind (arith, nat_tests)

pub pending_in : (i : ℕ) (hs : List Hole) (h : Hole) → IsHoleAmong h hs → i ≤ h.leaf → IsHoleAmong h (holes_to_set i hs)
pending_in i [] h (k, at) le = absurd cc
pending_in i (x ∷ hs) h (zero, at) le =
    let same : x ≡ h = same_Some x h at in
    let test : nat_le i x.leaf ≡ true = nat_le-true i x.leaf (subst (λ (y : Hole). i ≤ y.leaf) (sym same) le) in
    subst (λ u. IsHoleAmong h (if u then x ∷ holes_to_set i hs else holes_to_set i hs)) (sym test) (0, at)
pending_in i (x ∷ hs) h (suc k, at) le = let r = pending_in i hs h (k, at) le in go (nat_le i x.leaf) r
  where
    go : (u : Bool) → IsHoleAmong h (holes_to_set i hs) → IsHoleAmong h (if u then x ∷ holes_to_set i hs else holes_to_set i hs)
    go true r = (suc r.0, r.1)
    go false r = r

pub pending_from : (i : ℕ) (hs : List Hole) (h : Hole) → IsHoleAmong h (holes_to_set i hs) → IsHoleAmong h hs × (i ≤ h.leaf)
pending_from i [] h (k, at) = absurd cc
pending_from i (x ∷ hs) h j = go (λ r. pending_from i hs h r) (nat_le i x.leaf) refl j
  where
    go : (IsHoleAmong h (holes_to_set i hs) → IsHoleAmong h hs × (i ≤ h.leaf)) → (u : Bool) → nat_le i x.leaf ≡ u → IsHoleAmong h (if u then x ∷ holes_to_set i hs else holes_to_set i hs) → IsHoleAmong h (x ∷ hs) × (i ≤ h.leaf)
    go more true e (zero, at) = ((0, at), subst (λ (y : Hole). i ≤ y.leaf) (same_Some x h at) (nat_le-is i x.leaf e))
    go more true e (suc k, at) = let r = more (k, at) in ((suc r.0.0, r.0.1), r.1)
    go more false e r = let q = more r in ((suc q.0.0, q.0.1), q.1)

-- all are pending at first
pub pending_all : (hs : List Hole) → holes_to_set 0 hs ≡ hs
pending_all [] = refl
pending_all (h ∷ hs) = let test : nat_le 0 h.leaf ≡ true = nat_le-true 0 h.leaf (omega arith) in ap (λ u. if u then h ∷ holes_to_set 0 hs else holes_to_set 0 hs) test ∙ ap (λ l. h ∷ l) (pending_all hs)

-- the holes of a leaf are in front of the end of the code
pub leaf_patchable : (holes : List Hole) (i : ℕ) (old : Sheet) → CanOpen old.code holes i → ArePatchable old.code (way_holes i 0 holes) (length old.code ∷ [])
leaf_patchable holes i old can = patchable_from old.code (way_holes i 0 holes) (length old.code ∷ []) (λ h j.
    let f = way_from i 0 holes h j in
    let is = f.2 in
    let g = can f.0 (pending_in i holes f.0 f.1 (omega (arith, is))) in
    let here = subst (λ (x : Hole). IsHole old.code x) (sym f.3) g in
    let lt = hole_within old.code h here in
    let leaf = ap (λ (x : Hole). x.leaf) f.3 in
    let to : slice_index (length old.code ∷ []) h.leaf ≡ length old.code = ap (slice_index (length old.code ∷ [])) leaf in
    (here, omega (arith, leaf), omega (arith, to, lt)))

-- Facts

-- a leaf that is found is known beside what was
leaf_known : (t leaf : ℕ) (position : Bor (List ℕ)) (plan : Plan) (clean : Bool) (v part : Value) (layout : Layout) (spots : List Spot) (s : List ℕ) (m : Memory) (known : List Known) → AreKnown (view_of plan clean v spots s m) known
    → part_at v position.now ≡ Some part → layout_of plan.layouts t ≡ Some layout → leaf_of layout part ≡ Some leaf → AreKnown (view_of plan clean v spots s m) (known ++ K.Leaf position t leaf ∷ [])
leaf_known t leaf position plan clean v part layout spots s m known all is_part is_layout is_leaf = λ j x at. elim (snoc-at known (K.Leaf position t leaf) x j at) [
  | inl h ↦ all j x h
  | inr same ↦ subst (IsKnown (view_of plan clean v spots s m)) same (part, layout, is_part, is_layout, is_leaf)
]

-- where a value of a leaf goes on
module _ (agreed : LaidOut) (graph : Whole) (t : ℕ) (known : List Known) (position : Bor (List ℕ)) (arms : List GraphArm) (other : Option ℕ) (i : ℕ) (found : Option Onward) (lead : LeadsLeaf agreed graph t known position arms other i found) where
  abbrev Leads : ℕ → ℕ → Type 0
  Leads = LeadsFrom agreed graph (known ++ K.Leaf position t i ∷ [])

  pub goes_some : (plan : Plan) → IsPlanOf agreed plan → (layout : Layout) (part : Value) (node : ℕ) → layout_of plan.layouts t ≡ Some layout → leaf_of layout part ≡ Some i → take_link arms other (out-Value part) ≡ Some node → (o : Onward) × (found ≡ Some o) × Leads node o.node
  goes_some plan of layout part node is_layout is_leaf takes =
      let link = sym (leaf_links agreed t i lead.con arms other lead.is_con plan of layout part is_layout is_leaf) ∙ takes in
      go found refl (subst (λ l. GoOn Leads l found) link lead.goes)
    where
      go : (f : Option Onward) → found ≡ f → GoOn Leads (Some node) f → (o : Onward) × (found ≡ Some o) × Leads node o.node
      go None is goes = absurd goes
      go (Some o) is goes = (o, is, goes)

  pub goes_on : (o : Onward) → found ≡ Some o → (plan : Plan) → IsPlanOf agreed plan → (layout : Layout) (part : Value) (node : ℕ) → layout_of plan.layouts t ≡ Some layout → leaf_of layout part ≡ Some i → take_link arms other (out-Value part) ≡ Some node → Leads node o.node
  goes_on o is plan of layout part node is_layout is_leaf takes =
      let g = goes_some plan of layout part node is_layout is_leaf takes in
      subst (λ (x : Onward). Leads node x.node) (same_Some g.0 o (sym g.1 ∙ is)) g.2

group_within : (groups : List (Option ℕ)) (leaf g : ℕ) → group_at groups leaf ≡ Some g → leaf < length groups
group_within [] leaf g e = absurd (let z = e in cc)
group_within (x ∷ groups) zero g e = omega arith
group_within (x ∷ groups) (suc leaf) g e = let r = group_within groups leaf g e in omega (arith, r)

module _ (agreed : LaidOut) (t : ℕ) (words : List ℕ) (spots : List Spot) (position : Bor (List ℕ)) (holes : List Hole) (i : ℕ) (found : Option Onward) (old : Sheet) (edges : List Edge) where
  abbrev Steps : Sheet → List Edge → Type 0
  Steps new more = StepsWay agreed t words spots position holes i found old edges new more

  -- fewer are pending
  later_pending : (h : Hole) → IsHoleAmong h (holes_to_set (i + 1) holes) → IsHoleAmong h (holes_to_set i holes)
  later_pending h j = let f = pending_from (i + 1) holes h j in let le = f.1 in pending_in i holes h f.0 (omega (arith, le))

  -- a leaf that is no group by itself has no way
  skips : ((groups : List (Option ℕ)) → IsAlone groups i found → (leaf : ℕ) → group_at groups leaf ≡ Some i → ⊥) → Steps old edges
  skips none = record {
    stands = λ mid top st. record { grows = st.grows; high = st.high; are_holes = λ h j. st.are_holes h (later_pending h j); are_open = st.are_open; one = st.one };
    leads = λ known graph arms other groups plan n mid top goes alone of are low count ways st f. record {
      adds = f.adds;
      leaves = λ final callee next law fin s w clean v part layout leaf node long there is_part is_layout is_leaf takes group has.
          let fin1 : Finishes final old.code (holes_to_set i holes ++ holes_of edges) (length mid.code) (length old.code) = λ q l h.
          agrees-sub final old.code old.code (holes_to_set i holes ++ holes_of edges) (holes_to_set (i + 1) holes ++ holes_of edges) q refl
          (λ arm o. elim (in_append (holes_to_set (i + 1) holes) (holes_of edges) o.0 o.1) [
            | inl j ↦ (o.0, in_left (holes_to_set i holes) (holes_of edges) o.0 (later_pending o.0 j), o.2, o.3)
            | inr j ↦ (o.0, in_right (holes_to_set i holes) (holes_of edges) o.0 j, o.2, o.3)
          ]) (fin q l h) in
          let r = f.leaves final callee next law fin1 s w clean v part layout leaf node long there is_part is_layout is_leaf takes group has in
          let differs : group ≡ i → ⊥ = λ e. none groups alone leaf (has ∙ ap Some e) in
          (λ lt. r.0 (below lt differs), λ le. r.1 (omega (arith, le)));
    };
  }
    where
      below : {a : ℕ} → a < i + 1 → (a ≡ i → ⊥) → a < i
      below {a = a} lt ne = grind (arith, lt, ne)

  pub skips_none : found ≡ None → Steps old edges
  skips_none is = skips (λ groups alone leaf has. subst (IsAlone groups i) is alone leaf has)

  pub skips_shared : (o : Onward) → found ≡ Some o → o.saves ≡ false → Steps old edges
  skips_shared o is shared = skips (λ groups alone leaf has. absurd (let z = sym (subst (IsAlone groups i) is alone leaf has).1 ∙ shared in cc))

  -- The way of leaf i: its holes lead here, its fields are saved, and it goes on by an open jump.
  module _ (o : Onward) (c : Sheet) (more : List Known) (patchable : CanOpen old.code holes i) where
    abbrev here : List Hole
    here = way_holes i 0 holes

    abbrev targets : List ℕ
    targets = length old.code ∷ []

    abbrev b : Sheet
    b = with_targets old here targets

    abbrev pub way_edge : Edge
    way_edge = edge_at (length c.code) None o.node more

    abbrev pub way_code : Sheet
    way_code = with_more c (Jump (length c.code + 1))

    abbrev all : List Edge
    all = edges ++ way_edge ∷ []

    way_of : (h : Hole) → IsHoleAmong h here → (g : Hole) × IsHoleAmong g (holes_to_set i holes) × (g.leaf ≡ i) × (h ≡ record { pc = g.pc; arm = g.arm; leaf = 0 })
    way_of h j = let f = way_from i 0 holes h j in let e = f.2 in (f.0, pending_in i holes f.0 f.1 (omega (arith, e)), f.2, f.3)

    here_hole : (h : Hole) → IsHoleAmong h here → IsHole old.code h × (h.leaf ≡ 0)
    here_hole h j = let f = way_of h j in (subst (λ (x : Hole). IsHole old.code x) (sym f.3) (patchable f.0 f.1), ap (λ (x : Hole). x.leaf) f.3)

    to_here : (h : Hole) → IsHoleAmong h here → slice_index targets h.leaf ≡ length old.code
    to_here h j = ap (slice_index targets) (here_hole h j).1

    all_here : AreAllHoles old.code here
    all_here = all_holes_from old.code here (λ h j. (here_hole h j).0)

    len : length b.code ≡ length old.code
    len = closed_length old here targets

    last : length way_code.code ≡ length c.code + 1
    last = length-append c.code (Jump (length c.code + 1) ∷ [])

    module _ (grows : Grows b.code c.code) where
      module _ (mid : Sheet) (top : ℕ) (st : WaysStand mid top holes i old edges) where
        low_here : (h : Hole) → IsHoleAmong h here → (length mid.code ≤ h.pc) × (h.pc < top)
        low_here h j =
            let f = way_of h j in
            let s = st.are_holes f.0 f.1 in
            let pc = ap (λ (x : Hole). x.pc) f.3 in (omega (arith, pc, s.0), omega (arith, pc, s.1))

        from_mid : Grows mid.code b.code
        from_mid = closed_grows mid old here targets st.grows (λ h j. (low_here h j).0)

        -- what is a hole in front of this way still is
        stays : (h : Hole) → IsHole old.code h → IsHole way_code.code h
        stays h is =
            let lt = hole_within old.code h is in
            let same : slice_get way_code.code h.pc ≡ slice_get b.code h.pc = get-append c.code (Jump (length c.code + 1) ∷ []) h.pc (let g = grows.longer in omega (arith, lt, len, g)) ∙ grows.same h.pc (omega (arith, lt, len)) in
            subst (λ o. IsHoleIn o h.arm) (sym same) (closed_hole old here targets h is)

        is_last : IsHole way_code.code way_edge.hole
        is_last = subst (λ o. IsHoleIn o None) (sym (get-seam c.code (Jump (length c.code + 1)) [])) tt

        old_low : (e : Edge) → IsEdge e edges → (top ≤ e.hole.pc) × (e.hole.pc < length c.code)
        old_low e j = let s = st.are_open e j in let lt = hole_within old.code e.hole s.1 in let g = grows.longer in (s.0, omega (arith, lt, len, g))

        single : (e : Edge) → IsEdge e (way_edge ∷ []) → way_edge ≡ e
        single e (zero, at) = same_Some way_edge e at
        single e (suc k, at) = absurd cc

        pub way_stands : WaysStand mid top holes (i + 1) way_code all
        way_stands = record {
          grows = Grows-trans _ _ _ (Grows-trans _ _ _ from_mid grows) (Grows-append c.code (Jump (length c.code + 1) ∷ []));
          high = (let h = st.high in let g = grows.longer in omega (arith, h, g, len, last));
          are_holes = λ h j. (let s = st.are_holes h (later_pending h j) in (s.0, s.1, stays h s.2));
          are_open = λ e j. elim (edge_append edges (way_edge ∷ []) e j) [
            | inl k ↦ (let s = st.are_open e k in (s.0, stays e.hole s.1))
            | inr k ↦ subst (λ (x : Edge). (top ≤ x.hole.pc) × IsHole way_code.code x.hole) (single e k) ((let h = st.high in let g = grows.longer in omega (arith, h, g, len)), is_last)
          ];
          one = λ e f j k p s. both e f (edge_append edges (way_edge ∷ []) e j) (edge_append edges (way_edge ∷ []) f k) p s;
        }
          where
            both : (e f : Edge) → IsEdge e edges ⊎ IsEdge e (way_edge ∷ []) → IsEdge f edges ⊎ IsEdge f (way_edge ∷ []) → e.hole.pc ≡ f.hole.pc → e.hole.arm ≡ f.hole.arm → e.hole.leaf ≡ f.hole.leaf
            both e f (inl j) (inl k) p s = st.one e f j k p s
            both e f (inl j) (inr k) p s = absurd (let a = old_low e j in let x = ap (λ (y : Edge). y.hole.pc) (single f k) in omega (arith, a.1, p, x))
            both e f (inr j) (inl k) p s = absurd (let a = old_low f k in let x = ap (λ (y : Edge). y.hole.pc) (single e j) in omega (arith, a.1, p, x))
            both e f (inr j) (inr k) p s = ap (λ (y : Edge). y.hole.leaf) (sym (single e j)) ∙ ap (λ (y : Edge). y.hole.leaf) (single f k)

        module _ (ways : AreOfOneWay holes) (final : List Instr) (fin : Finishes final way_code.code (holes_to_set (i + 1) holes ++ holes_of all) (length mid.code) (length way_code.code)) where
          abbrev rest : List Hole
          rest = holes_to_set (i + 1) holes ++ holes_of edges

          -- in front of this way only these are open
          fin_rest : Finishes final b.code rest (length mid.code) (length old.code)
          fin_rest = λ q l h.
              let g = grows.longer in
              let same : slice_get way_code.code q ≡ slice_get b.code q = get-append c.code (Jump (length c.code + 1) ∷ []) q (omega (arith, h, len, g)) ∙ grows.same q (omega (arith, h, len)) in
              agrees-sub final b.code way_code.code rest (holes_to_set (i + 1) holes ++ holes_of all) q same
              (λ arm o. elim (in_append (holes_to_set (i + 1) holes) (holes_of all) o.0 o.1) [
                | inl j ↦ (o.0, in_left (holes_to_set (i + 1) holes) (holes_of edges) o.0 j, o.2, o.3)
                | inr j ↦ (let e = open_edge all q arm (o.0, j, o.2, o.3) in elim (edge_append edges (way_edge ∷ []) e.0 e.1) [
                  | inl k ↦ (let x = edge_open edges q arm e.0 k e.2 e.3 in (x.0, in_right (holes_to_set (i + 1) holes) (holes_of edges) x.0 x.1, x.2, x.3))
                  | inr k ↦ absurd (let x = ap (λ (y : Edge). y.hole.pc) (single e.0 k) in let z = e.2 in omega (arith, x, z, h, len, g))
                ])
              ]) (fin q l (omega (arith, h, len, g, last)))

          apart : (h : Hole) → IsHoleAmong h here → IsOpenTarget rest h.pc h.arm → ⊥
          apart h j o =
              let a = way_of h j in
              let s = low_here h j in
              elim (in_append (holes_to_set (i + 1) holes) (holes_of edges) o.0 o.1) [
                | inl k ↦
                    let f = pending_from (i + 1) holes o.0 k in
                    let g = pending_from i holes a.0 a.1 in
                    let same = ways o.0 a.0 f.0 g.0 (o.2 ∙ ap (λ (x : Hole). x.pc) a.3) (o.3 ∙ ap (λ (x : Hole). x.arm) a.3) in
                    let le = f.1 in let is = a.2 in omega (arith, same, le, is)
                | inr k ↦ (let e = open_edge edges h.pc h.arm (o.0, k, o.2, o.3) in let u = st.are_open e.0 e.1 in let z = e.2 in omega (arith, u.0, z, s.1))
              ]

          one_way : AreOfOneWay here
          one_way h k j l p s = (here_hole h j).1 ∙ sym (here_hole k l).1

          landed : IsLanded final old here rest targets (length mid.code) (length old.code)
          landed = closed_open final rest targets (length mid.code) (length old.code) here old fin_rest all_here one_way apart

          fin_old : Finishes final old.code (holes_to_set i holes ++ holes_of edges) (length mid.code) (length old.code)
          fin_old = λ q l h. agrees-sub final old.code old.code (holes_to_set i holes ++ holes_of edges) (here ++ rest) q refl (λ arm o. elim (in_append here rest o.0 o.1) [
            | inl j ↦ (let a = way_of o.0 j in (a.0, in_left (holes_to_set i holes) (holes_of edges) a.0 a.1, sym (ap (λ (x : Hole). x.pc) a.3) ∙ o.2, sym (ap (λ (x : Hole). x.arm) a.3) ∙ o.3))
            | inr j ↦ elim (in_append (holes_to_set (i + 1) holes) (holes_of edges) o.0 j) [
              | inl k ↦ (o.0, in_left (holes_to_set i holes) (holes_of edges) o.0 (later_pending o.0 k), o.2, o.3)
              | inr k ↦ (o.0, in_right (holes_to_set i holes) (holes_of edges) o.0 k, o.2, o.3)
            ]
          ]) (landed.finishes q l h)

          -- in this way none is
          agrees_way : AgreesBut final c.code (length b.code) (length c.code) Nowhere
          agrees_way = record {
            same = λ q lo hi out.
                let m = st.grows.longer in
                (fin q (omega (arith, lo, len, m)) (omega (arith, hi, last))).same (λ arm o. elim (in_append (holes_to_set (i + 1) holes) (holes_of all) o.0 o.1) [
                  | inl j ↦ (let s = st.are_holes o.0 (later_pending o.0 j) in let h = st.high in let z = o.2 in omega (arith, s.1, h, z, lo, len))
                  | inr j ↦ (let e = open_edge all q arm (o.0, j, o.2, o.3) in elim (edge_append edges (way_edge ∷ []) e.0 e.1) [
                    | inl k ↦ (let lt = hole_within old.code e.0.hole (st.are_open e.0 k).1 in let z = e.2 in omega (arith, lt, z, lo, len))
                    | inr k ↦ (let x = ap (λ (y : Edge). y.hole.pc) (single e.0 k) in let z = e.2 in omega (arith, x, z, hi))
                  ])
                ]) ∙ get-append c.code (Jump (length c.code + 1) ∷ []) q hi;
          }

          leads_here : (h : Hole) → IsHoleAmong h holes → h.leaf ≡ i → target_in (slice_get final h.pc) h.arm ≡ Some (length old.code)
          leads_here h j is =
              let w = way_in i 0 holes h j is in
              let s = st.are_holes h (pending_in i holes h j (omega (arith, is))) in
              let hi = st.high in
              landed.leads (record { pc = h.pc; arm = h.arm; leaf = 0 }) w s.0 (omega (arith, s.1, hi))

      pub opens_way : found ≡ Some o → SavesFields agreed t i words spots position.now o.known more b c → Steps way_code all
      opens_way is_found saves = record {
        stands = λ mid top st. way_stands mid top st;
        leads = λ known graph arms other groups plan n mid top goes alone of are low count ways st f.
            let slots = closed_slots old here targets in
            let more_slots = f.adds.more in
            let adds1 = adds_closed plan mid old here targets (length old.code) refl f.adds all_here (closable_from (length mid.code) (length old.code) here targets (λ h j.
            let s = low_here mid top st h j in
            let lt = hole_within old.code h (here_hole h j).0 in
            let to = to_here h j in (s.0, omega (arith, to, lt), omega (arith, to)))) in
            let le : mid.slots ≤ b.slots = omega (arith, slots, more_slots) in
            let k = saves plan n of (spots-more plan n mid.slots b.slots spots le are) (AllBelow-more mid.slots b.slots words le low) count in
            let jump = push_adds plan c (Jump (length c.code + 1)) (record { bounded = tt; slots_fit = tt; targets = (omega arith, omega arith); calls = tt }) in
            record {
              adds = Adds-trans plan mid c way_code (Adds-trans plan mid b c adds1 k.adds) jump;
              leaves = λ final callee next law fin s w clean v part layout leaf node1 long there is_part is_layout is_leaf takes group has.
                  let more1 = k.adds.more in
                  let r = f.leaves final callee next law (fin_old mid top st ways final fin) s w clean v part layout leaf node1 (omega (arith, long, more1, slots)) there is_part is_layout is_leaf takes group has in
                  let mine = λ (e : group ≡ i). (subst (IsAlone groups i) is_found alone leaf (has ∙ ap Some e)).0 in
                  (λ lt. go known graph arms other plan n mid top goes of are low le st k ways final callee next law fin s w clean v part layout leaf node1 group long there is_part is_layout is_leaf takes mine r lt (group == i) refl, λ at. r.1 (omega (arith, at)));
            };
      }
        where
          below : {a : ℕ} → a < i + 1 → (a ≡ i → ⊥) → a < i
          below {a = a} lt ne = grind (arith, lt, ne)

          go : (known : List Known) (graph : Whole) (arms : List GraphArm) (other : Option ℕ) (plan : Plan) (n : ℕ) (mid : Sheet) (top : ℕ) → LeadsLeaf agreed graph t known position arms other i found → IsPlanOf agreed plan → (are : AreSpots plan n mid.slots spots) → AllBelow mid.slots words → mid.slots ≤ b.slots
              → (st : WaysStand mid top holes i old edges) → (k : Knows plan n (rebuilding_bound plan.layouts (Named t)) t i words spots position.now o.known more b c) → (ways : AreOfOneWay holes)
              → (final : List Instr) (callee : Callee) (next : Next) → Law final callee next → Finishes final way_code.code (holes_to_set (i + 1) holes ++ holes_of all) (length mid.code) (length way_code.code)
              → (s : List ℕ) (w : World) (clean : Bool) (v part : Value) (layout : Layout) (leaf node1 group : ℕ) → way_code.slots ≤ length s → IsThereWith plan clean t v part words spots known s w.memory
              → part_at v position.now ≡ Some part → layout_of plan.layouts t ≡ Some layout → leaf_of layout part ≡ Some leaf → take_link arms other (out-Value part) ≡ Some node1 → (group ≡ i → leaf ≡ i)
              → (group < i → LeavesWhere (IsOnward agreed graph node1) plan final next edges n (choosing_look plan.layouts (Named t)) (length mid.code) s w clean v spots)
              × (i ≤ group → GoesOutBy final next holes mid.slots (depth_of plan.layouts (Named t)) (length mid.code) s w group (λ s' m. Unit {0}))
              → group < i + 1 → (u : Bool) → (group == i) ≡ u → LeavesWhere (IsOnward agreed graph node1) plan final next all n (choosing_look plan.layouts (Named t)) (length mid.code) s w clean v spots
          go known graph arms other plan n mid top goes of are low le st k ways final callee next law fin s w clean v part layout leaf node1 group long there is_part is_layout is_leaf takes mine r lt false e =
              let q = r.0 (below lt (other-nat group i e)) in
              record {
                edge = q.edge;
                is_edge = edge_left edges (way_edge ∷ []) q.edge q.is_edge;
                target = q.target;
                is_target = q.is_target;
                slots = q.slots;
                world = q.world;
                runs = q.runs;
                keeps = q.keeps;
                later = q.later;
                known = q.known;
                is_node = q.is_node;
              }
          go known graph arms other plan n mid top goes of are low le st k ways final callee next law fin s w clean v part layout leaf node1 group long there is_part is_layout is_leaf takes mine r lt true e =
              let is : group ≡ i = same-nat group i e in
              let is_i : leaf_of layout part ≡ Some i = is_leaf ∙ ap Some (mine is) in
              let q = r.1 (omega (arith, is)) in
              let to : q.target ≡ length b.code = same_Some q.target (length old.code) (sym q.is_target ∙ leads_here mid top st ways final fin q.hole q.is_hole (q.is_way ∙ is)) ∙ sym len in
              let mem = sym q.later.memory in
              let kept = known-kept mid.slots plan clean v spots s q.slots w.memory q.keeps are.below known there.1 in
              let words1 : slots_at q.slots words ≡ slots_at s words = slots_at-kept mid.slots s q.slots words low q.keeps in
              let facts : List Known = known ++ K.Leaf position t i ∷ [] in
              let all_facts : AreKnown (view_of plan clean v spots q.slots w.memory) facts = leaf_known t i position plan clean v part layout spots q.slots w.memory known kept is_part is_layout is_i in
              let shows : AllFollow agreed facts o.known = subst (ShowOnward agreed facts) is_found goes.shows in
              let there1 : IsThereWith plan clean t v part words spots o.known q.slots w.memory = (
                (there.0.0, subst (λ ws. Rep plan w.memory clean (Named t) part ws) (sym words1) there.0.1),
                shows (view_of plan clean v spots q.slots w.memory) of all_facts,
              ) in
              let p = k.runs clean v part layout is_layout is_i is_part in
              let r2 = p.runs final callee next law (agrees_way mid top st ways final fin) q.slots q.world (omega (arith, q.keeps.long, long)) (subst (λ m. IsThereWith plan clean t v part words spots o.known q.slots m) mem there1) in
              let pc = length c.code in
              let m1 = st.grows.longer in
              let g1 = grows.longer in
              let a = fin pc (omega (arith, m1, g1, len)) (omega (arith, last)) in
              let j = jump_shape (slice_get final pc) (pc + 1) (a.shapes ∙ ap without_targets_in (get-seam c.code (Jump (pc + 1)) [])) in
              record {
                edge = way_edge;
                is_edge = edge_right edges (way_edge ∷ []) way_edge (0, refl);
                target = j.0;
                is_target = ap (λ x. target_in x None) j.1;
                slots = r2.1;
                world = taken r2.2;
                runs = q.runs ∙ ap (λ x. next x q.slots q.world) to ∙ r2.3 ∙ ap (λ x. next x r2.1 r2.2) r2.6.0 ∙ law.step pc (Jump j.0) r2.1 r2.2 j.1;
                keeps = Keeps-trans n n s q.slots r2.1 (omega arith) (Keeps-less n mid.slots s q.slots are.low q.keeps) r2.4;
                later = record { memory = r2.5.memory ∙ q.later.memory; left = r2.5.left ∙ q.later.left; switches = (let x = q.later.switches in let y = r2.5.switches in omega (arith, x, y)) };
                known = subst (λ m. AreKnown (view_of plan clean v spots r2.1 m) more) q.later.memory r2.6.1.1;
                is_node = (
                  facts,
                  q.slots,
                  all_facts,
                  goes_on agreed graph t known position arms other i found goes o is_found plan of layout part node1 is_layout is_i takes,
                );
              }

-- Finding the leaf comes first: no way is made, and all are open.
pub ways_stand : (old found : Sheet) (count : ℕ) (holes : List Hole) → AreHoles (length old.code) count found.code holes → Grows old.code found.code → WaysStand old (length found.code) holes 0 found []
ways_stand old found count holes are grows = record {
  grows = grows;
  high = omega arith;
  are_holes = λ h j. (let f = pending_from 0 holes h j in let s = hole_at (length old.code) count found.code holes are h f.0 in (s.0, hole_within found.code h s.2, s.2));
  are_open = λ e j. absurd (let z = j.1 in cc);
  one = λ e f j k p s. absurd (let z = j.1 in cc);
}

pub ways_lead : (agreed : LaidOut) (graph : Whole) (t : ℕ) (words : List ℕ) (spots : List Spot) (known : List Known) (position : Bor (List ℕ)) (arms : List GraphArm) (other : Option ℕ) (onward : List (Option Onward)) (old found : Sheet) (groups : List (Option ℕ)) (holes : List Hole)
    → FindsGroup agreed t groups words old found holes → LeadsAll agreed graph t words spots known position arms other onward groups 0 old holes found []
ways_lead agreed graph t words spots known position arms other onward old found groups holes finds = λ plan n goes of are low count.
    let f = found_by_depth plan t groups old found holes (λ g s m. HasGroup plan t groups g (slots_at s words) m) (finds plan of low count) in
    record {
      adds = f.adds;
      leaves = λ final callee next law fin s w clean v part layout leaf node long there is_part is_layout is_leaf takes group has.
          let fin1 : Finishes final found.code holes (length old.code) (length found.code) = λ q l h. agrees-sub final found.code found.code holes (holes_to_set 0 holes ++ []) q refl (λ arm o. elim (in_append (holes_to_set 0 holes) [] o.0 o.1) [
            | inl j ↦ (o.0, (pending_from 0 holes o.0 j).0, o.2, o.3)
            | inr j ↦ absurd (let z = j.1 in cc)
          ]) (fin q l h) in (
            λ lt. absurd (omega (arith, lt)),
            λ le. f.leaves final callee next law fin1 s w group long there.0.0
                (record { leaf = leaf; is_group = has; has_leaf = record { layout = layout; is_layout = is_layout; clean = clean; value = part; represents = there.0.1; is_leaf = is_leaf } }),
          );
    }

-- Of the groups of leaves, those that are leaves' own numbers are their own.
pub alone_at : (onward : List (Option Onward)) (groups : List (Option ℕ)) → AreGroups (HasGroupOnward onward) (length onward) groups → (i : ℕ) (found : Option Onward) → i < length onward → slice_get onward i ≡ Some found → IsAlone groups i found
alone_at onward groups here i found lt at = go found at
  where
    one : (leaf : ℕ) → group_at groups leaf ≡ Some i → (leaf ≡ i) × (o : Onward) × (found ≡ Some o) × (o.saves ≡ true)
    one leaf has =
        let within : leaf < length onward = (let l = group_within groups leaf i has in let z = here.long in omega (arith, l, z)) in
        let g = here.each leaf within in
        let is : g.0 ≡ Some i = sym (ap group_or_none g.1) ∙ has in
        mine leaf g.2.0 g.2.1 (sym g.2.2 ∙ is)
      where
        by : (leaf : ℕ) (o : Onward) → slice_get onward leaf ≡ Some (Some o) → (u : Bool) → o.saves ≡ u → group_for (length onward) u leaf (Some o.node) ≡ Some i → (leaf ≡ i) × (o : Onward) × (found ≡ Some o) × (o.saves ≡ true)
        by leaf o is true saves e = let same : leaf ≡ i = same_Some leaf i e in (same, o, same_Some found (Some o) (sym at ∙ ap (slice_get onward) (sym same) ∙ is), saves)
        by leaf o is false saves e = absurd (let same = same_Some (length onward + o.node) i e in omega (arith, same, lt))

        mine : (leaf : ℕ) (f : Option Onward) → slice_get onward leaf ≡ Some f → group_onward (length onward) leaf f ≡ Some i → (leaf ≡ i) × (o : Onward) × (found ≡ Some o) × (o.saves ≡ true)
        mine leaf None is e = absurd (let z = e in cc)
        mine leaf (Some o) is e = by leaf o is o.saves refl e

    go : (f : Option Onward) → slice_get onward i ≡ Some f → IsAlone groups i f
    go None is = λ leaf has. let r = one leaf has in let z = sym (same_Some found None (sym at ∙ is)) ∙ r.2 in cc z
    go (Some o) is = λ leaf has. let r = one leaf has in (r.0, ap (λ (x : Onward). x.saves) (same_Some o r.1 (sym (same_Some found (Some o) (sym at ∙ is)) ∙ r.2)) ∙ r.3)

-- When the ways of all leaves that are groups by themselves stand, the holes of the other groups are edges, too.
module _ (nodes : List GraphNode) (known : List Known) (holes : List Hole) (count : ℕ) (old new : Sheet) (edges : List Edge) (top : ℕ) (high : length old.code ≤ top) (st : WaysStand old top holes count new edges) where
  abbrev shared : List Edge
  shared = shared_edges nodes count known holes

  abbrev pub both_edges : List Edge
  both_edges = edges ++ shared

  shared_hole : (e : Edge) → IsEdge e shared → (h : Hole) × IsHoleAmong h (holes_to_set count holes) × (e ≡ shared_edge nodes count known h)
  shared_hole e (k, at) = let m = get-map (shared_edge nodes count known) (holes_to_set count holes) k e at in (m.0, (k, m.1), m.2)

  shared_in : (h : Hole) → IsHoleAmong h (holes_to_set count holes) → IsEdge (shared_edge nodes count known h) shared
  shared_in h (k, at) = (k, get-mapped (shared_edge nodes count known) (holes_to_set count holes) k h at)

  pub ways_open : AreOfOneWay holes → Grows old.code new.code → StandOpen old new both_edges
  ways_open ways grows = record {
    are_open = λ e j. elim (edge_append edges shared e j) [
      | inl k ↦ (let s = st.are_open e k in (omega (arith, s.0, high), s.1))
      | inr k ↦ (let f = shared_hole e k in let s = st.are_holes f.0 f.1 in subst (λ (x : Edge). (length old.code ≤ x.hole.pc) × IsHole new.code x.hole) (sym f.2) (s.0, s.2))
    ];
    one = λ e f j k p s. both e f (edge_append edges shared e j) (edge_append edges shared f k) p s;
  }
    where
      both : (e f : Edge) → IsEdge e edges ⊎ IsEdge e shared → IsEdge f edges ⊎ IsEdge f shared → e.hole.pc ≡ f.hole.pc → e.hole.arm ≡ f.hole.arm → e.hole.leaf ≡ f.hole.leaf
      both e f (inl j) (inl k) p s = st.one e f j k p s
      both e f (inl j) (inr k) p s = absurd (let a = st.are_open e j in let g = shared_hole f k in let u = st.are_holes g.0 g.1 in let x = ap (λ (y : Edge). y.hole.pc) g.2 in omega (arith, a.0, u.1, x, p))
      both e f (inr j) (inl k) p s = absurd (let a = st.are_open f k in let g = shared_hole e j in let u = st.are_holes g.0 g.1 in let x = ap (λ (y : Edge). y.hole.pc) g.2 in omega (arith, a.0, u.1, x, p))
      both e f (inr j) (inr k) p s =
          let a = shared_hole e j in
          let g = shared_hole f k in
          let same = ways a.0 g.0 (pending_from count holes a.0 a.1).0 (pending_from count holes g.0 g.1).0 (sym (ap (λ (y : Edge). y.hole.pc) a.2) ∙ p ∙ ap (λ (y : Edge). y.hole.pc) g.2) (sym (ap (λ (y : Edge). y.hole.arm) a.2) ∙ s ∙ ap (λ (y : Edge). y.hole.arm) g.2) in
          ap (λ (y : Edge). y.hole.leaf) a.2 ∙ ap (λ x. x - count) same ∙ sym (ap (λ (y : Edge). y.hole.leaf) g.2)

  -- a run leaves by an edge of either kind
  pub ways_part : (agreed : LaidOut) (graph : Whole) (t : ℕ) (words : List ℕ) (spots : List Spot) (position : Bor (List ℕ)) (arms : List GraphArm) (other : Option ℕ) (onward : List (Option Onward)) (groups : List (Option ℕ)) (plan : Plan) (n : ℕ) → count ≡ length onward
      → AreGroups (HasGroupOnward onward) (length onward) groups → LeadLeaves agreed graph t known position arms other onward → IsPlanOf agreed plan → AreSpots plan n old.slots spots
      → WaysLead (IsOnward agreed graph) plan n t words spots known position.now arms other groups old holes count new edges → PartLeads (IsOnward agreed graph) plan n t words spots known position.now arms other old new both_edges
  ways_part agreed graph t words spots position arms other onward groups plan n counts here lead of are f = record {
    adds = f.adds;
    leaves = λ final callee next law fin s w clean v part layout leaf node long there is_part is_layout is_leaf takes.
        let fin1 : Finishes final new.code (holes_to_set count holes ++ holes_of edges) (length old.code) (length new.code) = λ q l h.
        agrees-sub final new.code new.code (holes_to_set count holes ++ holes_of edges) (holes_of both_edges) q refl
        (λ arm o. let e = open_edge both_edges q arm o in elim (edge_append edges shared e.0 e.1) [
          | inl k ↦ (let x = edge_open edges q arm e.0 k e.2 e.3 in (x.0, in_right (holes_to_set count holes) (holes_of edges) x.0 x.1, x.2, x.3))
          | inr k ↦ (let x = shared_hole e.0 k in (x.0, in_left (holes_to_set count holes) (holes_of edges) x.0 x.1, sym (ap (λ (y : Edge). y.hole.pc) x.2) ∙ e.2, sym (ap (λ (y : Edge). y.hole.arm) x.2) ∙ e.3))
        ]) (fin q l h) in
        let b = (opened plan.program.types plan.layouts w.memory clean there.0.1).made in
        let same : b.layout ≡ layout = same_Some b.layout layout (sym b.is_layout ∙ is_layout) in
        let number : b.number ≡ leaf = same_Some b.number leaf (sym b.is_leaf ∙ ap (λ (l : Layout). leaf_of l part) same ∙ is_leaf) in
        let within = slice_get_within b.layout.leaves b.number b.leaf b.is_number in
        let leaves : leaf_count agreed t ≡ length b.layout.leaves = ap layout_leaf_count (sym (ap (λ ls. layout_of ls t) of.layouts) ∙ b.is_layout) in
        let all = lead.long in
        let l = lead.each leaf (omega (arith, within, leaves, number)) in
        let g = here.each leaf (omega (arith, within, leaves, number, all)) in
        let same_way : l.0 ≡ g.2.0 = same_Some l.0 g.2.0 (sym l.1 ∙ g.2.1) in
        let z = goes_some agreed graph t known position arms other leaf l.0 l.2 plan of layout part node is_layout is_leaf takes in
        let run = λ (group : ℕ) (is : g.0 ≡ Some group). f.leaves final callee next law fin1 s w clean v part layout leaf node long there is_part is_layout is_leaf takes group (ap group_or_none g.1 ∙ is) in
        let own : g.0 ≡ Some leaf → LeavesWhere (IsOnward agreed graph node) plan final next both_edges n (choosing_look plan.layouts (Named t)) (length old.code) s w clean v spots = λ is.
        let q = (run leaf is).0 (omega (arith, within, leaves, number, all, counts)) in
        record {
          edge = q.edge;
          is_edge = edge_left edges shared q.edge q.is_edge;
          target = q.target;
          is_target = q.is_target;
          slots = q.slots;
          world = q.world;
          runs = q.runs;
          keeps = q.keeps;
          later = q.later;
          known = q.known;
          is_node = q.is_node;
        } in
        let joint : g.0 ≡ Some (length onward + z.0.node) → LeavesWhere (IsOnward agreed graph node) plan final next both_edges n (choosing_look plan.layouts (Named t)) (length old.code) s w clean v spots = λ is.
        let q = (run (length onward + z.0.node) is).1 (omega (arith, counts)) in
        let way = q.is_way in
        let kept = known-kept old.slots plan clean v spots s q.slots w.memory q.keeps are.below known there.1 in
        let to : z.0.node ≡ q.hole.leaf - count = omega (arith, counts, way) in
        let e = shared_edge nodes count known q.hole in
        record {
          edge = e;
          is_edge = edge_right edges shared e (shared_in q.hole (pending_in count holes q.hole q.is_hole (omega (arith, counts, way))));
          target = q.target;
          is_target = q.is_target;
          slots = q.slots;
          world = q.world;
          runs = q.runs;
          keeps = Keeps-less n old.slots s q.slots are.low q.keeps;
          later = record { memory = q.later.memory; left = q.later.left; switches = omega (arith, q.later.switches) };
          known = carried_known nodes e.hole.leaf (view_of plan clean v spots q.slots w.memory) known kept;
          is_node = (
            known ++ K.Leaf position t leaf ∷ [],
            q.slots,
            leaf_known t leaf position plan clean v part layout spots q.slots w.memory known kept is_part is_layout is_leaf,
            subst (λ m. LeadsFrom agreed graph (known ++ K.Leaf position t leaf ∷ []) node m) to z.2,
          );
        } in
        by_group (length onward) z.0.saves leaf z.0.node g.0 (g.2.2 ∙ ap (group_onward (length onward) leaf) (sym same_way ∙ z.1)) own joint;
  }

-- from reads of the part to the slots of its words
pub asks_deep : (agreed : LaidOut) (graph : Whole) (t : ℕ) (spots : List Spot) (reads : List Read) (known : List Known) (position : Bor (List ℕ)) (arms : List GraphArm) (other : Option ℕ) (onward : List (Option Onward)) (old mid new : Sheet) (words : List ℕ) (edges : List Edge)
    → MakesAll reads old mid words → length words ≡ length reads → StandOpen mid new edges → LeadLeaves agreed graph t known position arms other onward
    → LeadsWays agreed t words spots known position onward mid new edges → AsksDeep agreed graph t spots reads known position.now arms other old new edges
asks_deep agreed graph t spots reads known position arms other onward old mid new words edges makes same stand lead leads = λ plan n of are fit count.
    let mk = makes plan old.slots (omega arith) fit in
    let more = mk.adds.more in
    let low = are.low in
    let are1 = spots-more plan n old.slots mid.slots spots more are in
    let f = leads graph arms other plan n lead of are1 mk.given (same ∙ count) in
    let l1 = mk.adds.grows.longer in
    let l2 = f.adds.grows.longer in
    record {
      adds = Adds-trans plan old mid new mk.adds f.adds;
      leaves = λ final callee next law fin s w v part clean ws node long good meant rep all at takes.
          let agrees1 : AgreesBut final mid.code (length old.code) (length mid.code) Nowhere = record {
            same = λ q lo hi out. (fin q lo (omega (arith, hi, l2))).same (λ arm o. let e = open_edge edges q arm o in let h = (stand.are_open e.0 e.1).0 in let z = e.2 in omega (arith, h, z, hi)) ∙ f.adds.grows.same q hi;
          } in
          let fin2 : Finishes final new.code (holes_of edges) (length mid.code) (length new.code) = λ q lo hi. fin q (omega (arith, lo, l1)) hi in
          let more2 = f.adds.more in
          let r = (mk.runs ws).runs final callee next law agrees1 s w (omega (arith, long, more2)) (good, meant) in
          let mem = sym r.5.memory in
          let there : IsThereWith plan clean t v part words spots known r.1 w.memory = ((good, subst (λ us. Rep plan w.memory clean (Named t) part us) (sym r.6.1) rep), known-kept old.slots plan clean v spots s r.1 w.memory r.4 are.below known all) in
          let b = (opened plan.program.types plan.layouts w.memory clean rep).made in
          let q = f.leaves final callee next law fin2 r.1 r.2 clean v part b.layout b.number node (omega (arith, r.4.long, long)) (subst (λ m. IsThereWith plan clean t v part words spots known r.1 m) mem there) at b.is_layout b.is_leaf takes in
          record {
            edge = q.edge;
            is_edge = q.is_edge;
            target = q.target;
            is_target = q.is_target;
            slots = q.slots;
            world = q.world;
            runs = r.3 ∙ ap (λ pc. next pc r.1 r.2) r.6.0 ∙ q.runs;
            keeps = Keeps-trans n n s r.1 q.slots (omega arith) (Keeps-less n old.slots s r.1 low r.4) q.keeps;
            later = record { memory = q.later.memory ∙ r.5.memory; left = q.later.left ∙ r.5.left; switches = (let y = r.5.switches in let z = q.later.switches in omega (arith, y, z)) };
            known = subst (λ m. AreKnown (view_of plan clean v spots q.slots m) q.edge.known) r.5.memory q.known;
            is_node = subst (λ m. IsOnward agreed graph node (view_of plan clean v spots q.slots m) q.edge.hole.leaf) r.5.memory q.is_node;
          };
    }

pub stands_open : (old mid new : Sheet) (edges : List Edge) → Grows old.code mid.code → StandOpen mid new edges → StandOpen old new edges
stands_open old mid new edges grows st = record {
  are_open = λ e j. (let s = st.are_open e j in let g = grows.longer in (omega (arith, s.0, g), s.1));
  one = st.one;
}
