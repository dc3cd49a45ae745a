-- A test of a value of a data type: its leaf is found, and leads to the node of its constructor.
use denote.Ref.{Bor}
use Rattle.std.proofs.Common.{◌≡◌, ℕ, zero, suc, ◌+◌, ◌-◌, ◌<◌, ◌≤◌, ◌==◌, inl, inr, Bool, true, false, List, [], ◌∷◌, ◌++◌, map, length, Option, Some, None, refl, sym, subst, ap, ◌∙◌, arith}
use Rattle.std.specs.Prelude.{if◌then◌else◌, nat_lt, slice_get}
use Rattle.std.proofs.lemmas.Bool.{false≢true, and_parts}
use Rattle.std.proofs.lemmas.Bool.Decides.{nat_tests}
use Rattle.std.proofs.lemmas.Option.{same_Some, slice_get_within}
use Rattle.rb_core.specs.declared.value.Value.{Value, out-Value}
use Rattle.rb_core.specs.declared.value.Value.TheOpen as V
use Rattle.rb_core.specs.declared.value.Value.TheOpen.{Value-F}
use Rattle.rb_core.specs.declared.types.ConRef.{ConRef}
use Rattle.rb_core.specs.declared.pattern.Pat.{Pat, out-Pat}
use Rattle.rb_core.specs.declared.pattern.Pat.TheVariants.{outs-Wild, outs-Var, outs-Num, outs-Con}
use Rattle.rb_core.specs.Matching.{matches_of, is_con, all_pass}
use Rattle.rb_core.proofs.MatchingForms.{matches-Con}
use Rattle.rb_core.proofs.PatternLaws.{induction}
use Rattle.rb_decide.specs.declared.decision_graph.GraphArm.{GraphArm}
use Rattle.rb_decide.specs.declared.decision_graph.GraphNode.{GraphNode}
use Rattle.rb_core.specs.declared.types.Ty.TheVariants.{Named}
use Rattle.rb_target.specs.declared.body.Hole.{Hole}
use Rattle.rb_target.specs.Growth.{Keeps}
use Rattle.rb_target.specs.Sheet.{Sheet, IsHole}
use Rattle.rb_target.specs.Targets.{Finishes, IsHoleAmong}
use Rattle.rb_target.proofs.Finishing.{agrees-sub}
use Rattle.rb_layout.specs.declared.agreed.LaidOut.{LaidOut}
use Rattle.rb_layout.specs.declared.layout.Layout.{Layout}
use Rattle.rb_layout.specs.declared.layout.Leaf.{Leaf}
use Rattle.rb_layout.specs.Positions.{con_of_layer, layout_of, leaf_of}
use Rattle.rb_fetch.specs.Finding.{IsPlanOf, FindsGroupOf, HasGroupMeant, leaf_count, leaf_within, layout_leaf_count}
use Rattle.rb_rel.proofs.Leaves.{leaf_matches}
use Rattle.rb_rel.proofs.Represented.{opened}
use Rattle.rb_fragment.specs.declared.reads.Read.{Read}
use Rattle.rb_fragment.specs.Arms.{AreHoles, AreOfOneWay}
use Rattle.rb_fragment.specs.Plan.{Plan}
use Rattle.rb_fetch.specs.Pruning.{group_at, group_or_none}
use Rattle.rb_fetch.proofs.Grouping.{found_by_depth}
use Rattle.rb_facts.specs.declared.knowledge.Known.{Known}
use Rattle.rb_facts.specs.declared.knowledge.Edge.{Edge}
use Rattle.rb_facts.specs.declared.knowledge.Known.TheVariants as K
use Rattle.rb_facts.specs.Looks.{choosing_look}
use Rattle.rb_facts.specs.Knowing.{AreKnown, IsEdge, IsKnown, view_of}
use Rattle.rb_facts.specs.Links.{take_link, con_in, leaf_con, link_at}
use Rattle.rb_match.specs.inner.Asking.{group_for, node_for, facts_for, IsGrouped, AreGroups, edge_in, edge_to, edge_for, keep_edge, leaf_edges_of, LeavesBy, AsksLeaf}
use Rattle.rb_facts.specs.Edges.{StandOpen, holes_of}
use Rattle.rb_facts.proofs.Numbers.{same-nat}
use Rattle.rb_match.proofs.Edges.{hole_at, in_tail, open_edge, carried_known}
use Rattle.rb_facts.proofs.Following.{known-kept, snoc-at}
use Rattle.rb_match.proofs.NumberTests.{Keeps-less}
use Rattle.rb_facts.proofs.LinkForms.{link_same}

-- a value that a provenance matches begins with its constructor
abbrev Begins : Pat → Type 0
Begins p = (v : Value) (c : ℕ) → con_of_layer (out-Pat p) ≡ Some c → matches_of p v ≡ true → (us : List Value) × (out-Value v ≡ V.Con c us)

con_begins : (c : ConRef) (ts : List (Value → Bool)) (k : ℕ) (l : Value-F Value) → c.con ≡ k → is_con c.con ts l ≡ true → (us : List Value) × (l ≡ V.Con k us)
con_begins c ts k (V.Num m) same e = absurd (false≢true e)
con_begins c ts k (V.Con j us) same e = let b = and_parts (c.con == j) (all_pass ts us) e in let is : j ≡ k = sym (same-nat c.con j b.0) ∙ same in (us, ap (λ n. V.Con n us) is)

begins : (p : Pat) → Begins p
begins = induction Begins (record {
  wild = λ at v c e m. absurd (let z = sym (ap con_of_layer (outs-Wild at)) ∙ e in cc);
  var = λ at x v c e m. absurd (let z = sym (ap con_of_layer (outs-Var at x)) ∙ e in cc);
  num = λ at n v c e m. absurd (let z = sym (ap con_of_layer (outs-Num at n)) ∙ e in cc);
  con = λ at cr ps each v c e m. con_begins cr (map matches_of ps) c (out-Value v) (same_Some cr.con c (sym (ap con_of_layer (outs-Con at cr ps)) ∙ e)) (sym (matches-Con v at cr ps) ∙ m);
})

-- a value of a leaf begins with the leaf's constructor
pub leaf_begins : (agreed : LaidOut) (t l c : ℕ) → leaf_con agreed t l ≡ Some c → (plan : Plan) → IsPlanOf agreed plan → (layout : Layout) (part : Value) → layout_of plan.layouts t ≡ Some layout → leaf_of layout part ≡ Some l → (us : List Value) × (out-Value part ≡ V.Con c us)
leaf_begins agreed t l c con plan of layout part is is_leaf =
    go (slice_get layout.leaves l) refl (ap (λ o. con_in (leaf_within o l)) (sym (sym (ap (λ ls. layout_of ls t) of.layouts) ∙ is)) ∙ con)
  where
    go : (o : Option Leaf) → slice_get layout.leaves l ≡ o → con_in (slice_get layout.leaves l) ≡ Some c → (us : List Value) × (out-Value part ≡ V.Con c us)
    go None at e = absurd (let z = sym (ap con_in at) ∙ e in cc)
    go (Some leaf) at e =
        let start : 0 + l ≡ l = omega arith in
        begins leaf.prov part c (sym (ap con_in at) ∙ e) (leaf_matches layout.leaves part 0 l leaf is_leaf l start at)

-- and goes where that constructor goes
pub leaf_links : (agreed : LaidOut) (t l c : ℕ) (arms : List GraphArm) (other : Option ℕ) → leaf_con agreed t l ≡ Some c → (plan : Plan) → IsPlanOf agreed plan → (layout : Layout) (part : Value) → layout_of plan.layouts t ≡ Some layout → leaf_of layout part ≡ Some l
    → take_link arms other (out-Value part) ≡ take_link arms other (V.Con c [])
leaf_links agreed t l c arms other con plan of layout part is is_leaf =
    let b = leaf_begins agreed t l c con plan of layout part is is_leaf in
    ap (take_link arms other) b.1 ∙ link_same arms other c b.0

pub is_less : (a b : ℕ) → a < b → nat_lt a b ≡ true
is_less a b lt = grind (arith, nat_tests)

not_less : (a b : ℕ) → b ≤ a → nat_lt a b ≡ false
not_less a b le = grind (arith, nat_tests)

-- the two groups of a leaf
pub by_group : {A : Type 0} (count : ℕ) (itself : Bool) (leaf node : ℕ) (group : Option ℕ) → group ≡ group_for count itself leaf (Some node) → (group ≡ Some leaf → A) → (group ≡ Some (count + node) → A) → A
by_group count true leaf node group is own shared = own is
by_group count false leaf node group is own shared = shared is

module _ (agreed : LaidOut) (nodes : List GraphNode) (t : ℕ) (position : Bor (List ℕ)) (known : List Known) (arms : List GraphArm) (other : Option ℕ) where
  abbrev fact : ℕ → Known
  fact l = K.Leaf position t l

  abbrev node_at : ℕ → Option ℕ
  node_at g = node_for agreed t arms other g

  abbrev facts : ℕ → List Known
  facts g = facts_for agreed t position known g

  abbrev to : Hole → ℕ → Edge
  to h node = edge_in nodes h.pc h.arm node (facts h.leaf)

  abbrev pub leaf_edges : List Hole → List Edge
  leaf_edges hs = leaf_edges_of agreed nodes t position known arms other hs

  -- a leaf by itself, and others that lead to a node
  own_node : (l : ℕ) → l < leaf_count agreed t → node_at l ≡ link_at arms other (leaf_con agreed t l)
  own_node l lt = ap (λ u. if u then link_at arms other (leaf_con agreed t l) else Some (l - leaf_count agreed t)) (is_less l (leaf_count agreed t) lt)

  own_facts : (l : ℕ) → l < leaf_count agreed t → facts l ≡ known ++ fact l ∷ []
  own_facts l lt = ap (λ u. if u then known ++ fact l ∷ [] else known) (is_less l (leaf_count agreed t) lt)

  shared_node : (node : ℕ) → node_at (leaf_count agreed t + node) ≡ Some node
  shared_node node =
      let n = leaf_count agreed t in
      let back : n + node - n ≡ node = omega arith in
      ap (λ u. if u then link_at arms other (leaf_con agreed t (n + node)) else Some (n + node - n)) (not_less (n + node) n (omega arith)) ∙ ap Some back

  shared_facts : (node : ℕ) → facts (leaf_count agreed t + node) ≡ known
  shared_facts node = let n = leaf_count agreed t in ap (λ u. if u then known ++ fact (n + node) ∷ [] else known) (not_less (n + node) n (omega arith))

  -- the hole of an edge
  view_to : (h : Hole) (o : Option ℕ) (e : Edge) → edge_to nodes h (facts h.leaf) o ≡ Some e → (node : ℕ) × (o ≡ Some node) × (e ≡ to h node)
  view_to h None e is = absurd cc
  view_to h (Some node) e is = (node, refl, sym (same_Some _ e is))

  view : (hs : List Hole) (e : Edge) → IsEdge e (leaf_edges hs) → (h : Hole) × IsHoleAmong h hs × (node : ℕ) × (node_at h.leaf ≡ Some node) × (e ≡ to h node)
  view [] e (k, at) = absurd cc
  view (h ∷ hs) e i = go (λ j. view hs e j) (edge_for agreed nodes t position known arms other h) refl i
    where
      later : (x : Hole) × IsHoleAmong x hs × (node : ℕ) × (node_at x.leaf ≡ Some node) × (e ≡ to x node) → (x : Hole) × IsHoleAmong x (h ∷ hs) × (node : ℕ) × (node_at x.leaf ≡ Some node) × (e ≡ to x node)
      later r = (r.0, in_tail h hs r.0 r.1, r.2, r.3, r.4)

      go : (IsEdge e (leaf_edges hs) → (x : Hole) × IsHoleAmong x hs × (node : ℕ) × (node_at x.leaf ≡ Some node) × (e ≡ to x node)) → (o : Option Edge) → edge_for agreed nodes t position known arms other h ≡ o → IsEdge e (keep_edge o (leaf_edges hs))
          → (x : Hole) × IsHoleAmong x (h ∷ hs) × (node : ℕ) × (node_at x.leaf ≡ Some node) × (e ≡ to x node)
      go rest None is j = later (rest j)
      go rest (Some f) is (zero, at) = let r = view_to h (node_at h.leaf) e (is ∙ at) in (h, (0, refl), r.0, r.1, r.2)
      go rest (Some f) is (suc k, at) = later (rest (k, at))

  -- the edge of a hole
  edge_of : (hs : List Hole) (h : Hole) (node : ℕ) → IsHoleAmong h hs → node_at h.leaf ≡ Some node → IsEdge (to h node) (leaf_edges hs)
  edge_of [] h node (k, at) is = absurd cc
  edge_of (x ∷ hs) h node (zero, at) is =
      let same : x ≡ h = same_Some x h at in
      let e : edge_for agreed nodes t position known arms other x ≡ Some (to h node) = ap (edge_for agreed nodes t position known arms other) same ∙ ap (edge_to nodes h (facts h.leaf)) is in
      subst (λ o. IsEdge (to h node) (keep_edge o (leaf_edges hs))) (sym e) (0, refl)
  edge_of (x ∷ hs) h node (suc k, at) is = let r = edge_of hs h node (k, at) is in go (edge_for agreed nodes t position known arms other x) r
    where
      go : (o : Option Edge) → IsEdge (to h node) (leaf_edges hs) → IsEdge (to h node) (keep_edge o (leaf_edges hs))
      go None r = r
      go (Some f) r = (suc r.0, r.1)

  pub leaf_stand : (old new : Sheet) (count : ℕ) (holes : List Hole) → AreHoles (length old.code) count new.code holes → AreOfOneWay holes → StandOpen old new (leaf_edges holes)
  leaf_stand old new count holes are one = record {
    are_open = λ e i.
        let w = view holes e i in
        subst (λ (y : Edge). (length old.code ≤ y.hole.pc) × IsHole new.code y.hole) (sym w.4) (let h = hole_at (length old.code) count new.code holes are w.0 w.1 in (h.0, h.2));
    one = λ e f i j p s.
        let a = view holes e i in
        let b = view holes f j in
        let group = one a.0 b.0 a.1 b.1 (sym (ap (λ (y : Edge). y.hole.pc) a.4) ∙ p ∙ ap (λ (y : Edge). y.hole.pc) b.4) (sym (ap (λ (y : Edge). y.hole.arm) a.4) ∙ s ∙ ap (λ (y : Edge). y.hole.arm) b.4) in
        let node : a.2 ≡ b.2 = same_Some a.2 b.2 (sym a.3 ∙ ap node_at group ∙ b.3) in
        ap (λ (y : Edge). y.hole.leaf) a.4 ∙ node ∙ sym (ap (λ (y : Edge). y.hole.leaf) b.4);
  }

  pub asks_leaf : (reads : List Read) (old new : Sheet) (groups : List (Option ℕ)) (holes : List Hole) → FindsGroupOf agreed t groups reads old new holes
      → AreGroups (IsGrouped agreed t arms other) (leaf_count agreed t) groups → AsksLeaf agreed t reads known position.now arms other old new (leaf_edges holes)
  asks_leaf reads old new groups holes finds grouped = λ plan n spots of are fit count.
      let br = found_by_depth plan t groups old new holes (λ g s m. HasGroupMeant plan t groups g reads s m) (finds plan of fit count) in
      record {
        adds = br.adds;
        leaves = λ final callee next law fin s w v part clean ws node long good meant rep all at takes.
            let b = (opened plan.program.types plan.layouts w.memory clean rep).made in
            let within = slice_get_within b.layout.leaves b.number b.leaf b.is_number in
            let leaves : leaf_count agreed t ≡ length b.layout.leaves = ap layout_leaf_count (sym (ap (λ ls. layout_of ls t) of.layouts) ∙ b.is_layout) in
            let lt : b.number < leaf_count agreed t = omega (arith, within, leaves) in
            let its = grouped.each b.number lt in
            let begin = leaf_begins agreed t b.number its.2.con its.2.is_con plan of b.layout part b.is_layout b.is_leaf in
            let goes : take_link arms other (V.Con its.2.con []) ≡ Some node = sym (link_same arms other its.2.con begin.0) ∙ ap (take_link arms other) (sym begin.1) ∙ takes in
            let fin1 : Finishes final new.code holes (length old.code) (length new.code) = λ q l h. agrees-sub final new.code new.code holes (holes_of (leaf_edges holes)) q refl
            (λ arm o. let e = open_edge (leaf_edges holes) q arm o in let x = view holes e.0 e.1 in (x.0, x.1, sym (ap (λ (y : Edge). y.hole.pc) x.4) ∙ e.2, sym (ap (λ (y : Edge). y.hole.arm) x.4) ∙ e.3)) (fin q l h) in
            let has = λ (g : ℕ) (is : group_at groups b.number ≡ Some g). br.leaves final callee next law fin1 s w g long good
            (record { words = ws; are_meant = meant; has_group = record { leaf = b.number; is_group = is; has_leaf = record { layout = b.layout; is_layout = b.is_layout; clean = clean; value = part; represents = rep; is_leaf = b.is_leaf } } }) in
            let kept = λ (s1 : List ℕ) (keeps : Keeps old.slots s s1). known-kept old.slots plan clean v spots s s1 w.memory keeps are.below known all in
            let by : (g : ℕ) → (its.0 ≡ Some g) → (node_at g ≡ Some node) → ((s1 : List ℕ) → Keeps old.slots s s1 → AreKnown (view_of plan clean v spots s1 w.memory) (facts g))
            → LeavesBy plan final next (leaf_edges holes) n (choosing_look plan.layouts (Named t)) (length old.code) s w clean v spots node =
            λ g is to_node holds.
            let r = has g (ap group_or_none its.1 ∙ is) in
            record {
              edge = to r.hole node;
              is_edge = edge_of holes r.hole node r.is_hole (ap node_at r.is_way ∙ to_node);
              is_node = refl;
              target = r.target;
              is_target = r.is_target;
              slots = r.slots;
              world = r.world;
              runs = r.runs;
              keeps = Keeps-less n old.slots s r.slots are.low r.keeps;
              later = record { memory = r.later.memory; left = r.later.left; switches = omega (arith, r.later.switches) };
              known = carried_known nodes node (view_of plan clean v spots r.slots w.memory) (facts r.hole.leaf)
                  (subst (λ k. AreKnown (view_of plan clean v spots r.slots w.memory) (facts k)) (sym r.is_way) (holds r.slots r.keeps));
            } in
            let number = b.number in
            let own : its.0 ≡ Some number → LeavesBy plan final next (leaf_edges holes) n (choosing_look plan.layouts (Named t)) (length old.code) s w clean v spots node =
            λ is. by number is (own_node number lt ∙ ap (link_at arms other) its.2.is_con ∙ goes) (λ s1 keeps.
            subst (λ fs. AreKnown (view_of plan clean v spots s1 w.memory) fs) (sym (own_facts number lt)) (λ i x e. elim (snoc-at known (fact number) x i e) [
              | inl j ↦ kept s1 keeps i x j
              | inr same ↦ subst (IsKnown (view_of plan clean v spots s1 w.memory)) same (part, b.layout, at, b.is_layout, b.is_leaf)
            ])) in
            let shared : its.0 ≡ Some (leaf_count agreed t + node) → LeavesBy plan final next (leaf_edges holes) n (choosing_look plan.layouts (Named t)) (length old.code) s w clean v spots node =
            λ is. by (leaf_count agreed t + node) is (shared_node node) (λ s1 keeps. subst (λ fs. AreKnown (view_of plan clean v spots s1 w.memory) fs) (sym (shared_facts node)) (kept s1 keeps)) in
            let group : its.0 ≡ group_for (leaf_count agreed t) its.2.itself number (Some node) = its.2.is_group ∙ ap (group_for (leaf_count agreed t) its.2.itself number) goes in
            by_group (leaf_count agreed t) its.2.itself number node its.0 group own shared;
      }
