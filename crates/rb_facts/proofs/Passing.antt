-- A value on its way through a graph: from a test to the node of the arm that is taken.
use Rattle.std.proofs.Common.{◌≡◌, ℕ, inl, inr, Bool, true, false, List, [], ◌∷◌, ◌++◌, map, Option, Some, None, refl, sym, subst, ap, ◌∙◌, append_assoc, ◌+◌, arith}
use Rattle.std.specs.Prelude.{slice_get, if◌then◌else◌, unwrap_or, option_map}
use Rattle.std.specs.List.{flat_map}
use Rattle.std.proofs.lemmas.Option.{same_Some}
use Rattle.rb_core.specs.declared.value.Value.{Value, out-Value}
use Rattle.rb_core.specs.declared.value.Value.TheOpen.{Value-F}
use Rattle.rb_core.specs.declared.types.Ty.{Ty}
use Rattle.rb_core.specs.Values.{part_at}
use Rattle.rb_matrix.specs.declared.matrix.Head.{Head}
use Rattle.rb_matrix.specs.Heads.{layer_begins}
use Rattle.rb_decide.specs.declared.decision_tree.Tree.{Tree}
use Rattle.rb_decide.specs.declared.decision_tree.Tree as Trees
use Rattle.rb_decide.specs.declared.decision_tree.TreeArm.{TreeArm}
use Rattle.rb_decide.specs.declared.decision_graph.GraphArm.{GraphArm}
use Rattle.rb_decide.specs.declared.decision_graph.GraphNode.{GraphNode}
use Rattle.rb_decide.specs.declared.decision_graph.GraphNode.TheVariants.{Test, Clause}
use Rattle.rb_decide.specs.Graphs.{node_trees, node_tree, tree_under, arm_under, LinksAreLower}
use Rattle.rb_decide.specs.Trees.{Taking, Way, clause_taken, take_arm, take_at, ways}
use Rattle.rb_decide.proofs.TreeSteps.{taken-Test, taken-Clause, taken_arm, taken-arm, arm_ways, ways-Test, ways-Clause}
use Rattle.rb_decide.proofs.Unfolding.{node-tree}
use Rattle.rb_rel.proofs.Lists.{get-left, get-right, get-mapped}
use Rattle.rb_facts.specs.Looks.{TypedPosition, choosing_look}
use Rattle.rb_facts.proofs.Following.{snoc-at}
use Rattle.rb_facts.specs.Links.{take_link}
use Rattle.rb_facts.specs.Places.{IsLookedAt}
use Rattle.rb_facts.specs.Ways.{tree_from, HasWay, path_of, Job, IsOn, looks}
use Rattle.rb_fragment.specs.Plan.{Plan}

module _ (trees : List Tree) where
  abbrev below : GraphArm → TreeArm
  below = arm_under trees

  abbrev others : Option ℕ → Option Taking
  others other = option_map clause_taken (option_map (tree_under trees) other)

  -- the arm that is taken has a node
  abbrev Linked : List GraphArm → Option ℕ → Value-F Value → Value → ℕ → Type 0
  Linked arms other l v k = (node : ℕ) × (take_link arms other l ≡ Some node) × (clause_taken (tree_under trees node) v ≡ Some k)

  takes_link : (arms : List GraphArm) (other : Option ℕ) (l : Value-F Value) (v : Value) (k : ℕ) → take_arm (map taken_arm (map below arms)) (others other) l v ≡ Some k → Linked arms other l v k
  takes_link [] None l v k e = absurd cc
  takes_link [] (Some i) l v k e = (i, refl, e)
  takes_link (a ∷ arms) other l v k e =
      go (layer_begins a.head l) (ap (λ (x : Head × Taking). take_arm (x ∷ map taken_arm (map below arms)) (others other) l v) (sym (taken-arm a.head (tree_under trees a.under))) ∙ e) (takes_link arms other l v k)
    where
      go : (u : Bool) → (if u then clause_taken (tree_under trees a.under) v else take_arm (map taken_arm (map below arms)) (others other) l v) ≡ Some k
          → (take_arm (map taken_arm (map below arms)) (others other) l v ≡ Some k → Linked arms other l v k)
          → (node : ℕ) × ((if u then Some a.under else take_link arms other l) ≡ Some node) × (clause_taken (tree_under trees node) v ≡ Some k)
      go true h rest = (a.under, refl, h)
      go false h rest = rest h

  abbrev all_ways : List GraphArm → Option ℕ → List Way
  all_ways arms other = flat_map (λ ws. ws) (map arm_ways (map below arms)) ++ unwrap_or (option_map ways (option_map (tree_under trees) other)) []

  link_ways : (arms : List GraphArm) (other : Option ℕ) (l : Value-F Value) (node : ℕ) → take_link arms other l ≡ Some node → (tail : Way) → HasWay (ways (tree_under trees node)) tail → HasWay (all_ways arms other) tail
  link_ways [] None l node e tail h = absurd cc
  link_ways [] (Some i) l node e tail h = let is = same_Some i node e in subst (λ j. HasWay (ways (tree_under trees j)) tail) (sym is) h
  link_ways (a ∷ arms) other l node e tail h = go (layer_begins a.head l) e (λ e1. link_ways arms other l node e1 tail h)
    where
      here : List Way
      here = ways (tree_under trees a.under)

      rest : List Way
      rest = flat_map (λ ws. ws) (map arm_ways (map below arms))

      last : List Way
      last = unwrap_or (option_map ways (option_map (tree_under trees) other)) []

      go : (u : Bool) → (if u then Some a.under else take_link arms other l) ≡ Some node → (take_link arms other l ≡ Some node → HasWay (all_ways arms other) tail) → HasWay ((ways (tree_under trees a.under) ++ flat_map (λ ws. ws) (map arm_ways (map below arms))) ++ unwrap_or (option_map ways (option_map (tree_under trees) other)) []) tail
      go true e1 r =
          let is = same_Some a.under node e1 in
          let h1 = subst (λ j. HasWay (ways (tree_under trees j)) tail) (sym is) h in
          (h1.0, get-left (ways (tree_under trees a.under) ++ flat_map (λ ws. ws) (map arm_ways (map below arms))) _ h1.0 tail (get-left (ways (tree_under trees a.under)) _ h1.0 tail h1.1))
      go false e1 r =
          let h1 = r e1 in
          subst (λ ws. HasWay ws tail) (sym (append_assoc (ways (tree_under trees a.under)) (flat_map (λ ws. ws) (map arm_ways (map below arms))) (unwrap_or (option_map ways (option_map (tree_under trees) other)) [])))
          (get-right (ways (tree_under trees a.under)) (all_ways arms other) h1.0 tail h1.1)

-- the tree of a node
pub tree_of_node : (nodes : List GraphNode) → LinksAreLower nodes → (n : ℕ) (node : GraphNode) → slice_get nodes n ≡ Some node → tree_from nodes n ≡ node_tree (node_trees nodes) node
tree_of_node nodes lower n node at = ap (λ o. unwrap_or o (Trees.Clause 0)) (node-tree nodes lower n node at)

-- places behind one another
pub path-snoc : (path : List TypedPosition) (p : TypedPosition) (tail : Way) → map path_of (path ++ p ∷ []) ++ tail ≡ map path_of path ++ p.path ∷ tail
path-snoc [] p tail = refl
path-snoc (x ∷ path) p tail = ap (λ l. x.path ∷ l) (path-snoc path p tail)

module _ (job : Job) (lower : LinksAreLower job.nodes) (n : ℕ) (position : List ℕ) (arms : List GraphArm) (other : Option ℕ) (at : slice_get job.nodes n ≡ Some (Test position arms other)) where
  abbrev trees : List Tree
  trees = node_trees job.nodes

  abbrev arms1 : List TreeArm
  arms1 = map (arm_under trees) arms

  abbrev other1 : Option Tree
  other1 = option_map (tree_under trees) other

  is_tree : tree_from job.nodes n ≡ Trees.Test position arms1 other1
  is_tree = tree_of_node job.nodes lower n (Test position arms other) at

  -- the part that is tested is there, and the arm that is taken has a node
  pub record IsTested (v : Value) (k : ℕ) : Type 0 where
    pub part : Value
    pub is_part : part_at v position ≡ Some part
    pub node : ℕ
    pub is_node : take_link arms other (out-Value part) ≡ Some node
    pub takes : clause_taken (tree_from job.nodes node) v ≡ Some k

  pub tested : (v : Value) (k : ℕ) → clause_taken (tree_from job.nodes n) v ≡ Some k → IsTested v k
  tested v k e = go (part_at v position) refl (sym (taken-Test position arms1 other1 v) ∙ ap (λ t. clause_taken t v) (sym is_tree) ∙ e)
    where
      go : (o : Option Value) → part_at v position ≡ o → take_at (map taken_arm arms1) (option_map clause_taken other1) o v ≡ Some k → IsTested v k
      go None is h = absurd cc
      go (Some part) is h =
          let r = takes_link trees arms other (out-Value part) v k h in
          record { part = part; is_part = is; node = r.0; is_node = r.1; takes = r.2 }

  pub passes : (v : Value) (clause : ℕ) (path : List TypedPosition) (ty : Ty) → clause_taken (tree_from job.nodes job.root) v ≡ Some clause → IsOn job v n path → IsLookedAt job.plan.program.types job.ty job.pats position ty
      → (t : IsTested v clause) → IsOn job v t.node (path ++ record { path = position; ty = ty } ∷ [])
  passes v clause path ty root on looked t = record {
    same = λ k e. t.takes ∙ ap Some (same_Some clause k (sym root ∙ e));
    onward = λ tail h.
        let w = link_ways trees arms other (out-Value t.part) t.node t.is_node tail h in
        let h1 = get-mapped (λ way. position ∷ way) (all_ways trees arms other) w.0 tail w.1 in
        let h2 : HasWay (ways (tree_from job.nodes n)) (position ∷ tail) = (w.0, ap (λ u. slice_get (ways u) w.0) is_tree ∙ ap (λ ws. slice_get ws w.0) (ways-Test position arms1 other1) ∙ h1) in
        let r = on.onward (position ∷ tail) h2 in
        (r.0, r.1 ∙ ap Some (sym (path-snoc path (record { path = position; ty = ty }) tail)));
    looked = λ p i. elim (snoc-at path (record { path = position; ty = ty }) p i.0 i.1) [
      | inl j ↦ on.looked p (i.0, j)
      | inr is ↦ subst (λ (q : TypedPosition). IsLookedAt job.plan.program.types job.ty job.pats q.path q.ty) is looked
    ];
  }

-- a value begins at the root
pub begins_on : (job : Job) (v : Value) → IsOn job v job.root []
begins_on job v = record { same = λ k e. e; onward = λ tail h. h; looked = λ p i. absurd (let e = i.1 in cc) }

-- the value is at a clause
pub ends_on : (job : Job) (lower : LinksAreLower job.nodes) (v : Value) (n k clause : ℕ) (path : List TypedPosition) → slice_get job.nodes n ≡ Some (Clause k) → IsOn job v n path → clause_taken (tree_from job.nodes job.root) v ≡ Some clause
    → (k ≡ clause) × HasWay (ways (tree_from job.nodes job.root)) (map path_of path)
ends_on job lower v n k clause path at on root =
    let is = tree_of_node job.nodes lower n (Clause k) at in
    let same : k ≡ clause = same_Some k clause (sym (taken-Clause k v) ∙ ap (λ t. clause_taken t v) (sym is) ∙ on.same clause root) in
    let r = on.onward [] (0, ap (λ t. slice_get (ways t) 0) is ∙ ap (λ ws. slice_get ws 0) (ways-Clause k)) in
    (same, (r.0, r.1 ∙ ap Some (no_more (map path_of path))))
  where
    no_more : (xs : Way) → xs ++ [] ≡ xs
    no_more [] = refl
    no_more (x ∷ xs) = ap (λ l. x ∷ l) (no_more xs)

pub looks-snoc : (plan : Plan) (path : List TypedPosition) (p : TypedPosition) → looks plan (path ++ p ∷ []) ≡ looks plan path + choosing_look plan.layouts p.ty
looks-snoc plan [] p = omega arith
looks-snoc plan (x ∷ path) p = let h = looks-snoc plan path p in omega (arith, h)
