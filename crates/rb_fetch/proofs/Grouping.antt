-- From a represented value whose leaf has a group: the group is found.
use Rattle.std.proofs.Common.{◌≡◌, inl, inr, ℕ, ◌≤◌, List, [], map, length, Option, Some, None, sym, subst, ap, ◌∙◌, arith}
use Rattle.std.proofs.lemmas.List.{length-map}
use Rattle.std.proofs.lemmas.Option.{same_Some}
use Rattle.rb_core.specs.declared.types.Ty.TheVariants.{Named}
use Rattle.rb_core.specs.TypedPrograms.{IsTyped}
use Rattle.rb_target.specs.declared.body.Hole.{Hole}
use Rattle.rb_bytes.specs.Memory.{IsGood, Memory}
use Rattle.rb_target.specs.Meaning.{World, slots_at}
use Rattle.rb_target.specs.Sheet.{Sheet}
use Rattle.rb_layout.specs.declared.agreed.LaidOut.{LaidOut}
use Rattle.rb_layout.specs.declared.layout.FlatTree.{FlatTree}
use Rattle.rb_layout.specs.declared.layout.Layout.{Layout}
use Rattle.rb_layout.specs.Agreement.{Agrees, AreAgreed}
use Rattle.rb_layout.specs.Flattening.{flat_layouts}
use Rattle.rb_layout.specs.Positions.{leaf_of, layout_of}
use Rattle.rb_rel.specs.Relation.{word_count, shape_length, Represents}
use Rattle.rb_rel.specs.Reading.{walk}
use Rattle.rb_rel.specs.Switches.{nesting, depth_in, depth_of}
use Rattle.rb_rel.proofs.Agreeing.{lawful}
use Rattle.rb_rel.proofs.Leading.{leads}
use Rattle.rb_fragment.specs.declared.reads.Read.{Read, Slot}
use Rattle.rb_fragment.specs.Plan.{Plan}
use Rattle.rb_fragment.specs.Arms.{AreHoles, AreOfOneWay}
use Rattle.rb_fragment.specs.Pieces.{Branches}
use Rattle.rb_fragment.specs.WordReads.{AllFit}
use Rattle.rb_fragment.proofs.MakingAll.{slots_fit, slots_meant}
use Rattle.rb_fragment.proofs.Adding.{Adds-refl}
use Rattle.rb_fragment.proofs.Pieces.{branches_weaken}
use Rattle.rb_fetch.specs.inner.Fetching.{AreSmall}
use Rattle.rb_fetch.specs.Finding.{HasGroupMeant, FindsGroup, FindsGroupOf, group_depth, group_depth_in}
use Rattle.rb_fetch.specs.Pruning.{GroupsBelow, pruned_of, walk_in, nesting_in}
use Rattle.rb_fetch.specs.inner.Looking.{TreeFits, Looks}
use Rattle.rb_fetch.proofs.Finding.{are_holes, nothing, of_plan, tree_fits, words_small}
use Rattle.rb_fetch.proofs.Pruning.{pruned_prunes, pruned_fits, pruned_below}

-- what finds a group does no more switches than what finds a leaf
pub group_depth_less : (layouts : List Layout) (t : ℕ) (groups : List (Option ℕ)) → group_depth layouts t groups ≤ depth_of layouts (Named t)
group_depth_less layouts t groups = go (layout_of layouts t)
  where
    go : (o : Option Layout) → group_depth_in groups o ≤ depth_in o
    go None = omega arith
    go (Some layout) = (pruned_prunes groups layout.tree).nests

pub found_by_depth : (plan : Plan) (t : ℕ) (groups : List (Option ℕ)) (old new : Sheet) (holes : List Hole) (Pre : ℕ → List ℕ → Memory → Type 0)
    → Branches plan old.slots old new holes (group_depth plan.layouts t groups) Pre (λ g s m. Unit {0})
    → Branches plan old.slots old new holes (depth_of plan.layouts (Named t)) Pre (λ g s m. Unit {0})
found_by_depth plan t groups old new holes Pre =
    branches_weaken plan old.slots old.slots old new holes (group_depth plan.layouts t groups) (depth_of plan.layouts (Named t)) Pre Pre (λ g s m. Unit {0}) (λ g s m. Unit {0})
    (omega arith) (group_depth_less plan.layouts t groups) (λ g s m h. h) (λ g s m h. h)

module _ (plan : Plan) (typed : IsTyped plan.program) (agreed : AreAgreed plan.program plan.layouts) (t : ℕ) (words : List Read) (groups : List (Option ℕ)) where
  -- the leaf to which the splits lead
  goes : (layout : Layout) → layout_of plan.layouts t ≡ Some layout → (g : ℕ) (s : List ℕ) (w : World) → IsGood w.memory → (meant : HasGroupMeant plan t groups g words s w.memory)
      → walk_in (pruned_of groups layout.tree) meant.words w.memory ≡ Some g
  goes layout is g s w good meant =
      let is1 : layout_of (flat_layouts plan.program) t ≡ Some layout = ap (λ ls. layout_of ls t) (sym agreed.0) ∙ is in
      let law = lawful plan.program agreed.1 typed in
      let has = meant.has_group.has_leaf in
      let ws = meant.words in
      let k = meant.has_group.leaf in
      let rep = subst (λ ls. Represents plan.program.types ls w.memory has.clean (Named t) has.value ws) agreed.0 has.represents in
      let led = leads plan.program.types (flat_layouts plan.program) w.memory has.clean good law t has.value ws layout is1 rep in
      let l : has.layout ≡ layout = same_Some has.layout layout (sym has.is_layout ∙ is) in
      let leaf : led.0 ≡ k = same_Some led.0 k (sym led.1 ∙ ap (λ (y : Layout). leaf_of y has.value) (sym l) ∙ has.is_leaf) in
      (pruned_prunes groups layout.tree).walks ws w.memory k g (led.2 ∙ ap Some leaf) meant.has_group.is_group

  -- the words are of the type's widths
  small : (layout : Layout) → layout_of plan.layouts t ≡ Some layout → (g : ℕ) (s : List ℕ) (w : World) → IsGood w.memory → (meant : HasGroupMeant plan t groups g words s w.memory) → AreSmall layout.shape meant.words
  small layout is g s w good meant =
      let is1 : layout_of (flat_layouts plan.program) t ≡ Some layout = ap (λ ls. layout_of ls t) (sym agreed.0) ∙ is in
      let has = meant.has_group.has_leaf in
      words_small plan.program typed agreed.1 t layout is1 w.memory has.clean has.value meant.words
      (subst (λ ls. Represents plan.program.types ls w.memory has.clean (Named t) has.value meant.words) agreed.0 has.represents)

  -- what looks by the pruned tree finds the group
  group_branches : (layout : Layout) → layout_of plan.layouts t ≡ Some layout → (tree : FlatTree) → pruned_of groups layout.tree ≡ Some tree → (old new : Sheet) (holes : List Hole) → Looks words layout.shape tree old [] new holes
      → AllFit old.slots words → length words ≡ word_count plan.layouts (Named t)
      → Branches plan old.slots old new holes (group_depth plan.layouts t groups) (λ g s m. HasGroupMeant plan t groups g words s m) (λ g s m. Unit {0})
  group_branches layout is tree left old new holes looks all count =
      let is1 : layout_of (flat_layouts plan.program) t ≡ Some layout = ap (λ ls. layout_of ls t) (sym agreed.0) ∙ is in
      let n : length words ≡ length layout.shape = count ∙ ap shape_length is in
      let fits : TreeFits (length words) tree = subst (λ k. TreeFits k tree) (sym n) (pruned_fits groups layout.tree tree left (length layout.shape) (tree_fits plan.program typed agreed.1 t layout is1)) in
      let deep : nesting tree ≡ group_depth plan.layouts t groups = sym (ap nesting_in left) ∙ ap (group_depth_in groups) (sym is) in
      record {
        adds = looks.adds plan old.slots (omega arith) all fits;
        low = omega arith;
        leaves = λ final callee next steps finishes s w g long good meant.
            let to : walk tree meant.words w.memory ≡ Some g = subst (λ o. walk_in o meant.words w.memory ≡ Some g) left (goes layout is g s w good meant) in
            let r = looks.runs plan final callee next old.slots new.slots steps all (omega arith) (omega arith) fits (λ h i. absurd (nothing h i)) finishes s w g meant.words long good meant.are_meant (small layout is g s w good meant) to in
            record {
              hole = r.hole;
              is_hole = r.is_hole;
              is_way = r.is_way;
              target = r.target;
              is_target = r.is_target;
              slots = r.slots;
              world = r.world;
              runs = r.runs;
              keeps = r.keeps;
              later = record { memory = r.later.memory; left = r.later.left; switches = let x = r.later.switches in omega (arith, x, deep) };
              exit = tt;
            };
      }

  -- where no leaf has a group there is nothing to find
  pub empty_branches : (old : Sheet) → ((g : ℕ) (s : List ℕ) (w : World) → IsGood w.memory → HasGroupMeant plan t groups g words s w.memory → ⊥)
      → Branches plan old.slots old old [] (group_depth plan.layouts t groups) (λ g s m. HasGroupMeant plan t groups g words s m) (λ g s m. Unit {0})
  empty_branches old none = record {
    adds = Adds-refl plan old;
    low = omega arith;
    leaves = λ final callee next steps finishes s w g long good has. absurd (none g s w good has);
  }

module _ (agreed : LaidOut) (typed : IsTyped agreed.covered.program) (flat : agreed.layouts ≡ flat_layouts agreed.covered.program) (agrees : Agrees agreed.covered.program) (t : ℕ) (groups : List (Option ℕ)) (words : List Read) (old : Sheet) where
  module _ (layout : Layout) (is : layout_of agreed.layouts t ≡ Some layout) where
    pub no_group : pruned_of groups layout.tree ≡ None → FindsGroupOf agreed t groups words old old []
    no_group none plan of all count =
        let p = of_plan agreed typed flat agrees t plan of in
        empty_branches plan p.0 p.1 t words groups old
        (λ g s w good has. let z = sym (ap (λ o. walk_in o has.words w.memory) none) ∙ goes plan p.0 p.1 t words groups layout (ap (λ ls. layout_of ls t) of.layouts ∙ is) g s w good has in cc)

    module _ (tree : FlatTree) (left : pruned_of groups layout.tree ≡ Some tree) (new : Sheet) (holes : List Hole) (looks : Looks words layout.shape tree old [] new holes) where
      pub finds_group : FindsGroupOf agreed t groups words old new holes
      finds_group plan of all count =
          let p = of_plan agreed typed flat agrees t plan of in
          group_branches plan p.0 p.1 t words groups layout (ap (λ ls. layout_of ls t) of.layouts ∙ is) tree left old new holes looks all count

      pub group_holes : (count : ℕ) → GroupsBelow count groups → AreHoles (length old.code) count new.code holes
      group_holes count below = are_holes (length old.code) count new.code holes (λ h i. (
        elim (looks.more.new h i) [ inl j ↦ absurd (nothing h j) | inr r ↦ r.0 ],
        elim (looks.leaves count (pruned_below groups layout.tree tree left count below) h i) [ inl j ↦ absurd (nothing h j) | inr r ↦ r ],
      ))

      pub group_ways : AreOfOneWay holes
      group_ways = looks.ways (λ h i. absurd (nothing h i)) (λ h k i. absurd (nothing h i))

-- from words in slots
pub group_slots : (agreed : LaidOut) (t : ℕ) (groups : List (Option ℕ)) (words : List ℕ) (old new : Sheet) (holes : List Hole) → FindsGroupOf agreed t groups (map (λ x. Slot x) words) old new holes → FindsGroup agreed t groups words old new holes
group_slots agreed t groups words old new holes finds plan of all count =
    let b = finds plan of (slots_fit old.slots words all) (length-map words (λ x. Slot x) ∙ count) in
    record {
      adds = b.adds;
      low = b.low;
      leaves = λ final callee next law finishes s w k long good has.
          b.leaves final callee next law finishes s w k long good (record { words = slots_at s words; are_meant = slots_meant s w.memory words; has_group = has });
    }
