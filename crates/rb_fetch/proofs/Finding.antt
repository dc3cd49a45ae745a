-- From a represented value: its leaf is found.
use Rattle.std.proofs.Common.{◌≡◌, inl, inr, ℕ, ◌<◌, ◌≤◌, ◌^◌, zero, suc, List, [], ◌∷◌, map, length, Bool, Some, None, refl, sym, subst, ap, ◌∙◌, arith}
use Rattle.std.specs.Prelude.{slice_get}
use Rattle.std.proofs.lemmas.List.{length-map}
use Rattle.std.proofs.lemmas.Option.{same_Some, slice_get_within}
use Rattle.std.proofs.Math.Pow.{pow_mono}
use Rattle.rb_bytes.specs.Memory.{Memory}
use Rattle.rb_core.specs.declared.types.Ty.TheVariants.{Named}
use Rattle.rb_core.specs.declared.value.Value.{Value}
use Rattle.rb_core.specs.declared.layout_decl.Loc.{Loc}
use Rattle.rb_core.specs.declared.layout_decl.Step.{Step}
use Rattle.rb_core.specs.declared.program.Program.{Program}
use Rattle.rb_core.specs.Layouts.{leaves}
use Rattle.rb_core.specs.TypedPrograms.{IsTyped}
use Rattle.rb_target.specs.declared.body.Hole.{Hole}
use Rattle.rb_target.specs.declared.instr.Instr.{Instr}
use Rattle.rb_target.specs.Targets.{IsHoleAmong}
use Rattle.rb_target.specs.Meaning.{slots_at}
use Rattle.rb_target.specs.Sheet.{Sheet}
use Rattle.rb_layout.specs.declared.agreed.LaidOut.{LaidOut}
use Rattle.rb_layout.specs.declared.layout.Layout.{Layout}
use Rattle.rb_layout.specs.declared.layout.Leaf.{Leaf}
use Rattle.rb_layout.specs.declared.layout.FlatWord.{FlatWord}
use Rattle.rb_layout.specs.A2.{widths_of}
use Rattle.rb_layout.specs.A7.{MeetsTest, Resolves}
use Rattle.rb_layout.specs.A8.{last_length, length_of}
use Rattle.rb_layout.specs.Agreement.{Agrees, AreAgreed}
use Rattle.rb_layout.specs.Flattening.{flat_leaf, flat_layouts}
use Rattle.rb_layout.specs.Positions.{leaf_of, layout_of}
use Rattle.rb_layout.specs.Splits.{Test, Is, IsNone, Route, routes_of, SplitAt, splits_of}
use Rattle.rb_layout.proofs.TreeLemmas.{count-is}
use Rattle.rb_rel.specs.Relation.{word_count, shape_length, Represents}
use Rattle.rb_rel.specs.Reading.{walk}
use Rattle.rb_rel.specs.Switches.{nesting, depth_in, depth_of}
use Rattle.rb_rel.proofs.Agreeing.{lawful}
use Rattle.rb_rel.proofs.Declared.{declared}
use Rattle.rb_rel.proofs.Leading.{leads}
use Rattle.rb_rel.proofs.Lists.{got}
use Rattle.rb_rel.proofs.Represented.{opened}
use Rattle.rb_fragment.specs.declared.reads.Read.{Read, Slot}
use Rattle.rb_fragment.specs.Plan.{Plan}
use Rattle.rb_fragment.specs.Arms.{AreHoles, AreOfOneWay}
use Rattle.rb_fragment.specs.Pieces.{GoesOutBy, Branches}
use Rattle.rb_fragment.specs.WordReads.{AllFit}
use Rattle.rb_fragment.proofs.MakingAll.{slots_fit, slots_meant}
use Rattle.rb_fragment.proofs.Adding.{Adds-refl}
use Rattle.rb_fetch.specs.Fetching.{StepsFit, LocFits}
use Rattle.rb_fetch.specs.inner.Fetching.{AreSmall}
use Rattle.rb_fetch.specs.Finding.{HasLeafMeant, IsPlanOf, FindsLeaf, FindsLeafOf, layout_leaf_count, leaf_count}
use Rattle.rb_fetch.specs.inner.Looking.{TreeFits, LeavesBelow, IsLeafHole, Looks}
use Rattle.rb_fetch.proofs.Fitting.{readable_leaf, resolved_fits, root_widths}
use Rattle.rb_fetch.proofs.Numbers.{loc_of, counted, stands}

-- no hole is one of none
pub nothing : (h : Hole) → IsHoleAmong h [] → ⊥
nothing h i = absurd (let e = i.1 in cc)

-- hole by hole
pub are_holes : (from count : ℕ) (code : List Instr) (hs : List Hole) → ((h : Hole) → IsHoleAmong h hs → (from ≤ h.pc) × IsLeafHole count code h) → AreHoles from count code hs
are_holes from count code [] f = tt
are_holes from count code (h ∷ hs) f = let x = f h (0, refl) in (x.0, x.1.0, x.1.1, are_holes from count code hs (λ k i. f k (suc i.0, i.1)))

last_low : (steps : List Step) (o l : ℕ) → StepsFit o l steps → last_length l steps ≤ 64
last_low [] o l h = omega (arith, h.1)
last_low (s ∷ steps) o l h = last_low steps s.o s.l h.3

-- what a test asks of a leaf: its location resolves there
meets_loc : (p : Program) (leaf : Leaf) (test : Test) → MeetsTest p.types (flat_layouts p) leaf test → Resolves leaf (loc_of test)
meets_loc p leaf (Is loc c) h = h.0
meets_loc p leaf (IsNone loc cs) h = h.0

width_at : (fs : List FlatWord) (j width : ℕ) → slice_get (widths_of fs) j ≡ Some width → (f : FlatWord) × (slice_get fs j ≡ Some f) × (f.width ≡ width)
width_at [] j width e = absurd cc
width_at (f ∷ fs) zero width e = (f, refl, same_Some f.width width e)
width_at (f ∷ fs) (suc j) width e = width_at fs j width e

-- the words of a represented value are of the widths of its type's words
pub words_small : (p : Program) → IsTyped p → Agrees p → (t : ℕ) (layout : Layout) → layout_of (flat_layouts p) t ≡ Some layout
    → (m : Memory) (clean : Bool) (v : Value) (ws : List ℕ) → Represents p.types (flat_layouts p) m clean (Named t) v ws → AreSmall layout.shape ws
words_small p typed agrees t layout is m clean v ws rep j width w at there =
    let b = (opened p.types (flat_layouts p) m clean rep).made in
    let same : b.layout ≡ layout = same_Some b.layout layout (sym b.is_layout ∙ is) in
    let widths = root_widths p typed agrees t layout b.number b.leaf is (ap (λ (y : Layout). slice_get y.leaves b.number) (sym same) ∙ b.is_number) in
    let f = width_at b.leaf.root j width (ap (λ xs. slice_get xs j) widths ∙ at) in
    let x = b.placed.words (record { block = None; word = j }) f.0 f.1 in
    let is_w : x.0 ≡ w = same_Some x.0 w (sym x.1 ∙ there) in
    subst (λ k. k < 2 ^ width) is_w (subst (λ n. x.0 < 2 ^ n) f.2 x.2.fits)

-- the splits of layouts that agree can be done by instructions
module _ (p : Program) (typed : IsTyped p) (agrees : Agrees p) (t : ℕ) (layout : Layout) (is : layout_of (flat_layouts p) t ≡ Some layout) where
  abbrev Word : ℕ → Loc → Type 0
  Word n loc = LocFits loc × (loc.word < n)

  -- a route leads to a leaf
  route_leaf : (k : ℕ) (r : Route) → slice_get (routes_of layout.tree) k ≡ Some r → (leaf : Leaf) × (slice_get layout.leaves r.leaf ≡ Some leaf)
  route_leaf k r e =
      let d = declared p agrees.a1 t layout is in
      let w = counted d.decl.tree 0 k r (ap (λ (l : Layout). slice_get (routes_of l.tree) k) (sym d.is_flat) ∙ e) in
      let c = count-is d.decl.tree in
      let n : length layout.leaves ≡ length (leaves d.decl.tree) = ap (λ (l : Layout). length l.leaves) d.is_flat ∙ length-map (leaves d.decl.tree) (flat_leaf p.types p.layouts) in
      got layout.leaves r.leaf (omega (arith, w.1, c, n))

  split_fits : (k : ℕ) (s : SplitAt) → slice_get (splits_of layout.tree) k ≡ Some s → Word (length layout.shape) s.loc
  split_fits k s e =
      let a = stands layout.tree (λ j q h. (agrees.a8 t layout is j q h).arm) k s e in
      let l = route_leaf a.number a.route a.is_route in
      let m = agrees.a7 t layout a.route.leaf l.0 is l.1 a.test (record { route_number = a.number; route = a.route; number = a.at; is_route = a.is_route; leads = refl; is_test = a.is_test }) in
      let x = subst (λ loc. Resolves l.0 loc) a.is_loc (meets_loc p l.0 a.test m) in
      let f = resolved_fits l.0 (readable_leaf p typed agrees t layout a.route.leaf l.0 is l.1) s.loc x.0 x.1 in
      let n : length l.0.root ≡ length layout.shape = sym (length-map l.0.root (λ (g : FlatWord). g.width)) ∙ ap length (root_widths p typed agrees t layout a.route.leaf l.0 is l.1) in
      (f.0, omega (arith, f.1, n))

  -- the leaves of the tree are the layout's
  pub leaves_below : LeavesBelow (length layout.leaves) layout.tree
  leaves_below k r e = let l = route_leaf k r e in slice_get_within layout.leaves r.leaf l.0 l.1

  pub tree_fits : TreeFits (length layout.shape) layout.tree
  tree_fits k s e =
      let f = split_fits k s e in
      record {
        loc = f.0;
        word = f.1;
        small = λ j c h.
            let lt = (agrees.a8 t layout is k s e).fit j c h in
            let low : 2 ^ length_of s.loc ≤ 2 ^ 64 = pow_mono (last_low s.loc.steps s.loc.o s.loc.l f.0) in
            omega (arith, lt, low);
      }

module _ (plan : Plan) (typed : IsTyped plan.program) (agreed : AreAgreed plan.program plan.layouts) (t : ℕ) (words : List Read) where
  -- what looks finds the leaf
  pub branches : (layout : Layout) → layout_of plan.layouts t ≡ Some layout → (old new : Sheet) (holes : List Hole) → Looks words layout.shape layout.tree old [] new holes
      → AllFit old.slots words → length words ≡ word_count plan.layouts (Named t)
      → Branches plan old.slots old new holes (depth_of plan.layouts (Named t)) (λ n s m. HasLeafMeant plan t n words s m) (λ n s m. Unit {0})
  branches layout is old new holes looks all count =
      let is1 : layout_of (flat_layouts plan.program) t ≡ Some layout = ap (λ ls. layout_of ls t) (sym agreed.0) ∙ is in
      let n : length words ≡ length layout.shape = count ∙ ap shape_length is in
      let fits : TreeFits (length words) layout.tree = subst (λ k. TreeFits k layout.tree) (sym n) (tree_fits plan.program typed agreed.1 t layout is1) in
      let deep : nesting layout.tree ≡ depth_of plan.layouts (Named t) = ap depth_in (sym is) in
      let law = lawful plan.program agreed.1 typed in
      record {
        adds = looks.adds plan old.slots (omega arith) all fits;
        low = omega arith;
        leaves = λ final callee next steps finishes s w k long good meant.
            let has = meant.has_leaf in
            let ws = meant.words in
            let rep = subst (λ ls. Represents plan.program.types ls w.memory has.clean (Named t) has.value ws) agreed.0 has.represents in
            let led = leads plan.program.types (flat_layouts plan.program) w.memory has.clean good law t has.value ws layout is1 rep in
            let l : has.layout ≡ layout = same_Some has.layout layout (sym has.is_layout ∙ is) in
            let leaf : led.0 ≡ k = same_Some led.0 k (sym led.1 ∙ ap (λ (y : Layout). leaf_of y has.value) (sym l) ∙ has.is_leaf) in
            let goes : walk layout.tree ws w.memory ≡ Some k = led.2 ∙ ap Some leaf in
            subst (λ most. GoesOutBy final next holes old.slots most (length old.code) s w k (λ s' m. Unit {0})) deep
            (looks.runs plan final callee next old.slots new.slots steps all (omega arith) (omega arith) fits (λ h i. absurd (nothing h i)) finishes s w k ws long good meant.are_meant (words_small plan.program typed agreed.1 t layout is1 w.memory has.clean has.value ws rep) goes);
      }

  -- a type without a layout has no values
  pub no_branches : layout_of plan.layouts t ≡ None → (old : Sheet) → Branches plan old.slots old old [] (depth_of plan.layouts (Named t)) (λ n s m. HasLeafMeant plan t n words s m) (λ n s m. Unit {0})
  no_branches none old = record {
    adds = Adds-refl plan old;
    low = omega arith;
    leaves = λ final callee next steps finishes s w k long good has. absurd (let z = sym has.has_leaf.is_layout ∙ none in cc);
  }

-- the plan of an agreed program is sound
module _ (agreed : LaidOut) (typed : IsTyped agreed.covered.program) (flat : agreed.layouts ≡ flat_layouts agreed.covered.program) (agrees : Agrees agreed.covered.program) (t : ℕ) where
  pub of_plan : (plan : Plan) → IsPlanOf agreed plan → IsTyped plan.program × AreAgreed plan.program plan.layouts
  of_plan plan of =
      (subst IsTyped (sym of.program) typed, (of.layouts ∙ flat ∙ ap flat_layouts (sym of.program), subst Agrees (sym of.program) agrees))

  module _ (words : List Read) (old : Sheet) where
    pub finds_none : layout_of agreed.layouts t ≡ None → FindsLeafOf agreed t words old old []
    finds_none none plan of all count =
        let p = of_plan plan of in no_branches plan p.0 p.1 t words (ap (λ ls. layout_of ls t) of.layouts ∙ none) old

    module _ (layout : Layout) (is : layout_of agreed.layouts t ≡ Some layout) (new : Sheet) (holes : List Hole) (looks : Looks words layout.shape layout.tree old [] new holes) where
      pub finds : FindsLeafOf agreed t words old new holes
      finds plan of all count =
          let p = of_plan plan of in branches plan p.0 p.1 t words layout (ap (λ ls. layout_of ls t) of.layouts ∙ is) old new holes looks all count

      -- its holes are of the layout's leaves
      pub finds_holes : AreHoles (length old.code) (leaf_count agreed t) new.code holes
      finds_holes =
          let is1 : layout_of (flat_layouts agreed.covered.program) t ≡ Some layout = ap (λ ls. layout_of ls t) (sym flat) ∙ is in
          let below = leaves_below agreed.covered.program typed agrees t layout is1 in
          subst (λ n. AreHoles (length old.code) n new.code holes) (ap layout_leaf_count (sym is)) (are_holes (length old.code) (length layout.leaves) new.code holes
          (λ h i. (
            elim (looks.more.new h i) [ inl j ↦ absurd (nothing h j) | inr r ↦ r.0 ],
            elim (looks.leaves (length layout.leaves) below h i) [ inl j ↦ absurd (nothing h j) | inr r ↦ r ],
          )))

      pub finds_ways : AreOfOneWay holes
      finds_ways = looks.ways (λ h i. absurd (nothing h i)) (λ h k i. absurd (nothing h i))

-- from words in slots
pub finds_slots : (agreed : LaidOut) (t : ℕ) (words : List ℕ) (old new : Sheet) (holes : List Hole) → FindsLeafOf agreed t (map (λ x. Slot x) words) old new holes → FindsLeaf agreed t words old new holes
finds_slots agreed t words old new holes finds plan of all count =
    let b = finds plan of (slots_fit old.slots words all) (length-map words (λ x. Slot x) ∙ count) in
    record {
      adds = b.adds;
      low = b.low;
      leaves = λ final callee next law finishes s w k long good has.
          b.leaves final callee next law finishes s w k long good (record { words = slots_at s words; are_meant = slots_meant s w.memory words; has_leaf = has });
    }
