-- What is known where layouts are refused: behind the first rule each type has a layout, and at the first
-- rule the text names no leaf.
use Rattle.std.proofs.Common.{◌≡◌, ◌≢◌, ◌<◌, ◌+◌, ◌⊎◌, ℕ, zero, suc, List, [], ◌∷◌, ◌++◌, length, codes, Option, Some, None, inl, inr, refl, sym, ap, subst, ◌∙◌, append_assoc, append-nil, arith}
use Rattle.std.specs.Fmt.{decimal}
use Rattle.std.specs.List.{slice_get}
use Rattle.rb_core.specs.declared.layout_decl.LayoutDecl.{LayoutDecl}
use Rattle.rb_core.specs.declared.program.Program.{Program}
use Rattle.rb_core.specs.declared.types.DataDecl.{DataDecl}
use Rattle.rb_layout.specs.A1.{HasShape, FailsShape}
use Rattle.rb_layout.specs.Flattening.{HaveLayouts, decl_of, flat_layouts}
use Rattle.rb_layout.specs.Spots.{Spot, Shape, Root, Parts, Blocks, Complete, Apart, Held, Tests, Splits, Flattening, NoPointer, Holding, RefusalPlace, place_of_spot, Checked, SpotFails, IsRefusedBy, shape_spots, all_spots}
use Rattle.rb_layout.specs.declared.evidence.Refused.{Refused as Disagreed}
use Rattle.rb_layout.specs.declared.evidence.Why.{Why}
use Rattle.rb_layout.specs.declared.evidence.Why.TheVariants as why
use Rattle.rb_layout.specs.declared.layout.Layout.{Layout}
use Rattle.rb_layout.specs.declared.layout.Leaf.{Leaf}
use Rattle.rb_layout.specs.Positions.{leaves_of_layout}
use Rattle.rb_show.specs.Refusals.{refusal_text, evidence_text, at_leaf, number_of_leaf, name_of}

-- Behind the first rule ---------------------------------------------------------------------

-- a list begins with another
abbrev Begins : List Spot → List Spot → Type 0
Begins front xs = (rest : List Spot) × (xs ≡ front ++ rest)

more : (front xs ys : List Spot) → Begins front xs → Begins front (xs ++ ys)
more front xs ys b = (b.0 ++ ys, ap (λ (zs : List Spot). zs ++ ys) b.1 ∙ append_assoc front b.0 ys)

-- all places begin with those of the first rule
shapes_first : (p : Program) (layouts : List Layout) → Begins (shape_spots p.layouts 0 p.types) (all_spots p layouts)
shapes_first p layouts =
    let shapes = shape_spots p.layouts 0 p.types in
    more shapes _ _ (more shapes _ _ (more shapes _ _ (more shapes _ _ (more shapes _ _ (more shapes _ _ (more shapes _ _ (more shapes _ _ (more shapes _ _
    ([], sym (append-nil shapes))))))))))

module _ (p : Program) (layouts : List Layout) where
  has_shape : (ds : List DataDecl) (t : ℕ) (rest : List Spot) (found : Spot × Why) → ((place_of_spot found.0).rule ≡ 1 → ⊥)
      → Checked p layouts (shape_spots p.layouts t ds ++ rest) (Some found) → (k : ℕ) → k < length ds → HasShape (decl_of p.layouts (t + k))
  has_shape [] t rest found late h k lt = absurd (omega (arith, lt))
  has_shape (d ∷ ds) t rest found late (inl (is, fails)) k lt = absurd (late (ap (λ (s : Spot). (place_of_spot s).rule) is))
  has_shape (d ∷ ds) t rest found late (inr (has, h)) zero lt = let z : t ≡ t + 0 = omega arith in subst (λ n. HasShape (decl_of p.layouts n)) z has
  has_shape (d ∷ ds) t rest found late (inr (has, h)) (suc k) lt =
      let z : (t + 1) + k ≡ t + suc k = omega arith in
      subst (λ n. HasShape (decl_of p.layouts n)) z (has_shape ds (t + 1) rest found late h k (omega (arith, lt)))

  fails_found : (spots : List Spot) (found : Spot × Why) → Checked p layouts spots (Some found) → SpotFails p layouts found.0 found.1
  fails_found [] found h = absurd h
  fails_found (s ∷ ss) found (inl (is, fails)) = subst (λ (x : Spot). SpotFails p layouts x found.1) (sym is) fails
  fails_found (s ∷ ss) found (inr (has, h)) = fails_found ss found h

declared_by : (o : Option LayoutDecl) → HasShape o → (d : LayoutDecl) × (o ≡ Some d)
declared_by None h = absurd h
declared_by (Some d) h = (d, refl)

-- each type has a layout where another rule than the first fails
pub have_layouts : (p : Program) (r : Disagreed) → IsRefusedBy p (flat_layouts p) r → r.rule ≢ 1 → HaveLayouts p
have_layouts p r (spot, h, is) late t lt =
    let rule : r.rule ≡ (place_of_spot spot).rule = ap (λ (x : RefusalPlace). x.rule) is.0 in
    let first = shapes_first p (flat_layouts p) in
    let found = subst (λ (ss : List Spot). Checked p (flat_layouts p) ss (Some (spot, r.why))) first.1 h in
    let z : 0 + t ≡ t = omega arith in
    declared_by (decl_of p.layouts t) (subst (λ n. HasShape (decl_of p.layouts n)) z (has_shape p (flat_layouts p) p.types 0 first.0 (spot, r.why) (λ e. late (rule ∙ e)) found t lt))

-- At the first rule -------------------------------------------------------------------------

-- the evidence does not name a leaf
abbrev IsPlainEvidence : Why → Type 0
IsPlainEvidence w = (types : List DataDecl) (xs ys : List Leaf) (n : ℕ) → evidence_text types xs n w ≡ evidence_text types ys n w

shape_evidence : (o : Option LayoutDecl) (w : Why) → FailsShape o w → IsPlainEvidence w
shape_evidence None why.NoLayout h types xs ys n = refl
shape_evidence None (why.ShapeWidth i width) h types xs ys n = absurd h
shape_evidence None (why.WordCount _ _) h types xs ys n = absurd h
shape_evidence None (why.WordWidth _ _ _) h types xs ys n = absurd h
shape_evidence None (why.Outside _ _ _) h types xs ys n = absurd h
shape_evidence None (why.Overlap _ _ _ _ _) h types xs ys n = absurd h
shape_evidence None (why.ConstWide _ _ _) h types xs ys n = absurd h
shape_evidence None (why.Misfit _ _ _ _) h types xs ys n = absurd h
shape_evidence None (why.BlockWord _) h types xs ys n = absurd h
shape_evidence None (why.BlockWords _) h types xs ys n = absurd h
shape_evidence None (why.Blocks _) h types xs ys n = absurd h
shape_evidence None (why.Align _) h types xs ys n = absurd h
shape_evidence None (why.ShortPointer _) h types xs ys n = absurd h
shape_evidence None (why.Common _) h types xs ys n = absurd h
shape_evidence None (why.NoLeaf _) h types xs ys n = absurd h
shape_evidence None (why.NotHeld _ _) h types xs ys n = absurd h
shape_evidence None (why.HeldTwice _ _) h types xs ys n = absurd h
shape_evidence None (why.NotOpen _) h types xs ys n = absurd h
shape_evidence None (why.Unresolved _) h types xs ys n = absurd h
shape_evidence None (why.NotKnown _ _) h types xs ys n = absurd h
shape_evidence None (why.NotExcluded _ _) h types xs ys n = absurd h
shape_evidence None (why.LiteralWide _ _) h types xs ys n = absurd h
shape_evidence None (why.LiteralTwice _ _) h types xs ys n = absurd h
shape_evidence None (why.NoArm _) h types xs ys n = absurd h
shape_evidence None (why.HasPointer _) h types xs ys n = absurd h
shape_evidence None (why.FlatCycle _) h types xs ys n = absurd h
shape_evidence None (why.HoldCycle _) h types xs ys n = absurd h
shape_evidence (Some d) why.NoLayout h types xs ys n = absurd h
shape_evidence (Some d) (why.ShapeWidth i width) h types xs ys n = refl
shape_evidence (Some d) (why.WordCount _ _) h types xs ys n = absurd h
shape_evidence (Some d) (why.WordWidth _ _ _) h types xs ys n = absurd h
shape_evidence (Some d) (why.Outside _ _ _) h types xs ys n = absurd h
shape_evidence (Some d) (why.Overlap _ _ _ _ _) h types xs ys n = absurd h
shape_evidence (Some d) (why.ConstWide _ _ _) h types xs ys n = absurd h
shape_evidence (Some d) (why.Misfit _ _ _ _) h types xs ys n = absurd h
shape_evidence (Some d) (why.BlockWord _) h types xs ys n = absurd h
shape_evidence (Some d) (why.BlockWords _) h types xs ys n = absurd h
shape_evidence (Some d) (why.Blocks _) h types xs ys n = absurd h
shape_evidence (Some d) (why.Align _) h types xs ys n = absurd h
shape_evidence (Some d) (why.ShortPointer _) h types xs ys n = absurd h
shape_evidence (Some d) (why.Common _) h types xs ys n = absurd h
shape_evidence (Some d) (why.NoLeaf _) h types xs ys n = absurd h
shape_evidence (Some d) (why.NotHeld _ _) h types xs ys n = absurd h
shape_evidence (Some d) (why.HeldTwice _ _) h types xs ys n = absurd h
shape_evidence (Some d) (why.NotOpen _) h types xs ys n = absurd h
shape_evidence (Some d) (why.Unresolved _) h types xs ys n = absurd h
shape_evidence (Some d) (why.NotKnown _ _) h types xs ys n = absurd h
shape_evidence (Some d) (why.NotExcluded _ _) h types xs ys n = absurd h
shape_evidence (Some d) (why.LiteralWide _ _) h types xs ys n = absurd h
shape_evidence (Some d) (why.LiteralTwice _ _) h types xs ys n = absurd h
shape_evidence (Some d) (why.NoArm _) h types xs ys n = absurd h
shape_evidence (Some d) (why.HasPointer _) h types xs ys n = absurd h
shape_evidence (Some d) (why.FlatCycle _) h types xs ys n = absurd h
shape_evidence (Some d) (why.HoldCycle _) h types xs ys n = absurd h

first_evidence : (p : Program) (layouts : List Layout) (spot : Spot) (w : Why) → (place_of_spot spot).rule ≡ 1 → SpotFails p layouts spot w → IsPlainEvidence w
first_evidence p layouts (Shape t decl) w e h = shape_evidence decl w h
first_evidence p layouts (Root t n layout leaf) w e h = absurd (omega (arith, e))
first_evidence p layouts (Parts t n i leaf item) w e h = absurd (omega (arith, e))
first_evidence p layouts (Blocks t n leaf) w e h = absurd (omega (arith, e))
first_evidence p layouts (Complete t layout) w e h = absurd (omega (arith, e))
first_evidence p layouts (Apart t n layout leaf) w e h = absurd (omega (arith, e))
first_evidence p layouts (Held t n leaf) w e h = absurd (omega (arith, e))
first_evidence p layouts (Tests t n layout leaf) w e h = absurd (omega (arith, e))
first_evidence p layouts (Splits t layout) w e h = absurd (omega (arith, e))
first_evidence p layouts (Flattening t) w e h = absurd (omega (arith, e))
first_evidence p layouts (NoPointer t n leaf) w e h = absurd (omega (arith, e))
first_evidence p layouts (Holding t) w e h = absurd (omega (arith, e))

-- the text is the same in any layouts where the first rule fails
pub first_text : (p : Program) (r : Disagreed) → IsRefusedBy p (flat_layouts p) r → r.rule ≡ 1 → (layouts : List Layout)
    → refusal_text p.types layouts r ≡ refusal_text p.types (flat_layouts p) r
first_text p r (spot, h, is) one layouts =
    let rule : (place_of_spot spot).rule ≡ 1 = sym (ap (λ (x : RefusalPlace). x.rule) is.0) ∙ one in
    let same = first_evidence p (flat_layouts p) spot r.why rule (fails_found p (flat_layouts p) (all_spots p (flat_layouts p)) (spot, r.why) h) in
    let xs : List Leaf = leaves_of_layout (slice_get layouts r.ty) in
    let ys : List Leaf = leaves_of_layout (slice_get (flat_layouts p) r.ty) in
    let at : at_leaf p.types xs r.rule (number_of_leaf r.leaf) ≡ at_leaf p.types ys r.rule (number_of_leaf r.leaf) =
    ap (λ k. at_leaf p.types xs k (number_of_leaf r.leaf)) one ∙ ap (λ k. at_leaf p.types ys k (number_of_leaf r.leaf)) (sym one) in
    ap (λ (t : List ℕ). codes "layout of " ++ name_of p.types r.ty ++ codes ": A" ++ decimal r.rule ++ codes ": " ++ t ++ evidence_text p.types xs (number_of_leaf r.leaf) r.why) at
    ∙ ap (λ (t : List ℕ). codes "layout of " ++ name_of p.types r.ty ++ codes ": A" ++ decimal r.rule ++ codes ": "
    ++ at_leaf p.types ys r.rule (number_of_leaf r.leaf) ++ t) (same p.types xs ys (number_of_leaf r.leaf))

is_one : (n : ℕ) → (n ≡ 1) ⊎ (n ≢ 1)
is_one zero = inr (λ e. absurd (omega (arith, e)))
is_one (suc zero) = inl refl
is_one (suc (suc n)) = inr (λ e. absurd (omega (arith, e)))

-- so it is that of the flat layouts, where these are given for the other rules
pub given_text : (p : Program) (r : Disagreed) → IsRefusedBy p (flat_layouts p) r → (layouts : List Layout) → (r.rule ≢ 1 → layouts ≡ flat_layouts p)
    → refusal_text p.types layouts r ≡ refusal_text p.types (flat_layouts p) r
given_text p r refused layouts given = elim (is_one r.rule) [
  | inl one ↦ first_text p r refused one layouts
  | inr late ↦ ap (λ (ls : List Layout). refusal_text p.types ls r) (given late)
]
