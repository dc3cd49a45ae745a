-- The flat layouts of a program are those of its layouts, type by type.
use Rattle.std.proofs.Common.{◌≡◌, ℕ, zero, suc, ◌+◌, ◌<◌, ◌==◌, length, List, [], ◌∷◌, ◌++◌, Bool, true, false, Option, Some, None, refl, sym, ap, ◌∙◌, arith}
use Rattle.std.specs.Prelude.{slice_get, if◌then◌else◌}
use Rattle.std.proofs.lemmas.Option.{same_Some}
use Rattle.rb_core.specs.declared.types.DataDecl.{DataDecl}
use Rattle.rb_core.specs.declared.program.Program.{Program}
use Rattle.rb_core.specs.declared.layout_decl.LayoutDecl.{LayoutDecl}
use Rattle.rb_layout.specs.declared.layout.Layout.{Layout}
use Rattle.rb_layout.specs.Positions.{layout_of}
use Rattle.rb_layout.specs.Flattening.{decl_of, flat_layout, flat_or_none, flat_from, flat_layouts}
use Rattle.rb_layout.specs.A1.{A1, HasShape}
use Rattle.rb_rel.proofs.Reading.{same_nat}

-- the layout that is declared for a type is one of the program's
pub decl_at : (ds : List LayoutDecl) (t : ℕ) (d : LayoutDecl) → decl_of ds t ≡ Some d → (k : ℕ) × (slice_get ds k ≡ Some d) × (d.ty ≡ t)
decl_at [] t d = λ e. absurd cc
decl_at (x ∷ ds) t d =
    let P : Bool → Type 0 = λ b. (x.ty == t) ≡ b → (if b then Some x else decl_of ds t) ≡ Some d → (k : ℕ) × (slice_get (x ∷ ds) k ≡ Some d) × (d.ty ≡ t) in
    (elim (x.ty == t) as P [
      | true ↦ λ is e. (0, e, ap (λ (y : LayoutDecl). y.ty) (sym (same_Some x d e)) ∙ same_nat x.ty t is)
      | false ↦ λ is e. let r = decl_at ds t d e in (suc r.0, r.1, r.2)
    ]) refl

module _ (p : Program) where
  some_decl : (o : Option LayoutDecl) → HasShape o → (d : LayoutDecl) × (o ≡ Some d)
  some_decl None h = absurd h
  some_decl (Some d) h = (d, refl)

  abbrev Found : ℕ → List Layout → Type 0
  Found t ls = (k : ℕ) (layout : Layout) → slice_get ls k ≡ Some layout → (d : LayoutDecl) × (decl_of p.layouts (t + k) ≡ Some d) × (layout ≡ flat_layout p d)

  behind : (t : ℕ) (d : LayoutDecl) → decl_of p.layouts t ≡ Some d → (ls : List Layout) (layout : Layout) → Found (t + 1) ls
      → (k : ℕ) → slice_get (flat_layout p d ∷ ls) k ≡ Some layout → (d : LayoutDecl) × (decl_of p.layouts (t + k) ≡ Some d) × (layout ≡ flat_layout p d)
  behind t d is ls layout rest zero h = let z : t + 0 ≡ t = omega arith in (d, ap (decl_of p.layouts) z ∙ is, sym (same_Some _ _ h))
  behind t d is ls layout rest (suc k) h =
      let r = rest k layout h in
      let shift : t + suc k ≡ t + 1 + k = omega arith in (r.0, ap (decl_of p.layouts) shift ∙ r.1, r.2)

  flat_at : (ds : List DataDecl) (t : ℕ) → ((k : ℕ) → k < length ds → (d : LayoutDecl) × (decl_of p.layouts (t + k) ≡ Some d))
      → (k : ℕ) (layout : Layout) → slice_get (flat_from p ds t) k ≡ Some layout → (d : LayoutDecl) × (decl_of p.layouts (t + k) ≡ Some d) × (layout ≡ flat_layout p d)
  flat_at [] t some k layout e = absurd cc
  flat_at (x ∷ ds) t some k layout e =
      let s = some 0 (omega arith) in
      let z : t + 0 ≡ t = omega arith in
      let here : decl_of p.layouts t ≡ Some s.0 = ap (decl_of p.layouts) (sym z) ∙ s.1 in
      let e' : slice_get (flat_layout p s.0 ∷ flat_from p ds (t + 1)) k ≡ Some layout = ap (λ o. slice_get (flat_or_none p o ++ flat_from p ds (t + 1)) k) (sym here) ∙ e in
      behind t s.0 here (flat_from p ds (t + 1)) layout
      (flat_at ds (t + 1) (λ j lt. let q = some (suc j) (omega (arith, lt)) in let shift : t + 1 + j ≡ t + suc j = omega arith in (q.0, ap (decl_of p.layouts) shift ∙ q.1))) k e'

  pub record Declared (t : ℕ) (layout : Layout) : Type 0 where
    pub decl : LayoutDecl
    pub is_declared : decl_of p.layouts t ≡ Some decl
    pub is_flat : layout ≡ flat_layout p decl

  pub declared : A1 p → (t : ℕ) (layout : Layout) → layout_of (flat_layouts p) t ≡ Some layout → Declared t layout
  declared a1 t layout e =
      let z : (k : ℕ) → 0 + k ≡ k = λ k. omega arith in
      let r = flat_at p.types 0 (λ k lt. let s = some_decl (decl_of p.layouts k) (a1 k lt) in (s.0, ap (decl_of p.layouts) (z k) ∙ s.1)) t layout e in
      record { decl = r.0; is_declared = ap (decl_of p.layouts) (sym (z t)) ∙ r.1; is_flat = r.2 }
