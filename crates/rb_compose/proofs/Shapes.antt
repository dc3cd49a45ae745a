-- The words of leaves are short.
use Rattle.std.proofs.Common.{◌≡◌, ℕ, ◌<◌, ◌≤◌, ◌&&◌, length, Option, Some, None, sym, ap, ◌∙◌, arith}
use Rattle.std.specs.Prelude.{slice_get, nat_lt}
use Rattle.std.specs.List.{list_all}
use Rattle.std.proofs.lemmas.Bool.{and_parts}
use Rattle.std.proofs.lemmas.Bool.Decides.{nat_tests}
use Rattle.std.proofs.lemmas.Option.{same_Some}
use Rattle.rb_core.specs.declared.layout_decl.LayoutDecl.{LayoutDecl}
use Rattle.rb_core.specs.declared.program.Program.{Program}
use Rattle.rb_core.specs.Layouts.{provenances, is_short_layout}
use Rattle.rb_core.specs.TypedPrograms.{IsTyped}
use Rattle.rb_core.specs.WellNumbered.{layout_is_numbered, provenance_is_numbered, is_between}
use Rattle.rb_core.proofs.MatchingLemmas.{all_at}
use Rattle.rb_layout.specs.declared.layout.FlatWord.{FlatWord}
use Rattle.rb_layout.specs.declared.layout.Layout.{Layout}
use Rattle.rb_layout.specs.declared.layout.Leaf.{Leaf}
use Rattle.rb_layout.specs.A1.{A1, HasShape}
use Rattle.rb_layout.specs.Agreement.{Agrees}
use Rattle.rb_layout.specs.Flattening.{decl_of, flat_layouts}
use Rattle.rb_layout.specs.Positions.{layout_of}
use Rattle.rb_rel.proofs.Declared.{declared, decl_at}
use Rattle.rb_rel.proofs.Lists.{get-mapped}

-- a word of a shape has at most 64 bits
shape_short : (p : Program) → IsTyped p → A1 p → (t : ℕ) (d : LayoutDecl) → decl_of p.layouts t ≡ Some d → (j w : ℕ) → slice_get d.shape j ≡ Some w → w ≤ 64
shape_short p typed a1 t d is j w e =
    let at = decl_at p.layouts t d is in
    let a = all_at (layout_is_numbered p.types) p.layouts at.0 d typed.numbered.layouts at.1 in
    let b = and_parts (nat_lt d.ty (length p.types)) (is_between 1 8 (length d.shape) && (list_all (provenance_is_numbered p.types) (provenances d.tree) && is_short_layout d.tree)) a in
    let lt : d.ty < length p.types = (let h = b.0 in grind (arith, nat_tests, h)) in
    let here : t < length p.types = omega (arith, lt, at.2) in
    low (decl_of p.layouts t) is (a1 t here)
  where
    low : (o : Option LayoutDecl) → o ≡ Some d → HasShape o → w ≤ 64
    low None same h = absurd cc
    low (Some x) same h = (h j w (ap (λ (y : LayoutDecl). slice_get y.shape j) (same_Some x d same) ∙ e)).1

-- a root word has at most 64 bits
pub root_short : (p : Program) → IsTyped p → Agrees p → (t : ℕ) (layout : Layout) (n : ℕ) (leaf : Leaf) → layout_of (flat_layouts p) t ≡ Some layout → slice_get layout.leaves n ≡ Some leaf
    → (j : ℕ) (f : FlatWord) → slice_get leaf.root j ≡ Some f → f.width ≤ 64
root_short p typed agrees t layout n leaf is at j f e =
    let d = declared p agrees.a1 t layout is in
    let w : slice_get d.decl.shape j ≡ Some f.width = ap (λ xs. slice_get xs j) (sym (agrees.a2 t layout n leaf is at ∙ ap (λ (y : Layout). y.shape) d.is_flat)) ∙ get-mapped (λ (g : FlatWord). g.width) leaf.root j f e in
    shape_short p typed agrees.a1 t d.decl d.is_declared j f.width w
