-- What is known of the leaves of layouts that agree.
use Rattle.std.proofs.Common.{◌≡◌, ℕ, ◌<◌, ◌≤◌, ◌&&◌, nat_lt, nat_le, length, true, Option, Some, None, sym, ap, ◌∙◌, arith}
use Rattle.std.specs.Prelude.{slice_get}
use Rattle.std.specs.List.{list_all}
use Rattle.std.proofs.lemmas.Bool.{and_parts}
use Rattle.std.proofs.lemmas.Grind.{common_steps}
use Rattle.std.proofs.lemmas.Option.{same_Some}
use Rattle.rb_core.specs.declared.layout_decl.LayoutDecl.{LayoutDecl}
use Rattle.rb_core.specs.declared.program.Program.{Program}
use Rattle.rb_core.specs.declared.types.Ty.TheVariants.{Named}
use Rattle.rb_core.specs.Layouts.{provenances, is_short_layout}
use Rattle.rb_core.specs.TypedPrograms.{IsTyped}
use Rattle.rb_core.specs.WellNumbered.{is_between, layout_is_numbered, provenance_is_numbered}
use Rattle.rb_core.proofs.MatchingLemmas.{all_at}
use Rattle.rb_layout.specs.declared.layout.Layout.{Layout}
use Rattle.rb_layout.specs.declared.layout.Leaf.{Leaf}
use Rattle.rb_layout.specs.A1.{HasShape}
use Rattle.rb_layout.specs.Agreement.{Agrees}
use Rattle.rb_layout.specs.Flattening.{decl_of, flat_layouts}
use Rattle.rb_layout.specs.Positions.{layout_of, open_positions, opens_of}
use Rattle.rb_layout.specs.Readable.{IsReadable}
use Rattle.rb_layout.proofs.Readable.{readable}
use Rattle.rb_rel.proofs.Agreeing.{lawful}
use Rattle.rb_rel.proofs.Declared.{declared, decl_at}

le_is : (a b : ℕ) → nat_le a b ≡ true → a ≤ b
le_is a b e = grind (arith, common_steps)

lt_is : (a b : ℕ) → nat_lt a b ≡ true → a < b
lt_is a b e = grind (arith, common_steps)

module _ (p : Program) (typed : IsTyped p) (agrees : Agrees p) (t : ℕ) (layout : Layout) (is : layout_of (flat_layouts p) t ≡ Some layout) where
  low : (d : LayoutDecl) (o : Option LayoutDecl) → o ≡ Some d → HasShape o → (j w : ℕ) → slice_get d.shape j ≡ Some w → w ≤ 64
  low d None same h j w e = absurd cc
  low d (Some x) same h j w e = (h j w (ap (λ (y : LayoutDecl). slice_get y.shape j) (same_Some x d same) ∙ e)).1

  abbrev the_decl : LayoutDecl
  the_decl = (declared p agrees.a1 t layout is).decl

  is_declared : decl_of p.layouts t ≡ Some the_decl
  is_declared = (declared p agrees.a1 t layout is).is_declared

  same_shape : layout.shape ≡ the_decl.shape
  same_shape = ap (λ (y : Layout). y.shape) (declared p agrees.a1 t layout is).is_flat

  numbered : layout_is_numbered p.types the_decl ≡ true
  numbered = let at = decl_at p.layouts t the_decl is_declared in all_at (layout_is_numbered p.types) p.layouts at.0 the_decl typed.numbered.layouts at.1

  named : (nat_lt the_decl.ty (length p.types) ≡ true) × ((is_between 1 8 (length the_decl.shape) && (list_all (provenance_is_numbered p.types) (provenances the_decl.tree) && is_short_layout the_decl.tree)) ≡ true)
  named = and_parts (nat_lt the_decl.ty (length p.types)) (is_between 1 8 (length the_decl.shape) && (list_all (provenance_is_numbered p.types) (provenances the_decl.tree) && is_short_layout the_decl.tree)) numbered

  short : (j w : ℕ) → slice_get layout.shape j ≡ Some w → w ≤ 64
  short j w e =
      let at = decl_at p.layouts t the_decl is_declared in
      let lt = lt_is the_decl.ty (length p.types) named.0 in
      let here : t < length p.types = omega (arith, lt, at.2) in
      low the_decl (decl_of p.layouts t) is_declared (agrees.a1 t here) j w (ap (λ xs. slice_get xs j) (sym same_shape) ∙ e)

  few : length layout.shape ≤ 64
  few =
      let b = and_parts (is_between 1 8 (length the_decl.shape)) (list_all (provenance_is_numbered p.types) (provenances the_decl.tree) && is_short_layout the_decl.tree) named.1 in
      let le = le_is (length the_decl.shape) 8 (and_parts (nat_le 1 (length the_decl.shape)) (nat_le (length the_decl.shape) 8) b.0).1 in
      let same = ap length same_shape in
      omega (arith, le, same)

  -- its words are few and short
  pub readable_leaf : (n : ℕ) (leaf : Leaf) → slice_get layout.leaves n ≡ Some leaf → IsReadable leaf
  readable_leaf n leaf at = readable layout.shape leaf few short (agrees.a2 t layout n leaf is at) (agrees.a4 t layout n leaf is at)

  -- its provenance is of the type
  pub opens_at : (n : ℕ) (leaf : Leaf) → slice_get layout.leaves n ≡ Some leaf → open_positions p.types leaf.prov ≡ opens_of p.types leaf.prov (Named t)
  opens_at n leaf at = ap (opens_of p.types leaf.prov) ((lawful p agrees typed).provenances.root t layout n leaf is at)

  -- and it has words
  pub some_words : 1 ≤ length layout.shape
  some_words =
      let b = and_parts (is_between 1 8 (length the_decl.shape)) (list_all (provenance_is_numbered p.types) (provenances the_decl.tree) && is_short_layout the_decl.tree) named.1 in
      let le = le_is 1 (length the_decl.shape) (and_parts (nat_le 1 (length the_decl.shape)) (nat_le (length the_decl.shape) 8) b.0).0 in
      let same = ap length same_shape in
      omega (arith, le, same)
