-- The flat layouts of a typed program that agree with its types have all that the laws need.
use Rattle.std.proofs.Common.{◌≡◌, ℕ, ◌<◌, length, map, true, Option, Some, None, refl, sym, subst, ap, ◌∙◌, arith}
use Rattle.std.specs.Prelude.{slice_get, ◌&&◌}
use Rattle.std.proofs.lemmas.Option.{slice_get_within}
use Rattle.rb_core.specs.declared.types.Ty.{Ty}
use Rattle.rb_core.specs.declared.types.Ty.TheVariants.{Int, Named}
use Rattle.rb_core.specs.declared.pattern.Pat.{out-Pat}
use Rattle.rb_core.specs.declared.program.Program.{Program}
use Rattle.rb_core.specs.declared.layout_decl.LayoutDecl.{LayoutDecl}
use Rattle.rb_core.specs.Layouts.{WrittenLeaf, leaves, provenances, is_short_layout}
use Rattle.rb_core.specs.TypedPrograms.{IsTyped, layout_fault, provenance_fault, function_fault}
use Rattle.rb_core.specs.WellNumbered.{layout_is_numbered, provenance_is_numbered, pattern_is_numbered, is_provenance, is_between}
use Rattle.rb_core.specs.Layouts.{is_short_layout}
use Rattle.rb_core.proofs.MatchingLemmas.{all_at}
use Rattle.std.specs.Prelude.{nat_lt}
use Rattle.std.specs.List.{list_all}
use Rattle.std.proofs.lemmas.Bool.{and_parts}
use Rattle.rb_layout.specs.declared.layout.Leaf.{Leaf}
use Rattle.rb_layout.specs.declared.layout.Layout.{Layout}
use Rattle.rb_layout.specs.Agreement.{Agrees}
use Rattle.rb_layout.specs.A6 as A6
use Rattle.rb_layout.specs.Positions.{root_type, layout_of}
use Rattle.rb_layout.specs.Splits.{routes_of}
use Rattle.rb_layout.specs.Flattening.{flat_leaf, flat_layouts, shape_in, shape_of}
use Rattle.rb_rel.specs.Relation.{shape_length}
use Rattle.rb_rel.proofs.Lawful.{Lawful, units_of}
use Rattle.rb_rel.specs.Provenances.{fits_type}
use Rattle.rb_rel.proofs.Declared.{Declared, declared, decl_at}
use Rattle.rb_layout.proofs.FlatLaws.{leaves_are_flat}
use Rattle.rb_rel.proofs.Holding.{is_held}
use Rattle.rb_rel.proofs.Lists.{get-map, get-mapped}
use Rattle.rb_rel.proofs.Provenances.{typed_fits, rooted, faultless, none_before, none_at}
use Rattle.rb_rel.proofs.Reaching.{all_reached}

module _ (p : Program) (agrees : Agrees p) where
  -- a flat leaf with the leaf as it is written
  pub record FromWritten (t : ℕ) (layout : Layout) (n : ℕ) (leaf : Leaf) : Type 0 where
    pub decl : Declared p t layout
    pub written : WrittenLeaf
    pub is_written : slice_get (leaves decl.decl.tree) n ≡ Some written
    pub is_leaf : leaf ≡ flat_leaf p.types p.layouts written

  pub from_written : (t : ℕ) (layout : Layout) (n : ℕ) (leaf : Leaf) → layout_of (flat_layouts p) t ≡ Some layout → slice_get layout.leaves n ≡ Some leaf → FromWritten t layout n leaf
  from_written t layout n leaf is at =
      let d = declared p agrees.a1 t layout is in
      let g = get-map (flat_leaf p.types p.layouts) (leaves d.decl.tree) n leaf (ap (λ (l : Layout). slice_get l.leaves n) (sym d.is_flat) ∙ at) in
      record { decl = d; written = g.0; is_written = g.1; is_leaf = g.2 }

  units : (s i : ℕ) (o : Option Layout) → layout_of (flat_layouts p) s ≡ o → i < shape_length o → i < length (shape_of p.layouts s)
  units s i None is lt = absurd (omega (arith, lt))
  units s i (Some l) is lt =
      let d = declared p agrees.a1 s l is in
      let e : length l.shape ≡ length (shape_of p.layouts s) = ap (λ (x : Layout). length x.shape) d.is_flat ∙ ap (λ x. length (shape_in x)) (sym d.is_declared) in
      subst (λ n. i < n) e lt

  is_unit : (ty : Ty) (i : ℕ) → i < units_of (flat_layouts p) ty → i < A6.units_of p ty
  is_unit (Int bits) i lt = lt
  is_unit (Named s) i lt = units s i (layout_of (flat_layouts p) s) refl lt

  module _ (typed : IsTyped p) where
    abbrev is_written_provenance : (t : ℕ) (d : LayoutDecl) (k n : ℕ) (w : WrittenLeaf) → Type 0
    is_written_provenance t d k n w = (slice_get p.layouts k ≡ Some d) × (d.ty ≡ t) × (slice_get (leaves d.tree) n ≡ Some w)

    numbered : (t : ℕ) (d : LayoutDecl) (k n : ℕ) (w : WrittenLeaf) → is_written_provenance t d k n w → (is_provenance w.provenance ≡ true) × (pattern_is_numbered p.types w.provenance ≡ true)
    numbered t d k n w at =
        let a = all_at (layout_is_numbered p.types) p.layouts k d typed.numbered.layouts at.0 in
        let b = and_parts (nat_lt d.ty (length p.types)) (is_between 1 8 (length d.shape) && (list_all (provenance_is_numbered p.types) (provenances d.tree) && is_short_layout d.tree)) a in
        let c = and_parts (is_between 1 8 (length d.shape)) (list_all (provenance_is_numbered p.types) (provenances d.tree) && is_short_layout d.tree) b.1 in
        let e = and_parts (list_all (provenance_is_numbered p.types) (provenances d.tree)) (is_short_layout d.tree) c.1 in
        and_parts (is_provenance w.provenance) (pattern_is_numbered p.types w.provenance)
        (all_at (provenance_is_numbered p.types) (provenances d.tree) n w.provenance e.0 (get-mapped (λ (l : WrittenLeaf). l.provenance) (leaves d.tree) n w at.2))

    fits : (t : ℕ) (d : LayoutDecl) (k n : ℕ) (w : WrittenLeaf) → is_written_provenance t d k n w → fits_type p.types w.provenance (Named t) ≡ true
    fits t d k n w at =
        let layouts = map (layout_fault p.types) p.layouts in
        let a = none_at layouts k (layout_fault p.types d) (none_before layouts (map (function_fault p.types p.funs) p.funs) typed.rules) (get-mapped (layout_fault p.types) p.layouts k d at.0) in
        let b = none_at (map (provenance_fault p.types d.ty) (provenances d.tree)) n (provenance_fault p.types d.ty w.provenance) a
        (get-mapped (provenance_fault p.types d.ty) (provenances d.tree) n w.provenance (get-mapped (λ (l : WrittenLeaf). l.provenance) (leaves d.tree) n w at.2)) in
        let c = faultless p.types d.ty w.provenance b in
        ap (λ s. fits_type p.types w.provenance (Named s)) (sym at.1) ∙ typed_fits p.types w.provenance (Named d.ty) c.0 (numbered t d k n w at).1 c.1

    prov_fits : (t : ℕ) (layout : Layout) (n : ℕ) (leaf : Leaf) → FromWritten t layout n leaf
        → (root_type (out-Pat leaf.prov) ≡ Named t) × (fits_type p.types leaf.prov (Named t) ≡ true) × (is_provenance leaf.prov ≡ true)
    prov_fits t layout n leaf w =
        let d = decl_at p.layouts t w.decl.decl w.decl.is_declared in
        let at : is_written_provenance t w.decl.decl d.0 n w.written = (d.1, d.2, w.is_written) in
        let f = fits t w.decl.decl d.0 n w.written at in
        let s = (numbered t w.decl.decl d.0 n w.written at).0 in
        let r = rooted p.types w.written.provenance t s f in (
          ap (λ (l : Leaf). root_type (out-Pat l.prov)) w.is_leaf ∙ r,
          ap (λ (l : Leaf). fits_type p.types l.prov (Named t)) w.is_leaf ∙ f,
          ap (λ (l : Leaf). is_provenance l.prov) w.is_leaf ∙ s,
        )

    pub lawful : Lawful p.types (flat_layouts p)
    lawful = record {
      flat = leaves_are_flat p;
      reached = λ t layout n leaf is at.
          let w = from_written t layout n leaf is at in
          let r = all_reached w.decl.decl.tree n (slice_get_within (leaves w.decl.decl.tree) n w.written w.is_written) in
          (r.0, r.1, ap (λ (l : Layout). slice_get (routes_of l.tree) r.0) w.decl.is_flat ∙ r.2, r.3);
      met = agrees.a7;
      split = agrees.a8;
      all_held = λ t layout n leaf is at k o i is_open lt.
          let h = (agrees.a6 t layout n leaf is at).each k o i is_open (is_unit o.ty i lt) in is_held leaf o.ty o.path i (omega (arith, h));
      provenances = record {
        root = λ t layout n leaf is at. (prov_fits t layout n leaf (from_written t layout n leaf is at)).0;
        fits = λ t layout n leaf is at. (prov_fits t layout n leaf (from_written t layout n leaf is at)).1;
        shaped = λ t layout n leaf is at. (prov_fits t layout n leaf (from_written t layout n leaf is at)).2;
      };
    }
