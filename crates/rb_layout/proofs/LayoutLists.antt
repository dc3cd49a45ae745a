-- The flat forms of a program's layouts, one after another.
use Rattle.std.proofs.Common.{◌≡◌, ℕ, zero, suc, ◌+◌, ◌<◌, ◌≤◌, List, [], ◌∷◌, ◌++◌, length, refl, sym, ap, subst, ◌∙◌, arith}
use Rattle.std.specs.Prelude.{Option, Some, slice_get, drop}
use Rattle.std.proofs.lemmas.List.{append_assoc, append-nil, drop_all}
use Rattle.rb_core.specs.declared.types.DataDecl.{DataDecl}
use Rattle.rb_core.specs.declared.program.Program.{Program}
use Rattle.rb_core.specs.declared.layout_decl.LayoutDecl.{LayoutDecl}
use Rattle.rb_layout.specs.declared.layout.Layout.{Layout}
use Rattle.rb_layout.specs.Flattening.{decl_of, flat_layout, flat_or_none, flat_from, flat_layouts, HaveLayouts, AreInOrder}
use Rattle.rb_layout.proofs.LayingLemmas.{one_more}

module _ (p : Program) where
  from_next : (ds : List DataDecl) (t i : ℕ) → i < length ds → flat_from p (drop i ds) t ≡ flat_or_none p (decl_of p.layouts t) ++ flat_from p (drop (suc i) ds) (t + 1)
  from_next [] t i lt = absurd (omega (arith, lt))
  from_next (d ∷ ds) t zero lt = refl
  from_next (d ∷ ds) t (suc i) lt = from_next ds t i (omega (arith, lt))

  pub one_more_layout : (t : ℕ) (old new : List Layout) → t < length p.types → new ≡ old ++ flat_or_none p (decl_of p.layouts t)
      → old ++ flat_from p (drop t p.types) t ≡ flat_layouts p → new ++ flat_from p (drop (t + 1) p.types) (t + 1) ≡ flat_layouts p
  one_more_layout t old new lt is invariant =
      ap (λ (ls : List Layout). ls ++ flat_from p (drop (t + 1) p.types) (t + 1)) is
      ∙ append_assoc old (flat_or_none p (decl_of p.layouts t)) (flat_from p (drop (t + 1) p.types) (t + 1))
      ∙ ap (λ (ls : List Layout). old ++ ls) (sym (from_next p.types t t lt ∙ ap (λ k. flat_or_none p (decl_of p.layouts t) ++ flat_from p (drop k p.types) (t + 1)) (sym (one_more t))))
      ∙ invariant

  pub all_layouts : (t : ℕ) (ls : List Layout) → length p.types ≤ t → ls ++ flat_from p (drop t p.types) t ≡ flat_layouts p → ls ≡ flat_layouts p
  all_layouts t ls le invariant =
      sym (append-nil ls) ∙ ap (λ (ds : List DataDecl). ls ++ flat_from p ds t) (sym (drop_all t p.types le)) ∙ invariant

  -- each type has a layout from some type on
  abbrev Have : ℕ → List DataDecl → Type 0
  Have t ds = (k : ℕ) → k < length ds → (d : LayoutDecl) × (decl_of p.layouts (t + k) ≡ Some d)

  next_have : (t : ℕ) (d : DataDecl) (ds : List DataDecl) → Have t (d ∷ ds) → Have (t + 1) ds
  next_have t d ds have k lt =
      let next : t + suc k ≡ t + 1 + k = omega arith in
      subst (λ n. (e : LayoutDecl) × (decl_of p.layouts n ≡ Some e)) next (have (suc k) (omega (arith, lt)))

  first_have : (t : ℕ) (d : DataDecl) (ds : List DataDecl) → Have t (d ∷ ds) → (e : LayoutDecl) × (decl_of p.layouts t ≡ Some e)
  first_have t d ds have =
      let here : t + 0 ≡ t = omega arith in
      subst (λ n. (e : LayoutDecl) × (decl_of p.layouts n ≡ Some e)) here (have 0 (omega arith))

  begins : (t : ℕ) (d : DataDecl) (ds : List DataDecl) (e : LayoutDecl) → decl_of p.layouts t ≡ Some e → flat_from p (d ∷ ds) t ≡ flat_layout p e ∷ flat_from p ds (t + 1)
  begins t d ds e is = ap (λ (o : Option LayoutDecl). flat_or_none p o ++ flat_from p ds (t + 1)) is

  count_from : (ds : List DataDecl) (t : ℕ) → Have t ds → length (flat_from p ds t) ≡ length ds
  count_from [] t have = refl
  count_from (d ∷ ds) t have =
      let first = first_have t d ds have in
      ap (λ (ls : List Layout). length ls) (begins t d ds first.0 first.1) ∙ ap suc (count_from ds (t + 1) (next_have t d ds have))

  each_from : (ds : List DataDecl) (t : ℕ) → Have t ds → (k : ℕ) (e : LayoutDecl) → k < length ds → decl_of p.layouts (t + k) ≡ Some e
      → slice_get (flat_from p ds t) k ≡ Some (flat_layout p e)
  each_from [] t have k e lt is = absurd (omega (arith, lt))
  each_from (d ∷ ds) t have zero e lt is =
      let here : t ≡ t + 0 = omega arith in
      ap (λ (ls : List Layout). slice_get ls 0) (begins t d ds e (ap (λ n. decl_of p.layouts n) here ∙ is))
  each_from (d ∷ ds) t have (suc k) e lt is =
      let first = first_have t d ds have in
      let next : t + 1 + k ≡ t + suc k = omega arith in
      ap (λ (ls : List Layout). slice_get ls (suc k)) (begins t d ds first.0 first.1)
      ∙ each_from ds (t + 1) (next_have t d ds have) k e (omega (arith, lt)) (ap (λ n. decl_of p.layouts n) next ∙ is)

  from_none : (k : ℕ) → 0 + k ≡ k
  from_none k = omega arith

  pub are_in_order : HaveLayouts p → AreInOrder p (flat_layouts p)
  are_in_order have =
      let all : Have 0 p.types = λ k lt. subst (λ n. (e : LayoutDecl) × (decl_of p.layouts n ≡ Some e)) (sym (from_none k)) (have k lt) in
      record {
        count = count_from p.types 0 all;
        each = λ t d lt is. each_from p.types 0 all t d lt (ap (λ n. decl_of p.layouts n) (from_none t) ∙ is);
      }
