-- Places one after the other, and what is found in them.
use Rattle.std.proofs.Common.{◌≡◌, ℕ, zero, suc, ◌+◌, ◌<◌, ◌≤◌, inl, inr, List, [], ◌∷◌, ◌++◌, length, get_or, drop, Option, Some, None, refl, sym, ap, subst, ◌∙◌, add-one, drop-cons, arith}
use Rattle.std.specs.Prelude.{MatchOption}
use Rattle.std.proofs.lemmas.List.{drop_all}
use Rattle.rb_core.specs.declared.program.Program.{Program}
use Rattle.rb_core.specs.declared.types.DataDecl.{DataDecl}
use Rattle.rb_core.specs.declared.layout_decl.LayoutDecl.{LayoutDecl}
use Rattle.rb_layout.specs.declared.layout.Layout.{Layout}
use Rattle.rb_layout.specs.declared.layout.Leaf.{Leaf}
use Rattle.rb_layout.specs.declared.evidence.Why.{Why}
use Rattle.rb_layout.specs.declared.evidence.Refused.{Refused}
use Rattle.rb_layout.specs.Spots.{Spot, Shape, Checked, SpotFails, SpotHolds, place_of_spot, by_leaves, by_types, shape_spots, part_spots}
use Rattle.rb_layout.specs.Items.{Item}
use Rattle.rb_layout.specs.A1.{FailsShape, HasShape}
use Rattle.rb_layout.specs.Flattening.{decl_of}
use Rattle.rb_agree.specs.Answers.{Finds}
use Rattle.rb_agree.specs.inner.Rules.{refusal}

module _ (p : Program) (layouts : List Layout) where
  first-found : (xs ys : List Spot) (x : Spot × Why) → Checked p layouts xs (Some x) → Checked p layouts (xs ++ ys) (Some x)
  first-found [] ys x h = absurd h
  first-found (s ∷ xs) ys x (inl here) = inl here
  first-found (s ∷ xs) ys x (inr rest) = inr (rest.0, first-found xs ys x rest.1)

  later-found : (xs ys : List Spot) (r : Option (Spot × Why)) → Checked p layouts xs None → Checked p layouts ys r → Checked p layouts (xs ++ ys) r
  later-found [] ys r h found = found
  later-found (s ∷ xs) ys None h found = (h.0, later-found xs ys None h.1 found)
  later-found (s ∷ xs) ys (Some x) h found = inr (h.0, later-found xs ys (Some x) h.1 found)

  pub found-first : (xs ys : List Spot) (r : Refused) → Finds p layouts xs (Some r) → Finds p layouts (xs ++ ys) (Some r)
  found-first xs ys r h = (h.0, first-found xs ys (h.0, r.why) h.1, h.2)

  pub found-later : (xs ys : List Spot) (r : Option Refused) → Finds p layouts xs None → Finds p layouts ys r → Finds p layouts (xs ++ ys) r
  found-later xs ys None h found = later-found xs ys None h found
  found-later xs ys (Some r) h found = (found.0, later-found xs ys (Some (found.0, r.why)) h found.1, found.2)

  -- one place
  pub one-place : (s : Spot) (rule t : ℕ) (n : Option ℕ) (found : Option Why) → record { rule = rule; ty = t; leaf = n } ≡ place_of_spot s
      → MatchOption found (SpotHolds p layouts s) (SpotFails p layouts s) → Finds p layouts (s ∷ []) (refusal rule t n found)
  one-place s rule t n None place h = (h, tt)
  one-place s rule t n (Some why) place h = (s, inl ((λ i. s), h), (place, λ i. why))

  -- what is found in the rest is found in the whole
  abbrev pub Passes : List Spot → List Spot → Type 0
  Passes rest whole = (r : Option Refused) → Finds p layouts rest r → Finds p layouts whole r

  pub pass-on : (here rest whole : List Spot) → Passes (here ++ rest) whole → Finds p layouts here None → Passes rest whole
  pass-on here rest whole pass none = λ r found. pass r (found-later here rest r none found)

  pub pass-found : (here rest whole : List Spot) (r : Refused) → Passes (here ++ rest) whole → Finds p layouts here (Some r) → Finds p layouts whole (Some r)
  pass-found here rest whole r pass found = pass (Some r) (found-first here rest r found)

  -- Leaves, layouts and items
  pub leaves-next : (f : ℕ → Leaf → List Spot) (ls : List Leaf) (n : ℕ) (leaf : Leaf) → n < length ls → leaf ≡ get_or ls n leaf
      → by_leaves f n (drop n ls) ≡ f n leaf ++ by_leaves f (n + 1) (drop (n + 1) ls)
  leaves-next f ls n leaf lt is =
      ap (λ (xs : List Leaf). by_leaves f n xs) (drop-cons ls n leaf lt ∙ ap (λ (x : Leaf). x ∷ drop (suc n) ls) (sym is))
      ∙ ap (λ m. f n leaf ++ by_leaves f (n + 1) (drop m ls)) (sym (add-one n))

  pub leaves-end : (f : ℕ → Leaf → List Spot) (ls : List Leaf) (n : ℕ) → length ls ≤ n → by_leaves f n (drop n ls) ≡ []
  leaves-end f ls n le = ap (λ (xs : List Leaf). by_leaves f n xs) (drop_all n ls le)

  pub types-next : (f : ℕ → Layout → List Spot) (ls : List Layout) (n : ℕ) (layout : Layout) → n < length ls → layout ≡ get_or ls n layout
      → by_types f n (drop n ls) ≡ f n layout ++ by_types f (n + 1) (drop (n + 1) ls)
  types-next f ls n layout lt is =
      ap (λ (xs : List Layout). by_types f n xs) (drop-cons ls n layout lt ∙ ap (λ (x : Layout). x ∷ drop (suc n) ls) (sym is))
      ∙ ap (λ m. f n layout ++ by_types f (n + 1) (drop m ls)) (sym (add-one n))

  pub types-end : (f : ℕ → Layout → List Spot) (ls : List Layout) (n : ℕ) → length ls ≤ n → by_types f n (drop n ls) ≡ []
  types-end f ls n le = ap (λ (xs : List Layout). by_types f n xs) (drop_all n ls le)

  pub items-next : (t n : ℕ) (leaf : Leaf) (items : List Item) (i : ℕ) (d : Item) → i < length items
      → part_spots t n leaf i (drop i items) ≡ part_spots t n leaf i (get_or items i d ∷ []) ++ part_spots t n leaf (i + 1) (drop (i + 1) items)
  items-next t n leaf items i d lt =
      ap (λ (xs : List Item). part_spots t n leaf i xs) (drop-cons items i d lt)
      ∙ ap (λ m. part_spots t n leaf i (get_or items i d ∷ []) ++ part_spots t n leaf (i + 1) (drop m items)) (sym (add-one i))

  pub ends : (rest whole : List Spot) → Passes rest whole → rest ≡ [] → Finds p layouts whole None
  ends rest whole pass none = pass None (subst (λ ss. Finds p layouts ss None) (sym none) tt)

-- Shapes --------------------------------------------------------------------------------------------------

shapes-split : (decls : List LayoutDecl) (ds : List DataDecl) (n m : ℕ) → m < length ds
    → shape_spots decls n (drop m ds) ≡ Shape n (decl_of decls n) ∷ shape_spots decls (n + 1) (drop (suc m) ds)
shapes-split decls [] n m lt = absurd (omega (arith, lt))
shapes-split decls (d ∷ ds) n zero lt = refl
shapes-split decls (d ∷ ds) n (suc m) lt = shapes-split decls ds n m (omega (arith, lt))

module _ (p : Program) where
  abbrev pub rest-from : ℕ → List Spot
  rest-from t = shape_spots p.layouts t (drop t p.types)

  shapes-next : (t : ℕ) → t < length p.types → rest-from t ≡ (Shape t (decl_of p.layouts t) ∷ []) ++ rest-from (t + 1)
  shapes-next t lt =
      shapes-split p.layouts p.types t t lt ∙ ap (λ m. Shape t (decl_of p.layouts t) ∷ shape_spots p.layouts (t + 1) (drop m p.types)) (sym (add-one t))

  -- what is found in the shapes from a type on is found in all
  abbrev pub ShapesPass : ℕ → Type 0
  ShapesPass t = (layouts : List Layout) → Passes p layouts (rest-from t) (shape_spots p.layouts 0 p.types)

  abbrev Answer : Option LayoutDecl → Option Why → Type 0
  Answer decl found = MatchOption found (HasShape decl) (FailsShape decl)

  pub shape-passes : (t : ℕ) (decl : Option LayoutDecl) (found : Option Why) → t < length p.types → decl ≡ decl_of p.layouts t → Answer decl found → found ≡ None → ShapesPass t → ShapesPass (t + 1)
  shape-passes t decl found lt is h none pass = λ layouts.
      let here : Answer (decl_of p.layouts t) None = subst (λ (x : Option Why). Answer (decl_of p.layouts t) x) none (subst (λ (d : Option LayoutDecl). Answer d found) is h) in
      pass-on p layouts (Shape t (decl_of p.layouts t) ∷ []) (rest-from (t + 1)) (shape_spots p.layouts 0 p.types)
      (subst (λ (ss : List Spot). Passes p layouts ss (shape_spots p.layouts 0 p.types)) (shapes-next t lt) (pass layouts))
      (one-place p layouts (Shape t (decl_of p.layouts t)) 1 t None None refl here)

  pub shape-fails : (t n : ℕ) (decl : Option LayoutDecl) (found : Option Why) (why : Why) → t < length p.types → decl ≡ decl_of p.layouts t → Answer decl found → found ≡ Some why → n ≡ t → ShapesPass t
      → (layouts : List Layout) → Finds p layouts (shape_spots p.layouts 0 p.types) (Some (record { rule = 1; ty = n; leaf = None; why = why }))
  shape-fails t n decl found why lt is h some same pass = λ layouts.
      let here : Answer (decl_of p.layouts t) (Some why) = subst (λ (x : Option Why). Answer (decl_of p.layouts t) x) some (subst (λ (d : Option LayoutDecl). Answer d found) is h) in
      subst (λ m. Finds p layouts (shape_spots p.layouts 0 p.types) (Some (record { rule = 1; ty = m; leaf = None; why = why }))) (sym same)
      (pass-found p layouts (Shape t (decl_of p.layouts t) ∷ []) (rest-from (t + 1)) (shape_spots p.layouts 0 p.types) (record { rule = 1; ty = t; leaf = None; why = why })
      (subst (λ (ss : List Spot). Passes p layouts ss (shape_spots p.layouts 0 p.types)) (shapes-next t lt) (pass layouts))
      (one-place p layouts (Shape t (decl_of p.layouts t)) 1 t None (Some why) refl here))

  pub shapes-end : (t : ℕ) → length p.types ≤ t → ShapesPass t → (layouts : List Layout) → Finds p layouts (shape_spots p.layouts 0 p.types) None
  shapes-end t le pass = λ layouts. ends p layouts (rest-from t) (shape_spots p.layouts 0 p.types) (pass layouts) (ap (λ (ds : List DataDecl). shape_spots p.layouts t ds) (drop_all t p.types le))
