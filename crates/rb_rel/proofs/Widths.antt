-- Words of flat leaves have bits: open positions are of declared types, and shapes have words of 1 to 64 bits.
use Rattle.std.proofs.Common.{◌≡◌, ℕ, ◌+◌, ◌<◌, ◌≤◌, ◌&&◌, inl, inr, zero, suc, length, map, List, [], ◌∷◌, true, Option, Some, None, nat_lt, nat_le, refl, sym, ap, ◌∙◌, arith}
use Rattle.std.specs.Prelude.{slice_get}
use Rattle.std.specs.List.{list_all}
use Rattle.std.proofs.lemmas.Bool.{and_parts}
use Rattle.std.proofs.lemmas.Grind.{common_steps}
use Rattle.std.proofs.lemmas.Option.{same_Some}
use Rattle.rb_core.specs.declared.types.Ty.{Ty}
use Rattle.rb_core.specs.declared.types.Ty.TheVariants.{Int, Named}
use Rattle.rb_core.specs.declared.types.Con.{Con}
use Rattle.rb_core.specs.declared.types.ConRef.{ConRef}
use Rattle.rb_core.specs.declared.types.DataDecl.{DataDecl}
use Rattle.rb_core.specs.declared.pattern.Pat.{Pat, out-Pat, Wild, Var, Num, Con as ConPat}
use Rattle.rb_core.specs.declared.pattern.Pat.TheVariants.{outs-Wild, outs-Var, outs-Num}
use Rattle.rb_core.specs.declared.layout_decl.LayoutDecl.{LayoutDecl}
use Rattle.rb_core.specs.declared.program.Program.{Program}
use Rattle.rb_core.specs.Layouts.{provenances, is_short_layout}
use Rattle.rb_core.specs.TypedPrograms.{IsTyped}
use Rattle.rb_core.specs.Values.{fields_of, fields_in, fields_of_con}
use Rattle.rb_core.specs.WellNumbered.{is_type, is_between, is_upper, con_is_numbered, type_is_numbered, layout_is_numbered, provenance_is_numbered}
use Rattle.rb_core.proofs.MatchingLemmas.{all_at}
use Rattle.rb_core.proofs.PatternLaws as PL
use Rattle.rb_layout.specs.A1.{A1, HasShape}
use Rattle.rb_layout.specs.Flattening.{decl_of, shape_in, shape_of}
use Rattle.rb_layout.specs.Positions.{Open, below, opens_below, opens_of, opens_step, open_positions, root_type, types_or_none}
use Rattle.rb_rel.proofs.Declared.{decl_at}
use Rattle.rb_rel.proofs.Lists.{get-append, get-map}
use Rattle.rb_rel.proofs.Opens.{opens-Con, opens-Wild, opens-Var}

le_is : (a b : ℕ) → nat_le a b ≡ true → a ≤ b
le_is a b e = grind (arith, common_steps)

lt_is : (a b : ℕ) → nat_lt a b ≡ true → a < b
lt_is a b e = grind (arith, common_steps)

module _ (types : List DataDecl) (numbered : list_all (type_is_numbered types) types ≡ true) where
  -- the fields of a constructor are of declared types
  con_fields : (ds : List Con) (k : ℕ) (ts : List Ty) → list_all (con_is_numbered types) ds ≡ true → fields_of_con (slice_get ds k) ≡ Some ts → list_all (is_type types) ts ≡ true
  con_fields ds k ts all is = go (slice_get ds k) refl is
    where
      go : (o : Option Con) → slice_get ds k ≡ o → fields_of_con o ≡ Some ts → list_all (is_type types) ts ≡ true
      go None e h = absurd cc
      go (Some c) e h =
          let a = all_at (con_is_numbered types) ds k c all e in
          let b = and_parts (is_upper c.name) (nat_le (length c.fields) 32 && list_all (is_type types) c.fields) a in
          let d = and_parts (nat_le (length c.fields) 32) (list_all (is_type types) c.fields) b.1 in
          let x : c.fields ≡ ts = cc in ap (list_all (is_type types)) (sym x) ∙ d.1

  pub fields_typed : (c : ConRef) → list_all (is_type types) (types_or_none (fields_of types c)) ≡ true
  fields_typed c = go (slice_get types c.ty) refl
    where
      fields : (d : DataDecl) (o : Option (List Ty)) → list_all (con_is_numbered types) d.cons ≡ true → fields_of_con (slice_get d.cons c.con) ≡ o → list_all (is_type types) (types_or_none o) ≡ true
      fields d None all e = refl
      fields d (Some ts) all e = con_fields d.cons c.con ts all e

      go : (o : Option DataDecl) → slice_get types c.ty ≡ o → list_all (is_type types) (types_or_none (fields_in o c.con)) ≡ true
      go None e = refl
      go (Some d) e =
          let a = all_at (type_is_numbered types) types c.ty d numbered e in
          let b = and_parts (is_upper d.name) (is_between 1 256 (length d.cons) && list_all (con_is_numbered types) d.cons) a in
          let f = and_parts (is_between 1 256 (length d.cons)) (list_all (con_is_numbered types) d.cons) b.1 in
          fields d (fields_of_con (slice_get d.cons c.con)) f.1 refl

  abbrev AreTypes : List Open → Type 0
  AreTypes os = (k : ℕ) (o : Open) → slice_get os k ≡ Some o → is_type types o.ty ≡ true

  abbrev OpensTyped : Pat → Type 0
  OpensTyped q = (ty : Ty) → is_type types ty ≡ true → AreTypes (opens_of types q ty)

  below_typed : (ps : List Pat) → PL.Each OpensTyped ps → (ts : List Ty) (i : ℕ) → list_all (is_type types) ts ≡ true → AreTypes (opens_below (map (opens_of types) ps) ts i)
  below_typed [] each ts i all k o e = absurd cc
  below_typed (q ∷ ps) each [] i all k o e = absurd cc
  below_typed (q ∷ ps) each (t ∷ ts) i all k o e =
      let b = and_parts (is_type types t) (list_all (is_type types) ts) all in
      elim (get-append (map (below i) (opens_of types q t)) (opens_below (map (opens_of types) ps) ts (i + 1)) k o e) [
        | inl h ↦ let g = get-map (below i) (opens_of types q t) k o h in ap (λ (y : Open). is_type types y.ty) g.2 ∙ each.0 t b.0 k g.0 g.1
        | inr h ↦ below_typed ps each.1 ts (i + 1) b.1 h.0 o h.1
      ]

  one_typed : (os : List Open) (ty : Ty) → is_type types ty ≡ true → os ≡ record { path = []; ty = ty } ∷ [] → AreTypes os
  one_typed os ty t is zero o e = let h : Some (record { path = []; ty = ty }) ≡ Some o = sym (ap (λ (xs : List Open). slice_get xs 0) is) ∙ e in ap (λ (y : Open). is_type types y.ty) (sym (same_Some _ o h)) ∙ t
  one_typed os ty t is (suc k) o e = let h = sym (ap (λ (xs : List Open). slice_get xs (suc k)) is) ∙ e in absurd cc

  none_typed : (os : List Open) → os ≡ [] → AreTypes os
  none_typed os is k o e = let h = sym (ap (λ (xs : List Open). slice_get xs k) is) ∙ e in absurd cc

  con_typed : (at : ℕ) (c : ConRef) (ps : List Pat) → PL.Each OpensTyped ps → (ty : Ty) → AreTypes (opens_of types (ConPat at c ps) ty)
  con_typed at c ps each ty k o e =
      below_typed ps each (types_or_none (fields_of types c)) 0 (fields_typed c) k o (ap (λ (os : List Open). slice_get os k) (sym (opens-Con types at c ps ty)) ∙ e)

  opens_typed : (q : Pat) → OpensTyped q
  opens_typed = PL.induction OpensTyped (record {
    wild = λ at ty t. one_typed (opens_of types (Wild at) ty) ty t (opens-Wild types at ty);
    var = λ at x ty t. one_typed (opens_of types (Var at x) ty) ty t (opens-Var types at x ty);
    num = λ at n ty t. none_typed (opens_of types (Num at n) ty) (ap (λ (g : Ty → List Open). g ty) (PL.fold-Num (Ty → List Open) (opens_step types) at n));
    con = λ at c ps each ty t. con_typed at c ps each ty;
  })

  each_typed : (ps : List Pat) → PL.Each OpensTyped ps
  each_typed [] = tt
  each_typed (q ∷ ps) = (opens_typed q, each_typed ps)

  -- the open positions of a provenance are of declared types
  pub positions_typed : (q : Pat) (t : ℕ) → root_type (out-Pat q) ≡ Named t → AreTypes (open_positions types q)
  positions_typed = PL.induction (λ q. (t : ℕ) → root_type (out-Pat q) ≡ Named t → AreTypes (open_positions types q)) (record {
    wild = λ at t r. absurd (let h : Int 64 ≡ Named t = sym (ap root_type (outs-Wild at)) ∙ r in cc);
    var = λ at x t r. absurd (let h : Int 64 ≡ Named t = sym (ap root_type (outs-Var at x)) ∙ r in cc);
    num = λ at n t r. absurd (let h : Int 64 ≡ Named t = sym (ap root_type (outs-Num at n)) ∙ r in cc);
    con = λ at c ps each t r. con_typed at c ps (each_typed ps) (root_type (out-Pat (ConPat at c ps)));
  })

  -- an integer at an open position has a bit, and at most 64
  pub int_wide : (bits : ℕ) → is_type types (Int bits) ≡ true → 1 ≤ bits
  int_wide bits e = le_is 1 bits (and_parts (nat_le 1 bits) (nat_le bits 64) e).0

  pub int_small : (bits : ℕ) → is_type types (Int bits) ≡ true → bits ≤ 64
  int_small bits e = le_is bits 64 (and_parts (nat_le 1 bits) (nat_le bits 64) e).1

-- a word of a shape has a bit
pub shape_wide : (p : Program) → IsTyped p → A1 p → (s j w : ℕ) → slice_get (shape_of p.layouts s) j ≡ Some w → 1 ≤ w
shape_wide p typed a1 s j w e = go (decl_of p.layouts s) refl e
  where
    wide : (o : Option LayoutDecl) (d : LayoutDecl) → o ≡ Some d → HasShape o → slice_get d.shape j ≡ Some w → 1 ≤ w
    wide None d is h q = absurd cc
    wide (Some x) d is h q = (h j w (ap (λ (y : LayoutDecl). slice_get y.shape j) (same_Some x d is) ∙ q)).0

    go : (o : Option LayoutDecl) → decl_of p.layouts s ≡ o → slice_get (shape_in o) j ≡ Some w → 1 ≤ w
    go None is h = absurd cc
    go (Some d) is h =
        let at = decl_at p.layouts s d is in
        let a = all_at (layout_is_numbered p.types) p.layouts at.0 d typed.numbered.layouts at.1 in
        let b = and_parts (nat_lt d.ty (length p.types)) (is_between 1 8 (length d.shape) && (list_all (provenance_is_numbered p.types) (provenances d.tree) && is_short_layout d.tree)) a in
        let lt = lt_is d.ty (length p.types) b.0 in
        let same = at.2 in
        let here : s < length p.types = omega (arith, lt, same) in
        wide (decl_of p.layouts s) d is (a1 s here) h
