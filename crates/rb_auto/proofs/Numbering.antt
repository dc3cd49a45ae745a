-- What a well numbered program has: few constructors, fields and words, and types that there are.
use Rattle.std.proofs.Common.{◌≡◌, ℕ, zero, suc, ◌+◌, ◌*◌, ◌<◌, ◌≤◌, List, [], ◌∷◌, length, Bool, true, false, Option, Some, None, refl, sym, ap, subst, ◌∙◌, arith}
use Rattle.std.specs.Prelude.{slice_get, nat_le, nat_lt, ◌&&◌, ◌==◌, if◌then◌else◌}
use Rattle.std.specs.List.{list_all}
use Rattle.std.proofs.lemmas.Bool.{and_parts, eqb-true, leb-true, ltb-true}
use Rattle.std.proofs.lemmas.Option.{same_Some}
use Rattle.std.proofs.lemmas.List.{length-append, length-map}
use Rattle.rb_core.specs.declared.types.Con.{Con}
use Rattle.rb_core.specs.declared.types.DataDecl.{DataDecl}
use Rattle.rb_core.specs.declared.types.Ty.{Ty}
use Rattle.rb_core.specs.declared.types.Ty.TheVariants.{Int, Named}
use Rattle.rb_core.specs.declared.program.Program.{Program}
use Rattle.rb_core.specs.declared.layout_decl.LayoutDecl.{LayoutDecl}
use Rattle.rb_core.specs.Layouts.{provenances, is_short_layout}
use Rattle.rb_core.specs.WellNumbered.{IsWellNumbered, con_is_numbered, is_between, is_type, is_upper, layout_is_numbered, provenance_is_numbered, type_is_numbered}
use Rattle.rb_core.proofs.MatchingLemmas.{all_at}
use Rattle.rb_layout.specs.Flattening.{decl_of}
use Rattle.rb_layout.specs.A1.{IsShapeWidth}
use Rattle.rb_auto.specs.declared.room.Room.{Room}
use Rattle.rb_auto.specs.Fields.{cons_in, cons_of}
use Rattle.rb_auto.specs.FieldWords.{field_words, fields_words, words_from, constructor_words}
use Rattle.rb_auto.specs.Widths.{counted_width, shape_or, widths}

between : (a b n : ℕ) → is_between a b n ≡ true → (a ≤ n) × (n ≤ b)
between a b n e = let h = and_parts (nat_le a n) (nat_le n b) e in (leb-true a n h.0, leb-true n b h.1)

-- a list has an item at each number below its length
pub item-at : {A : Type 0} (xs : List A) (k : ℕ) → k < length xs → (x : A) × (slice_get xs k ≡ Some x)
item-at [] k lt = absurd (omega (arith, lt))
item-at (x ∷ xs) zero lt = (x, refl)
item-at (x ∷ xs) (suc k) lt = item-at xs k (omega (arith, lt))

-- the layout that is declared for a type stands somewhere, and is of that type
pub declared : (decls : List LayoutDecl) (t : ℕ) (d : LayoutDecl) → decl_of decls t ≡ Some d → (d.ty ≡ t) × (k : ℕ) × (slice_get decls k ≡ Some d)
declared [] t d e = absurd cc
declared (x ∷ decls) t d e = by_test (x.ty == t) refl (λ h. declared decls t d h) e
  where
    by_test : (b : Bool) → (x.ty == t) ≡ b → (decl_of decls t ≡ Some d → (d.ty ≡ t) × (k : ℕ) × (slice_get decls k ≡ Some d))
        → (if b then Some x else decl_of decls t) ≡ Some d → (d.ty ≡ t) × (k : ℕ) × (slice_get (x ∷ decls) k ≡ Some d)
    by_test true is rest h = (ap (λ (y : LayoutDecl). y.ty) (sym (same_Some x d h)) ∙ eqb-true x.ty t is, 0, h)
    by_test false is rest h = let r = rest h in (r.0, suc r.1, r.2)

module _ (p : Program) (numbered : IsWellNumbered p) where
  pub record ConIsSmall (c : Con) : Type 0 where
    pub few : length c.fields ≤ 32
    pub typed : (i : ℕ) (ty : Ty) → slice_get c.fields i ≡ Some ty → is_type p.types ty ≡ true

  con-small : (c : Con) → con_is_numbered p.types c ≡ true → ConIsSmall c
  con-small c e =
      let a = and_parts (is_upper c.name) (nat_le (length c.fields) 32 && list_all (is_type p.types) c.fields) e in
      let b = and_parts (nat_le (length c.fields) 32) (list_all (is_type p.types) c.fields) a.1 in
      record { few = leb-true (length c.fields) 32 b.0; typed = λ i ty at. all_at (is_type p.types) c.fields i ty b.1 at }

  pub record TypeIsSmall (cons : List Con) : Type 0 where
    pub some : 1 ≤ length cons
    pub few : length cons ≤ 256
    pub each : (k : ℕ) (c : Con) → slice_get cons k ≡ Some c → ConIsSmall c

  type-small : (d : DataDecl) → type_is_numbered p.types d ≡ true → TypeIsSmall d.cons
  type-small d e =
      let a = and_parts (is_upper d.name) (is_between 1 256 (length d.cons) && list_all (con_is_numbered p.types) d.cons) e in
      let b = and_parts (is_between 1 256 (length d.cons)) (list_all (con_is_numbered p.types) d.cons) a.1 in
      let c = between 1 256 (length d.cons) b.0 in
      record { some = c.0; few = c.1; each = λ k c at. con-small c (all_at (con_is_numbered p.types) d.cons k c b.1 at) }

  pub type-is-small : (t : ℕ) → t < length p.types → TypeIsSmall (cons_of p.types t)
  type-is-small t lt =
      let d = item-at p.types t lt in
      subst (λ (o : Option DataDecl). TypeIsSmall (cons_in o)) (sym d.1) (type-small d.0 (all_at (type_is_numbered p.types) p.types t d.0 numbered.types d.1))

  pub short-shape : (t : ℕ) (d : LayoutDecl) → decl_of p.layouts t ≡ Some d → length d.shape ≤ 8
  short-shape t d e =
      let at = declared p.layouts t d e in
      let n = all_at (layout_is_numbered p.types) p.layouts at.1 d numbered.layouts at.2 in
      let a = and_parts (nat_lt d.ty (length p.types)) (is_between 1 8 (length d.shape) && (list_all (provenance_is_numbered p.types) (provenances d.tree) && is_short_layout d.tree)) n in
      let b = and_parts (is_between 1 8 (length d.shape)) (list_all (provenance_is_numbered p.types) (provenances d.tree) && is_short_layout d.tree) a.1 in
      (between 1 8 (length d.shape) b.0).1

pub numbered-int : (types : List DataDecl) (bits : ℕ) → is_type types (Int bits) ≡ true → IsShapeWidth bits
numbered-int types bits e = between 1 64 bits e

pub numbered-named : (types : List DataDecl) (s : ℕ) → is_type types (Named s) ≡ true → s < length types
numbered-named types s e = ltb-true s (length types) e

-- Words ------------------------------------------------------------------------------------------------

from-count : (i j : ℕ) (ws : List ℕ) → length (words_from i j ws) ≡ length ws
from-count i j [] = refl
from-count i j (w ∷ ws) = ap suc (from-count i (j + 1) ws)

field-count : (i : ℕ) (ws : List ℕ) → length (field_words i ws) ≡ length ws
field-count i [] = refl
field-count i (w ∷ []) = refl
field-count i (w ∷ v ∷ ws) = from-count i 0 (w ∷ v ∷ ws)

shape-count : (decl : Option LayoutDecl) (room : Option Room) → ((d : LayoutDecl) → decl ≡ Some d → length d.shape ≤ 8) → length (shape_or decl room) ≤ 8
shape-count None room short = omega arith
shape-count (Some d) room short = let s = short d refl in let l = length-map d.shape counted_width in omega (arith, s, l)

module _ (p : Program) (numbered : IsWellNumbered p) (rooms : List Room) where
  width-count : (ty : Ty) → length (widths p rooms ty) ≤ 8
  width-count (Int bits) = omega arith
  width-count (Named s) = shape-count (decl_of p.layouts s) (slice_get rooms s) (λ d e. short-shape p numbered s d e)

  fields-count : (i : ℕ) (tys : List Ty) → length (fields_words p rooms i tys) ≤ 8 * length tys
  fields-count i [] = omega arith
  fields-count i (ty ∷ tys) =
      let both = length-append (field_words i (widths p rooms ty)) (fields_words p rooms (i + 1) tys) in
      let here = field-count i (widths p rooms ty) in
      let few = width-count ty in
      let rest = fields-count (i + 1) tys in
      omega (arith, both, here, few, rest)

  pub words-count : (c : Con) → length c.fields ≤ 32 → length (constructor_words p rooms c.fields) ≤ 256
  words-count c few = let n = fields-count 0 c.fields in omega (arith, n, few)
