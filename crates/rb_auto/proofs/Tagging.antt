-- What is derived for a type: in which form, and that its tag and its widest constructor fit.
use Rattle.std.proofs.Common.{◌≡◌, ℕ, zero, suc, ◌+◌, ◌^◌, ◌<◌, ◌≤◌, List, [], ◌∷◌, ◌++◌, length, map, Bool, true, false, Option, Some, None, Ok, Err, refl, sym, ap, subst, ◌∙◌, arith}
use Rattle.std.specs.Prelude.{slice_get, nat_le, ◌==◌, max, if◌then◌else◌}
use Rattle.std.proofs.lemmas.Bool.{and_from, le-leb, leb-true}
use Rattle.std.proofs.lemmas.Option.{same_Some}
use Rattle.rb_core.specs.declared.types.Auto.{Auto}
use Rattle.rb_core.specs.declared.types.Auto.TheVariants as Kinds
use Rattle.rb_core.specs.declared.types.Con.{Con}
use Rattle.rb_core.specs.declared.types.Ty.{Ty}
use Rattle.rb_core.specs.declared.types.Ty.TheVariants.{Int, Named}
use Rattle.rb_core.specs.declared.program.Program.{Program}
use Rattle.rb_core.specs.declared.layout_decl.LayoutDecl.{LayoutDecl}
use Rattle.rb_core.specs.WellNumbered.{IsWellNumbered, is_type}
use Rattle.rb_layout.specs.Flattening.{decl_of, shape_in, shape_of}
use Rattle.rb_layout.specs.A1.{HasShape, IsShapeWidth}
use Rattle.rb_auto.specs.declared.fault.AutoFault.TheVariants.{PackedWide}
use Rattle.rb_auto.specs.declared.form.Form.{Form}
use Rattle.rb_auto.specs.declared.form.Form.TheVariants.{Boxed, Packed}
use Rattle.rb_auto.specs.declared.room.Room.{Room}
use Rattle.rb_auto.specs.declared.room.Room.TheVariants.{Word, Recursive, Bits}
use Rattle.rb_auto.specs.Fields.{HasField, cons_of}
use Rattle.rb_auto.specs.Widths.{bits_from, con_width, counted_width, greatest, need, packed_width, room_width, shape, shape_or, tag_bits, tag_of}
use Rattle.rb_auto.specs.Items.{form_width}
use Rattle.rb_auto.specs.Derived.{derived_layout}
use Rattle.rb_auto.specs.Rooms.{AreRooms, AreTheRooms, kind_of}
use Rattle.rb_auto.specs.Answers.{Derives, IsDerivedAnswer, answer, answer_by, packed_answer}
use Rattle.rb_auto.specs.Completed.{Completes}
use Rattle.rb_auto.specs.inner.Standing.{TagFits}
use Rattle.rb_auto.specs.inner.PackedRules.{FieldFits, FieldsFit, HasRoom}
use Rattle.rb_auto.proofs.Numbering.{declared, numbered-int, type-is-small}

-- Tags --------------------------------------------------------------------------------------------------

bits-enough : (more bits n : ℕ) → n ≤ 2 ^ (bits + more) → n ≤ 2 ^ bits_from more bits n
unfolding bits_from
bits-enough zero bits n le = subst (λ m. n ≤ 2 ^ m) (none bits) le
  where
    none : (m : ℕ) → m + 0 ≡ m
    none m = omega arith
bits-enough (suc more) bits n le = by_test (nat_le n (2 ^ bits)) refl (bits-enough more (suc bits) n (subst (λ m. n ≤ 2 ^ m) (one_on bits more) le))
  where
    one_on : (a b : ℕ) → a + suc b ≡ suc a + b
    one_on a b = omega arith

    by_test : (b : Bool) → nat_le n (2 ^ bits) ≡ b → n ≤ 2 ^ bits_from more (suc bits) n → n ≤ 2 ^ (if b then bits else bits_from more (suc bits) n)
    by_test true is rest = leb-true n (2 ^ bits) is
    by_test false is rest = rest

tag-enough : (n : ℕ) → n ≤ 256 → n ≤ 2 ^ tag_bits n
unfolding tag_bits
tag-enough n le = bits-enough 63 0 n (omega (arith, le))

greatest-at : (f : Con → ℕ) (cs : List Con) (k : ℕ) (c : Con) → slice_get cs k ≡ Some c → f c ≤ greatest (map f cs)
greatest-at f [] k c e = absurd cc
greatest-at f (x ∷ cs) zero c e = let same = ap f (same_Some x c e) in omega (arith, same)
greatest-at f (x ∷ cs) (suc k) c e = let rest = greatest-at f cs k c e in omega (arith, rest)

-- Forms -------------------------------------------------------------------------------------------------

-- the form of what is derived for a type
abbrev pub IsForm : Program → List (Option Auto) → List Room → ℕ → Form → Type 0
IsForm p kinds rooms t Boxed = kind_of kinds t ≡ Some Kinds.Boxed
IsForm p kinds rooms t (Packed tag width) =
    (kind_of kinds t ≡ Some Kinds.Packed) × (n : ℕ) × (slice_get rooms t ≡ Some (Bits n)) × (n ≤ 64) × (tag ≡ tag_of p t) × (width ≡ max n 1)

abbrev pub IsDerived : Program → List (Option Auto) → List Room → ℕ → LayoutDecl → Type 0
IsDerived p kinds rooms t d = (form : Form) × (d ≡ derived_layout p rooms t form) × IsForm p kinds rooms t form

same-ok : (a b : LayoutDecl) → ◌≡◌ {A = Derives} (Ok a) (Ok b) → a ≡ b
same-ok a b e = cc

module _ (p : Program) (kinds : List (Option Auto)) (rooms : List Room) (t : ℕ) (d : LayoutDecl) where
  fit-form : (n : ℕ) → kind_of kinds t ≡ Some Kinds.Packed → slice_get rooms t ≡ Some (Bits n) → (b : Bool) → nat_le n 64 ≡ b
      → ◌≡◌ {A = Derives} (Ok d) (if b then Ok (derived_layout p rooms t (Packed (tag_of p t) (max n 1))) else Err (PackedWide t n)) → IsDerived p kinds rooms t d
  fit-form n kind room true le e = (Packed (tag_of p t) (max n 1), same-ok d (derived_layout p rooms t (Packed (tag_of p t) (max n 1))) e, (kind, n, room, leb-true n 64 le, refl, refl))
  fit-form n kind room false le e = absurd cc

  packed-form : (room : Option Room) → kind_of kinds t ≡ Some Kinds.Packed → slice_get rooms t ≡ room → ◌≡◌ {A = Derives} (Ok d) (packed_answer p rooms t room) → IsDerived p kinds rooms t d
  packed-form None kind is e = absurd cc
  packed-form (Some Word) kind is e = absurd cc
  packed-form (Some Recursive) kind is e = absurd cc
  packed-form (Some (Bits n)) kind is e = fit-form n kind is (nat_le n 64) refl e

  kind-form : (kind : Option Auto) → kind_of kinds t ≡ kind → ◌≡◌ {A = Derives} (Ok d) (answer_by p rooms t kind) → IsDerived p kinds rooms t d
  kind-form None is e = absurd cc
  kind-form (Some Kinds.Boxed) is e = (Boxed, same-ok d (derived_layout p rooms t Boxed) e, is)
  kind-form (Some Kinds.Packed) is e = packed-form (slice_get rooms t) is refl e

  pub answer-form : ◌≡◌ {A = Derives} (Ok d) (answer p kinds rooms t) → IsDerived p kinds rooms t d
  answer-form e = kind-form (kind_of kinds t) refl e

-- What a form says of tags, widths and rooms ---------------------------------------------------------------

-- the bits that a packed type needs
packed-needs : (p : Program) (kinds : List (Option Auto)) (rooms : List Room) (t n : ℕ) → AreRooms p kinds rooms → slice_get rooms t ≡ Some (Bits n) → n ≡ need p rooms t
packed-needs p kinds rooms t n are at = (are.each t (Bits n) at).2

pub form-width : (p : Program) (kinds : List (Option Auto)) (rooms : List Room) (t : ℕ) (form : Form) → IsForm p kinds rooms t form → IsShapeWidth (form_width form)
form-width p kinds rooms t Boxed is = (omega arith, omega arith)
form-width p kinds rooms t (Packed tag width) is = let n = is.1 in let le = is.3 in let w = is.5 in (omega (arith, w), omega (arith, le, w))

module _ (p : Program) (kinds : List (Option Auto)) (rooms : List Room) (numbered : IsWellNumbered p) (are : AreRooms p kinds rooms) (t : ℕ) (lt : t < length p.types) where
  pub tag-fits : (form : Form) → IsForm p kinds rooms t form → TagFits p t form
  tag-fits Boxed is =
      let small = type-is-small p numbered t lt in
      let some = small.some in
      let few = small.few in
      record { some = omega (arith, some); told = omega (arith, few); width = (omega arith, omega arith); tag = omega arith }
  tag-fits (Packed tag width) is =
      let small = type-is-small p numbered t lt in
      let some = small.some in
      let few = small.few in
      let needs = packed-needs p kinds rooms t is.1 are is.2 in
      let told : length (cons_of p.types t) ≤ 2 ^ tag = subst (λ m. length (cons_of p.types t) ≤ 2 ^ m) (sym is.4) (tag-enough (length (cons_of p.types t)) few) in
      let tag_is = is.4 in
      let width_is = is.5 in
      record { some = omega (arith, some); told = told; width = form-width p kinds rooms t (Packed tag width) is; tag = omega (arith, needs, tag_is, width_is) }

  pub has-room : (tag width : ℕ) → IsForm p kinds rooms t (Packed tag width) → HasRoom p rooms t tag width
  has-room tag width is k c at =
      let needs = packed-needs p kinds rooms t is.1 are is.2 in
      let most = greatest-at (con_width p rooms) (cons_of p.types t) k c at in
      let tag_is = is.4 in
      let width_is = is.5 in
      omega (arith, needs, most, tag_is, width_is)

-- The shapes of fields --------------------------------------------------------------------------------------

counted-is : (w : ℕ) → IsShapeWidth w → counted_width w ≡ w
counted-is w h = ap (λ (b : Bool). if b then w else 64) (and_from (nat_le 1 w) (nat_le w 64) (le-leb 1 w h.0) (le-leb w 64 h.1))

all-counted : (ws : List ℕ) → ((i w : ℕ) → slice_get ws i ≡ Some w → IsShapeWidth w) → map counted_width ws ≡ ws
all-counted [] each = refl
all-counted (w ∷ ws) each =
    ap (λ x. x ∷ map counted_width ws) (counted-is w (each 0 w refl)) ∙ ap (λ (xs : List ℕ). w ∷ xs) (all-counted ws (λ i x e. each (suc i) x e))

pub decl-first : (xs ys : List LayoutDecl) (t : ℕ) (d : LayoutDecl) → decl_of xs t ≡ Some d → decl_of (xs ++ ys) t ≡ Some d
decl-first [] ys t d e = absurd cc
decl-first (x ∷ xs) ys t d e = by_test (x.ty == t) (λ h. decl-first xs ys t d h) e
  where
    by_test : (b : Bool) → (decl_of xs t ≡ Some d → decl_of (xs ++ ys) t ≡ Some d)
        → (if b then Some x else decl_of xs t) ≡ Some d → (if b then Some x else decl_of (xs ++ ys) t) ≡ Some d
    by_test true rest h = h
    by_test false rest h = rest h

pub decl-second : (xs ys : List LayoutDecl) (t : ℕ) → decl_of xs t ≡ None → decl_of (xs ++ ys) t ≡ decl_of ys t
decl-second [] ys t e = refl
decl-second (x ∷ xs) ys t e = by_test (x.ty == t) (λ h. decl-second xs ys t h) e
  where
    by_test : (b : Bool) → (decl_of xs t ≡ None → decl_of (xs ++ ys) t ≡ decl_of ys t)
        → (if b then Some x else decl_of xs t) ≡ None → (if b then Some x else decl_of (xs ++ ys) t) ≡ decl_of ys t
    by_test true rest h = absurd cc
    by_test false rest h = rest h

-- a packed type's word is as wide as its room says
packed-room : (n : ℕ) → n ≤ 64 → packed_width n ≡ max n 1
packed-room zero le = omega arith
packed-room (suc n) le = ap (λ (b : Bool). if b then suc n else 64) (le-leb (suc n) 64 le) ∙ at_least n
  where
    at_least : (m : ℕ) → suc m ≡ max (suc m) 1
    at_least m = omega arith

no-kind : (a b : Auto) → ◌≡◌ {A = Option Auto} (Some a) (Some b) → (a ≡ b → ⊥) → ⊥
no-kind a b e ne = ne (same_Some a b e)

module _ (p : Program) (kinds : List (Option Auto)) (rooms : List Room) (are : AreRooms p kinds rooms) (s : ℕ) where
  boxed-room : (room : Option Room) → slice_get rooms s ≡ room → kind_of kinds s ≡ Some Kinds.Boxed → room_width room ≡ 64
  boxed-room None at kind = refl
  boxed-room (Some Word) at kind = refl
  boxed-room (Some Recursive) at kind = refl
  boxed-room (Some (Bits n)) at kind = absurd (no-kind Kinds.Boxed Kinds.Packed (sym kind ∙ (are.each s (Bits n) at).0) (λ e. cc))

  form-room : (form : Form) → IsForm p kinds rooms s form → room_width (slice_get rooms s) ≡ form_width form
  form-room Boxed is = boxed-room (slice_get rooms s) refl is
  form-room (Packed tag width) is = ap room_width is.2 ∙ packed-room is.1 is.3 ∙ sym is.5

-- the rooms by which a derived layout was derived are these
pub of-rooms : (p : Program) (kinds : List (Option Auto)) (rooms : List Room) (t : ℕ) (d : LayoutDecl) → AreTheRooms p kinds rooms → IsDerivedAnswer p kinds t (Ok d) → IsDerived p kinds rooms t d
of-rooms p kinds rooms t d are is =
    answer-form p kinds rooms t d (is.2 ∙ ap (λ (rs : List Room). answer p kinds rs t) (are.only is.0 is.1.are))

module _ (p : Program) (kinds : List (Option Auto)) (rooms : List Room) (derived_ones : List LayoutDecl) (numbered : IsWellNumbered p) (are : AreTheRooms p kinds rooms) (completes : Completes p kinds derived_ones) where
  abbrev decls : List LayoutDecl
  decls = p.layouts ++ derived_ones

  -- what is derived for a type that has one
  pub derived-is : (t : ℕ) (d : LayoutDecl) → decl_of derived_ones t ≡ Some d → IsDerived p kinds rooms t d
  derived-is t d e =
      let at = declared derived_ones t d e in
      of-rooms p kinds rooms t d are (subst (λ s. IsDerivedAnswer p kinds s (Ok d)) at.0 (completes.each at.1 d at.2))

  shape-derived : (s : ℕ) (d : LayoutDecl) → decl_of p.layouts s ≡ None → decl_of derived_ones s ≡ Some d → shape_of decls s ≡ shape p rooms s
  shape-derived s d none e =
      let is = derived-is s d e in
      ap shape_in (decl-second p.layouts derived_ones s none ∙ e) ∙ ap (λ (x : LayoutDecl). x.shape) is.1
      ∙ ap (λ w. w ∷ []) (sym (form-room p kinds rooms are.are s is.0 is.2)) ∙ sym (ap (λ (o : Option LayoutDecl). shape_or o (slice_get rooms s)) none)

  shape-written : (s : ℕ) (d : LayoutDecl) → decl_of p.layouts s ≡ Some d → HasShape (decl_of decls s) → shape_of decls s ≡ shape p rooms s
  shape-written s d e has =
      let whole = decl-first p.layouts derived_ones s d e in
      ap shape_in whole ∙ sym (all-counted d.shape (subst HasShape whole has)) ∙ sym (ap (λ (o : Option LayoutDecl). shape_or o (slice_get rooms s)) e)

  shape-second : (s : ℕ) (o : Option LayoutDecl) → decl_of derived_ones s ≡ o → decl_of p.layouts s ≡ None → HasShape (decl_of decls s) → shape_of decls s ≡ shape p rooms s
  shape-second s None e none has = absurd (subst HasShape (decl-second p.layouts derived_ones s none ∙ e) has)
  shape-second s (Some d) e none has = shape-derived s d none e

  shape-first : (s : ℕ) (o : Option LayoutDecl) → decl_of p.layouts s ≡ o → HasShape (decl_of decls s) → shape_of decls s ≡ shape p rooms s
  shape-first s None e has = shape-second s (decl_of derived_ones s) refl e has
  shape-first s (Some d) e has = shape-written s d e has

  pub fields-fit : (t : ℕ) → t < length p.types → ((s : ℕ) → HasField p.types t s → HasShape (decl_of decls s)) → FieldsFit p decls rooms t
  fields-fit t lt shapes = record {
    each = λ k c i ty con field. fits ty (((type-is-small p numbered t lt).each k c con).typed i ty field)
        (λ s is. shapes s (record { con_number = k; con = c; field = i; is_con = con; is_field = field ∙ ap Some is }));
  }
    where
      fits : (ty : Ty) → is_type p.types ty ≡ true → ((s : ℕ) → ty ≡ Named s → HasShape (decl_of decls s)) → FieldFits p decls rooms ty
      fits (Int bits) ok has = numbered-int p.types bits ok
      fits (Named s) ok has = shape-first s (decl_of p.layouts s) refl (has s refl)
