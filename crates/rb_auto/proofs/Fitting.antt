-- The parts of a packed word lie in it one after the other, and each fits what it holds.
use Rattle.std.proofs.Common.{◌≡◌, ℕ, zero, suc, ◌+◌, ◌^◌, ◌<◌, ◌≤◌, inl, List, [], ◌∷◌, ◌++◌, map, Bool, true, false, Option, Some, None, refl, sym, ap, subst, ◌∙◌, arith, zero-add}
use Rattle.std.specs.Prelude.{slice_get, nat_le, ◌&&◌, sum, sum_by, if◌then◌else◌}
use Rattle.std.proofs.lemmas.Option.{same_Some, slice_get_within}
use Rattle.std.proofs.lemmas.Bool.{and_parts, leb-true}
use Rattle.std.proofs.lemmas.List.Sums.{sum_by-cons}
use Rattle.rb_core.specs.declared.types.Ty.{Ty}
use Rattle.rb_core.specs.declared.types.Ty.TheVariants.{Int, Named}
use Rattle.rb_core.specs.declared.program.Program.{Program}
use Rattle.rb_core.specs.declared.layout_decl.LayoutDecl.{LayoutDecl}
use Rattle.rb_core.specs.Layouts.{WrittenLeaf}
use Rattle.rb_layout.specs.Positions.{Open, open_positions}
use Rattle.rb_layout.specs.Flattening.{decl_of, shape_of}
use Rattle.rb_layout.specs.Items.{Item, AWord, Number, WrittenPart, items_in, items_of, leaves_in}
use Rattle.rb_layout.specs.A1.{IsShapeWidth}
use Rattle.rb_layout.specs.A3.{Fits, FitsWhole, FitsWord, ItemFits, PartsFit}
use Rattle.rb_layout.proofs.FlatForms.{Each}
use Rattle.rb_auto.specs.declared.field_words.FieldWord.{FieldWord}
use Rattle.rb_auto.specs.declared.form.Form.TheVariants.{Packed}
use Rattle.rb_auto.specs.declared.room.Room.{Room}
use Rattle.rb_auto.specs.declared.room.Room.TheVariants.{Word, Recursive, Bits}
use Rattle.rb_auto.specs.Fields.{cons_of}
use Rattle.rb_auto.specs.FieldWords.{field_words, fields_words, words_from, constructor_words}
use Rattle.rb_auto.specs.Widths.{counted_width, field_width, packed_width, room_width, shape, shape_or, widths, word_width}
use Rattle.rb_auto.specs.inner.PackedRules.{FieldFits, HasFittingParts}
use Rattle.rb_auto.proofs.Leaves.{leaf-is, leaf-written}
use Rattle.rb_auto.proofs.Opens.{field_opens, field-type, opens-are}
use Rattle.rb_auto.proofs.Written.{items-are, written, written_from, written_parts}

-- Parts one after the other ---------------------------------------------------------------------------

-- from a bit up to another, without a gap, each of a bit or more
abbrev pub Stacked : ℕ → ℕ → List WrittenPart → Type 0
Stacked from to [] = from ≤ to
Stacked from to (p ∷ ps) = (p.o ≡ from) × (1 ≤ p.l) × Stacked (from + p.l) to ps

stacked-le : (from to : ℕ) (ps : List WrittenPart) → Stacked from to ps → from ≤ to
stacked-le from to [] h = h
stacked-le from to (p ∷ ps) h = let rest = stacked-le (from + p.l) to ps h.2 in omega (arith, rest)

pub stacked-in : (from to : ℕ) (ps : List WrittenPart) (k : ℕ) (q : WrittenPart) → Stacked from to ps → slice_get ps k ≡ Some q → (from ≤ q.o) × (1 ≤ q.l) × (q.o + q.l ≤ to)
stacked-in from to [] k q h e = absurd cc
stacked-in from to (p ∷ ps) zero q h e =
    let rest = stacked-le (from + p.l) to ps h.2 in
    subst (λ (x : WrittenPart). (from ≤ x.o) × (1 ≤ x.l) × (x.o + x.l ≤ to)) (same_Some p q e) (omega (arith, h.0), h.1, omega (arith, h.0, rest))
stacked-in from to (p ∷ ps) (suc k) q h e = let r = stacked-in (from + p.l) to ps k q h.2 e in (omega (arith, r.0), r.1, r.2)

pub stacked-apart : (from to : ℕ) (ps : List WrittenPart) (j k : ℕ) (q r : WrittenPart) → Stacked from to ps → j < k → slice_get ps j ≡ Some q → slice_get ps k ≡ Some r → q.o + q.l ≤ r.o
stacked-apart from to [] j k q r h lt a b = absurd cc
stacked-apart from to (p ∷ ps) j zero q r h lt a b = absurd (omega (arith, lt))
stacked-apart from to (p ∷ ps) zero (suc k) q r h lt a b =
    let later = stacked-in (from + p.l) to ps k r h.2 b in
    let first = same_Some p q a in
    subst (λ (x : WrittenPart). x.o + x.l ≤ r.o) first (omega (arith, h.0, later.0))
stacked-apart from to (p ∷ ps) (suc j) (suc k) q r h lt a b = stacked-apart (from + p.l) to ps j k q r h.2 (omega (arith, lt)) a b

-- Words --------------------------------------------------------------------------------------------------

abbrev total : List FieldWord → ℕ
total [] = 0
total (w ∷ ws) = w.width + total ws

total-append : (xs ys : List FieldWord) → total (xs ++ ys) ≡ total xs + total ys
total-append [] ys = omega arith
total-append (x ∷ xs) ys = let rest = total-append xs ys in omega (arith, rest)

sum-one : (w : ℕ) → w + 0 ≡ sum (w ∷ [])
sum-one w = omega arith

total-from : (i j : ℕ) (ws : List ℕ) → total (words_from i j ws) ≡ sum ws
total-from i j [] = refl
total-from i j (w ∷ ws) = let rest = total-from i (j + 1) ws in let s = sum_by-cons (λ n. n) w ws in omega (arith, rest, s)

total-field : (i : ℕ) (ws : List ℕ) → total (field_words i ws) ≡ sum ws
total-field i [] = refl
total-field i (w ∷ []) = sum-one w
total-field i (w ∷ v ∷ ws) = total-from i 0 (w ∷ v ∷ ws)

module _ (p : Program) (rooms : List Room) where
  total-fields : (i : ℕ) (tys : List Ty) → total (fields_words p rooms i tys) ≡ sum_by (field_width p rooms) tys
  total-fields i [] = refl
  total-fields i (ty ∷ tys) =
      let both = total-append (field_words i (widths p rooms ty)) (fields_words p rooms (i + 1) tys) in
      let here = total-field i (widths p rooms ty) in
      let rest = total-fields (i + 1) tys in
      let s = sum_by-cons (field_width p rooms) ty tys in
      omega (arith, both, here, rest, s)

-- Widths are those of words ---------------------------------------------------------------------------------

counted-width : (w : ℕ) → IsShapeWidth (counted_width w)
counted-width w = by_test (nat_le 1 w && nat_le w 64) refl
  where
    by_test : (b : Bool) → (nat_le 1 w && nat_le w 64) ≡ b → IsShapeWidth (if b then w else 64)
    by_test true e = let h = and_parts (nat_le 1 w) (nat_le w 64) e in (leb-true 1 w h.0, leb-true w 64 h.1)
    by_test false e = (omega arith, omega arith)

chosen-width : (n : ℕ) (b : Bool) → nat_le (suc n) 64 ≡ b → IsShapeWidth (if b then suc n else 64)
chosen-width n true e = (omega arith, leb-true (suc n) 64 e)
chosen-width n false e = (omega arith, omega arith)

packed-width : (n : ℕ) → IsShapeWidth (packed_width n)
packed-width zero = (omega arith, omega arith)
packed-width (suc n) = chosen-width n (nat_le (suc n) 64) refl

word-width : (room : Room) → IsShapeWidth (word_width room)
word-width Word = (omega arith, omega arith)
word-width Recursive = (omega arith, omega arith)
word-width (Bits n) = packed-width n

room-wide : (room : Option Room) → IsShapeWidth (room_width room)
room-wide None = (omega arith, omega arith)
room-wide (Some room) = word-width room

abbrev AreWidths : List ℕ → Type 0
AreWidths ws = (k w : ℕ) → slice_get ws k ≡ Some w → IsShapeWidth w

counted-all : (ws : List ℕ) → AreWidths (map counted_width ws)
counted-all [] k w e = absurd cc
counted-all (x ∷ ws) zero w e = subst IsShapeWidth (same_Some (counted_width x) w e) (counted-width x)
counted-all (x ∷ ws) (suc k) w e = counted-all ws k w e

shape-widths : (decl : Option LayoutDecl) (room : Option Room) → AreWidths (shape_or decl room)
shape-widths None room zero w e = subst IsShapeWidth (same_Some (room_width room) w e) (room-wide room)
shape-widths None room (suc k) w e = absurd cc
shape-widths (Some d) room k w e = counted-all d.shape k w e

-- Each word fits ------------------------------------------------------------------------------------------

module _ (p : Program) (decls : List LayoutDecl) (rooms : List Room) (all : List Ty) where
  abbrev pub opens : List Open
  opens = field_opens 0 all

  abbrev pub WordFits : FieldWord → Type 0
  WordFits w = IsShapeWidth w.width × Fits decls opens w.width (written w)

  each-append : (xs ys : List FieldWord) → Each WordFits xs → Each WordFits ys → Each WordFits (xs ++ ys)
  each-append [] ys h g = g
  each-append (x ∷ xs) ys h g = (h.0, each-append xs ys h.1 g)

  integer-fits : (i bits : ℕ) → slice_get all i ≡ Some (Int bits) → IsShapeWidth bits → Each WordFits (field_words i (bits ∷ []))
  integer-fits i bits at some = ((some, subst (λ (ty : Option Ty). FitsWhole decls ty bits) (sym (field-type all i (Int bits) at)) refl), tt)

  words-fit : (i s j : ℕ) (ws : List ℕ) → slice_get all i ≡ Some (Named s) → ((k w : ℕ) → slice_get ws k ≡ Some w → IsShapeWidth w × (slice_get (shape_of decls s) (j + k) ≡ Some w))
      → Each WordFits (words_from i j ws)
  words-fit i s j [] at each = tt
  words-fit i s j (w ∷ ws) at each =
      let first = each 0 w refl in
      let here : slice_get (shape_of decls s) j ≡ Some w = ap (λ m. slice_get (shape_of decls s) m) (plus_none j) ∙ first.1 in (
        (first.0, subst (λ (ty : Option Ty). FitsWord decls ty w j) (sym (field-type all i (Named s) at)) here),
        words-fit i s (j + 1) ws at (λ k x e. let r = each (suc k) x e in (r.0, ap (λ m. slice_get (shape_of decls s) m) (shift j k) ∙ r.1)),
      )
    where
      plus_none : (m : ℕ) → m ≡ m + 0
      plus_none m = omega arith

      shift : (m k : ℕ) → m + 1 + k ≡ m + suc k
      shift m k = omega arith

  data-fits : (i s : ℕ) (ws : List ℕ) → slice_get all i ≡ Some (Named s) → shape_of decls s ≡ ws → AreWidths ws → Each WordFits (field_words i ws)
  data-fits i s [] at is positive = tt
  data-fits i s (w ∷ []) at is positive = ((positive 0 w refl, subst (λ (ty : Option Ty). FitsWhole decls ty w) (sym (field-type all i (Named s) at)) is), tt)
  data-fits i s (w ∷ v ∷ ws) at is positive =
      words-fit i s 0 (w ∷ v ∷ ws) at
      (λ k x e. (positive k x e, ap (λ m. slice_get (shape_of decls s) m) (zero-add k) ∙ ap (λ (xs : List ℕ). slice_get xs k) is ∙ e))

  field-fits : (i : ℕ) (ty : Ty) → slice_get all i ≡ Some ty → FieldFits p decls rooms ty → Each WordFits (field_words i (widths p rooms ty))
  field-fits i (Int bits) at fits = integer-fits i bits at fits
  field-fits i (Named s) at fits = data-fits i s (shape p rooms s) at fits (shape-widths (decl_of p.layouts s) (slice_get rooms s))

  pub fields-fit : (i : ℕ) (tys : List Ty) → ((k : ℕ) (ty : Ty) → slice_get tys k ≡ Some ty → (slice_get all (i + k) ≡ Some ty) × FieldFits p decls rooms ty) → Each WordFits (fields_words p rooms i tys)
  fields-fit i [] each = tt
  fields-fit i (ty ∷ tys) each =
      let first = each 0 ty refl in
      each-append (field_words i (widths p rooms ty)) (fields_words p rooms (i + 1) tys)
      (field-fits i ty (ap (λ m. slice_get all m) (plus_none i) ∙ first.0) first.1)
      (fields-fit (i + 1) tys (λ k x e. let r = each (suc k) x e in (ap (λ m. slice_get all m) (shift i k) ∙ r.0, r.1)))
    where
      plus_none : (m : ℕ) → m ≡ m + 0
      plus_none m = omega arith

      shift : (m k : ℕ) → m + 1 + k ≡ m + suc k
      shift m k = omega arith

  -- the words stand one after the other, and their parts fit
  words-stacked : (o to : ℕ) (ws : List FieldWord) → Each WordFits ws → o + total ws ≤ to → Stacked o to (written_from o ws)
  words-stacked o to [] h le = omega (arith, le)
  words-stacked o to (w ∷ ws) ((is_width, _), fits) le =
      (refl, is_width.0, words-stacked (o + w.width) to ws fits (omega (arith, le)))

  abbrev PartFits : WrittenPart → Type 0
  PartFits q = Fits decls opens q.l q.content

  words-parts : (o : ℕ) (ws : List FieldWord) → Each WordFits ws → (k : ℕ) (q : WrittenPart) → slice_get (written_from o ws) k ≡ Some q → PartFits q
  words-parts o [] h k q e = absurd cc
  words-parts o (w ∷ ws) h zero q e = subst PartFits (same_Some (record { o = o; l = w.width; content = written w }) q e) h.0.1
  words-parts o (w ∷ ws) h (suc k) q e = words-parts (o + w.width) ws h.1 k q e

  parts-stacked : (tag n to : ℕ) (ws : List FieldWord) → Each WordFits ws → tag + total ws ≤ to → Stacked 0 to (written_parts tag n ws)
  parts-stacked zero n to ws h le = words-stacked 0 to ws h le
  parts-stacked (suc tag) n to ws h le =
      (refl, omega arith, subst (λ m. Stacked m to (written_from (suc tag) ws)) (sym (zero-add (suc tag))) (words-stacked (suc tag) to ws h le))

  parts-fit : (tag n : ℕ) (ws : List FieldWord) → n < 2 ^ tag → Each WordFits ws → (k : ℕ) (q : WrittenPart) → slice_get (written_parts tag n ws) k ≡ Some q → PartFits q
  parts-fit zero n ws lt h k q e = words-parts 0 ws h k q e
  parts-fit (suc tag) n ws lt h zero q e = subst PartFits (same_Some (record { o = 0; l = suc tag; content = Number n }) q e) lt
  parts-fit (suc tag) n ws lt h (suc k) q e = words-parts (suc tag) ws h k q e

  packed-fits : (tag n width : ℕ) (ws : List FieldWord) → n < 2 ^ tag → Each WordFits ws → tag + total ws ≤ width → PartsFit decls opens width (written_parts tag n ws)
  packed-fits tag n width ws lt h le =
      let stacked = parts-stacked tag n width ws h le in
      record {
        inside = λ k q e placed. (let r = stacked-in 0 width (written_parts tag n ws) k q stacked e in (r.1, r.2));
        disjoint = λ j k q r less a b first second. inl (stacked-apart 0 width (written_parts tag n ws) j k q r stacked less a b);
        fit = parts-fit tag n ws lt h;
      }

pub one-item : (a : Item) (i : ℕ) (item : Item) (P : Item → Type 0) → slice_get (a ∷ []) i ≡ Some item → P a → P item
one-item a zero item P e h = subst P (same_Some a item e) h
one-item a (suc i) item P e h = absurd cc

pub has-fitting-parts : HasFittingParts
has-fitting-parts p decls rooms t tag width tag_fits fields room is n leaf e i item at =
    let form = Packed tag width in
    let c = leaf-is p rooms t form decls n leaf e in
    let ws = constructor_words p rooms c.0.fields in
    let lt = slice_get_within (cons_of p.types t) n c.0 c.1 in
    let opens_is : open_positions p.types leaf.prov ≡ field_opens 0 c.0.fields = ap (λ l. open_positions p.types l.prov) c.2 ∙ opens-are p.types t n c.0 c.1 in
    let items_are : items_of decls t n ≡ AWord width (written_parts tag n ws) ∷ [] =
    ap (λ (d : Option LayoutDecl). items_in (slice_get (leaves_in d) n)) is ∙ ap (λ (w : Option WrittenLeaf). items_in w) (leaf-written p rooms t form n c.0 c.1) ∙ items-are width tag n ws in
    let fit = fields-fit p decls rooms c.0.fields 0 c.0.fields (λ k ty f. (ap (λ m. slice_get c.0.fields m) (zero-add k) ∙ f, fields.each n c.0 k ty c.1 f)) in
    let whole = total-fields p rooms 0 c.0.fields in
    let told = tag_fits.told in
    let here = room n c.0 c.1 in
    subst (λ (os : List Open). ItemFits decls os item) (sym opens_is)
    (one-item (AWord width (written_parts tag n ws)) i item (λ (x : Item). ItemFits decls (field_opens 0 c.0.fields) x) (ap (λ (xs : List Item). slice_get xs i) (sym items_are) ∙ at)
    (packed-fits p decls rooms c.0.fields tag n width ws (omega (arith, lt, told)) fit (omega (arith, whole, here))))
