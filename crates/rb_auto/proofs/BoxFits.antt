-- The parts of a boxed constructor's words lie in them, are disjoint, and fit what they hold.
use Rattle.std.proofs.Common.{◌≡◌, ℕ, ◌^◌, ◌<◌, inl, List, [], ◌∷◌, length, map, Bool, true, false, Option, Some, refl, sym, ap, subst, ◌∙◌, arith, zero-add}
use Rattle.std.specs.Prelude.{slice_get, nat_le}
use Rattle.std.proofs.lemmas.Option.{slice_get_within}
use Rattle.rb_core.specs.declared.types.Con.{Con}
use Rattle.rb_core.specs.declared.types.Ty.{Ty}
use Rattle.rb_core.specs.declared.program.Program.{Program}
use Rattle.rb_core.specs.declared.layout_decl.LayoutDecl.{LayoutDecl}
use Rattle.rb_core.specs.Layouts.{WrittenLeaf}
use Rattle.rb_layout.specs.Positions.{Open, open_positions}
use Rattle.rb_layout.specs.Flattening.{decl_of}
use Rattle.rb_layout.specs.Items.{Address, Item, Number, WrittenPart, items_in, items_of, leaves_in}
use Rattle.rb_layout.specs.A3.{Fits, ItemFits, PartsFit}
use Rattle.rb_layout.proofs.FlatForms.{Each}
use Rattle.rb_auto.specs.declared.field_words.FieldWord.{FieldWord}
use Rattle.rb_auto.specs.declared.form.Form.TheVariants.{Boxed}
use Rattle.rb_auto.specs.declared.room.Room.{Room}
use Rattle.rb_auto.specs.Fields.{cons_of}
use Rattle.rb_auto.specs.FieldWords.{constructor_words}
use Rattle.rb_auto.specs.Items.{groups}
use Rattle.rb_auto.specs.Derived.{derived_layout}
use Rattle.rb_auto.specs.inner.Standing.{EachDerivedLeaf, TagFits}
use Rattle.rb_auto.specs.inner.PackedRules.{FieldsFit}
use Rattle.rb_auto.proofs.Leaves.{leaf-is, leaf-written}
use Rattle.rb_auto.proofs.Opens.{field_opens, opens-are}
use Rattle.rb_auto.proofs.Written.{written}
use Rattle.rb_auto.proofs.Lists.{each-at, each-flat, each-group, each-map}
use Rattle.rb_auto.proofs.BoxItems.{box_written, boxed-items, field_written, group_written, inner_written, pointer_written, written_at}
use Rattle.rb_auto.proofs.Fitting.{Stacked, WordFits, stacked-apart, stacked-in}
use Rattle.rb_auto.proofs.Fitting as Fitting

module _ (decls : List LayoutDecl) (opens : List Open) where
  abbrev PartFits : WrittenPart → Type 0
  PartFits q = Fits decls opens q.l q.content

  -- parts one after the other, each of which fits what it holds
  stacked-fit : (width : ℕ) (ps : List WrittenPart) → Stacked 0 width ps → Each PartFits ps → PartsFit decls opens width ps
  stacked-fit width ps stacked fits = record {
    inside = λ k q e placed. (let r = stacked-in 0 width ps k q stacked e in (r.1, r.2));
    disjoint = λ j k q r less a b first second. inl (stacked-apart 0 width ps j k q r stacked less a b);
    fit = λ k q e. each-at PartFits ps k q fits e;
  }

module _ (p : Program) (decls : List LayoutDecl) (rooms : List Room) (all : List Ty) where
  abbrev FitsHere : Item → Type 0
  FitsHere = ItemFits decls (field_opens 0 all)

  field-fits : (w : FieldWord) → WordFits p decls rooms all w → FitsHere (field_written w)
  field-fits w h =
      let wide = h.0.1 in
      stacked-fit decls (field_opens 0 all) 64 (written_at 0 w.width (written w) ∷ []) (refl, h.0.0, omega (arith, wide)) (h.1, tt)

  pointer-fits : FitsHere pointer_written
  pointer-fits = stacked-fit decls (field_opens 0 all) 64 (written_at 0 64 (Address 8) ∷ []) (refl, omega arith, omega arith) (tt, tt)

  words-fit : (ws : List FieldWord) → Each (WordFits p decls rooms all) ws → Each FitsHere (map field_written ws)
  words-fit ws h = each-map (WordFits p decls rooms all) FitsHere field_written field-fits ws h

  group-fits : (g : List FieldWord) → Each (WordFits p decls rooms all) g → Each FitsHere (group_written g)
  group-fits g h = (pointer-fits, words-fit g h)

  inner-fits : (one : Bool) (ws : List FieldWord) → Each (WordFits p decls rooms all) ws → Each FitsHere (inner_written one ws)
  inner-fits true ws h = words-fit ws h
  inner-fits false ws h =
      each-flat (Each (WordFits p decls rooms all)) FitsHere group_written group-fits (groups (length ws) ws) (each-group (WordFits p decls rooms all) (length ws) ws h)

  box-fits : (n : ℕ) (ws : List FieldWord) → n < 2 ^ 8 → Each (WordFits p decls rooms all) ws → Each FitsHere (box_written n ws)
  box-fits n [] lt h = (stacked-fit decls (field_opens 0 all) 64 (written_at 0 8 (Number n) ∷ []) (refl, omega arith, omega arith) (lt, tt), tt)
  box-fits n (w ∷ ws) lt h = (
    stacked-fit decls (field_opens 0 all) 64 (written_at 0 8 (Number n) ∷ written_at 8 56 (Address 8) ∷ [])
        (refl, omega arith, (omega arith, omega arith, omega arith)) (lt, (tt, tt)),
    inner-fits (nat_le (length (w ∷ ws)) 64) (w ∷ ws) h,
  )

-- the items of a boxed leaf of a completed program
pub box-items-of : (p : Program) (decls : List LayoutDecl) (rooms : List Room) (t n : ℕ) (c : Con) → slice_get (cons_of p.types t) n ≡ Some c
    → decl_of decls t ≡ Some (derived_layout p rooms t Boxed) → items_of decls t n ≡ box_written n (constructor_words p rooms c.fields)
box-items-of p decls rooms t n c at is =
    ap (λ (d : Option LayoutDecl). items_in (slice_get (leaves_in d) n)) is ∙ ap (λ (w : Option WrittenLeaf). items_in w) (leaf-written p rooms t Boxed n c at)
    ∙ boxed-items n (constructor_words p rooms c.fields)

pub box-has-fitting-parts : (p : Program) (decls : List LayoutDecl) (rooms : List Room) (t : ℕ) → TagFits p t Boxed → FieldsFit p decls rooms t
    → decl_of decls t ≡ Some (derived_layout p rooms t Boxed)
    → EachDerivedLeaf p decls rooms t Boxed (λ n leaf. (i : ℕ) (item : Item) → slice_get (items_of decls t n) i ≡ Some item
    → ItemFits decls (open_positions p.types leaf.prov) item)
box-has-fitting-parts p decls rooms t tag_fits fields is n leaf e i item at =
    let c = leaf-is p rooms t Boxed decls n leaf e in
    let all = c.0.fields in
    let ws = constructor_words p rooms all in
    let lt = slice_get_within (cons_of p.types t) n c.0 c.1 in
    let told = tag_fits.told in
    let opens_is : open_positions p.types leaf.prov ≡ field_opens 0 all = ap (λ l. open_positions p.types l.prov) c.2 ∙ opens-are p.types t n c.0 c.1 in
    let fit = Fitting.fields-fit p decls rooms all 0 all (λ k ty f. (ap (λ m. slice_get all m) (zero-add k) ∙ f, fields.each n c.0 k ty c.1 f)) in
    subst (λ (os : List Open). ItemFits decls os item) (sym opens_is)
    (each-at (FitsHere p decls rooms all) (box_written n ws) i item (box-fits p decls rooms all n ws (omega (arith, lt, told)) fit)
    (ap (λ (xs : List Item). slice_get xs i) (sym (box-items-of p decls rooms t n c.0 c.1 is)) ∙ at))
