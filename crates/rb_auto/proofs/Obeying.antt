-- Derived layouts obey the rules of agreement, in the program that they complete.
use Rattle.std.proofs.Common.{◌≡◌, ℕ, ◌<◌, ◌++◌, List, [], length, Option, Some, None, refl, sym, ap, subst, ◌∙◌, arith}
use Rattle.std.specs.Prelude.{slice_get}
use Rattle.std.proofs.lemmas.Option.{same_Some, slice_get_within}
use Rattle.rb_core.specs.declared.types.Auto.{Auto}
use Rattle.rb_core.specs.declared.types.Auto.TheVariants as Kinds
use Rattle.rb_core.specs.declared.program.Program.{Program}
use Rattle.rb_core.specs.declared.layout_decl.LayoutDecl.{LayoutDecl}
use Rattle.rb_core.specs.Layouts.{leaves}
use Rattle.rb_core.specs.WellNumbered.{IsWellNumbered}
use Rattle.rb_layout.specs.declared.layout.Layout.{Layout}
use Rattle.rb_layout.specs.declared.layout.Leaf.{Leaf}
use Rattle.rb_layout.specs.Positions.{layout_of, open_positions}
use Rattle.rb_layout.specs.Flattening.{HaveLayouts, decl_of, flat_layout, flat_layouts, flat_leaf, type_at}
use Rattle.rb_layout.specs.Items.{Item, items_of}
use Rattle.rb_layout.specs.Cycles.{HasNoCycle, IsChain}
use Rattle.rb_layout.specs.A1.{HasShape}
use Rattle.rb_layout.specs.A2.{HasRoot}
use Rattle.rb_layout.specs.A3.{ItemFits}
use Rattle.rb_layout.specs.A4.{HasBlocks}
use Rattle.rb_layout.specs.A5.{IsApart, IsComplete}
use Rattle.rb_layout.specs.A6.{HoldsOnce}
use Rattle.rb_layout.specs.A7.{MeetsAll}
use Rattle.rb_layout.specs.A8.{AllSplitWell}
use Rattle.rb_layout.specs.A9.{Flattens, HasPointerPart}
use Rattle.rb_layout.specs.A10.{HoldsField}
use Rattle.rb_layout.proofs.LayoutLists.{are_in_order}
use Rattle.rb_auto.specs.declared.form.Form.{Form}
use Rattle.rb_auto.specs.declared.form.Form.TheVariants.{Boxed, Packed}
use Rattle.rb_auto.specs.declared.room.Room.{Room}
use Rattle.rb_auto.specs.declared.room.Room.TheVariants.{Bits}
use Rattle.rb_auto.specs.Fields.{HasField, IsFinite}
use Rattle.rb_auto.specs.Items.{form_width}
use Rattle.rb_auto.specs.Derived.{derived_layout}
use Rattle.rb_auto.specs.Rooms.{AreRooms, AreTheRooms, kind_of}
use Rattle.rb_auto.specs.Completed.{Completes, HaveTypedProvenances, completed_program, with_layouts}
use Rattle.rb_auto.specs.Obeying.{DerivedAreOnNoCycle, DerivedFlattenNothing, DerivedObey, FieldsHaveShapes, ObeysAt, PackedHaveNoPointer}
use Rattle.rb_auto.specs.inner.Standing.{EachDerivedLeaf, flat_derived}
use Rattle.rb_auto.specs.inner.PackedRules.{FieldsFit}
use Rattle.rb_auto.specs.inner.HoldingRules.{HoldWhatTheyReach}
use Rattle.rb_auto.proofs.Numbering.{declared, type-is-small, words-count}
use Rattle.rb_auto.proofs.Tagging.{IsForm, decl-first, decl-second, derived-is, fields-fit, form-width, has-room, tag-fits}
use Rattle.rb_auto.proofs.Leaves.{get-map}
use Rattle.rb_auto.proofs.Rooting.{has-its-root, one-width}
use Rattle.rb_auto.proofs.Matching.{flattens-nothing, has-a-leaf, has-one-leaf}
use Rattle.rb_auto.proofs.Splitting.{splits-its-tag}
use Rattle.rb_auto.proofs.Knowing.{meets-its-tests}
use Rattle.rb_auto.proofs.Unblocked.{has-no-blocks, has-no-pointer}
use Rattle.rb_auto.proofs.Fitting.{has-fitting-parts}
use Rattle.rb_auto.proofs.Holding.{holds-its-fields}
use Rattle.rb_auto.proofs.Reaching.{box-is-on-no-cycle, finite-is-on-no-cycle, opens-its-fields}
use Rattle.rb_auto.proofs.Provenances.{typed-reaches}
use Rattle.rb_auto.proofs.BoxBlocks.{HasFewWords, box-has-blocks}
use Rattle.rb_auto.proofs.BoxFits.{box-has-fitting-parts}
use Rattle.rb_auto.proofs.BoxHolds.{box-holds-its-fields}

-- By form -----------------------------------------------------------------------------------------------

module _ (p : Program) (kinds : List (Option Auto)) (rooms : List Room) (numbered : IsWellNumbered p) (are : AreRooms p kinds rooms) (t : ℕ) (lt : t < length p.types) (decls : List LayoutDecl) where
  few-words : HasFewWords p rooms t
  few-words k c at =
      let small = (type-is-small p numbered t lt).each k c at in
      let n = words-count p numbered rooms c small.few in
      omega (arith, n)

  have-blocks : (form : Form) → EachDerivedLeaf p decls rooms t form (λ n leaf. HasBlocks leaf)
  have-blocks Boxed = box-has-blocks p decls rooms t few-words
  have-blocks (Packed tag width) = has-no-blocks p decls rooms t tag width

  fit-parts : (form : Form) → IsForm p kinds rooms t form → FieldsFit p decls rooms t → decl_of decls t ≡ Some (derived_layout p rooms t form)
      → EachDerivedLeaf p decls rooms t form (λ n leaf. (i : ℕ) (item : Item) → slice_get (items_of decls t n) i ≡ Some item → ItemFits decls (open_positions p.types leaf.prov) item)
  fit-parts Boxed form fields is = box-has-fitting-parts p decls rooms t (tag-fits p kinds rooms numbered are t lt Boxed form) fields is
  fit-parts (Packed tag width) form fields is =
      has-fitting-parts p decls rooms t tag width (tag-fits p kinds rooms numbered are t lt (Packed tag width) form) fields
      (has-room p kinds rooms numbered are t lt tag width form) is

  hold-fields : (form : Form) → FieldsFit p decls rooms t → decl_of decls t ≡ Some (derived_layout p rooms t form)
      → EachDerivedLeaf p decls rooms t form (λ n leaf. HoldsOnce (with_layouts p decls) leaf (items_of decls t n))
  hold-fields Boxed fields is = box-holds-its-fields p decls rooms t fields is
  hold-fields (Packed tag width) fields is = holds-its-fields p decls rooms t tag width fields is

-- The layout of a type in the completed program ---------------------------------------------------------------

module _ (p : Program) (kinds : List (Option Auto)) (added : List LayoutDecl) (numbered : IsWellNumbered p) (completes : Completes p kinds added) where
  abbrev decls : List LayoutDecl
  decls = p.layouts ++ added

  -- what is derived for a type: by which rooms, and in which form
  pub record Found (t : ℕ) : Type 0 where
    pub rooms : List Room
    pub are : AreTheRooms p kinds rooms
    pub form : Form
    pub is_form : IsForm p kinds rooms t form
    pub is_decl : decl_of decls t ≡ Some (derived_layout p rooms t form)

  found-by : (t : ℕ) (d : LayoutDecl) → decl_of p.layouts t ≡ None → decl_of added t ≡ Some d → Found t
  found-by t d none e =
      let at = declared added t d e in
      let answer = completes.each at.1 d at.2 in
      let is = derived-is p kinds answer.0 added numbered answer.1 completes t d e in
      record { rooms = answer.0; are = answer.1; form = is.0; is_form = is.2; is_decl = decl-second p.layouts added t none ∙ e ∙ ap Some is.1 }

  pub found : (t : ℕ) (kind : Auto) → t < length p.types → kind_of kinds t ≡ Some kind → Found t
  found t kind lt is = let d = completes.all t kind lt is in found-by t d.0 (completes.alone t kind is) d.1

  pub derived-shape : (t : ℕ) → Found t → HasShape (decl_of decls t)
  derived-shape t f =
      subst HasShape (sym f.is_decl) (λ i w e. one-width (form_width f.form) i w (form-width p kinds f.rooms t f.form f.is_form) e)

  module _ (have : HaveLayouts (completed_program p added)) where
    abbrev layouts : List Layout
    layouts = flat_layouts (completed_program p added)

    -- the layouts stand in the types' order
    pub layout-is : (t : ℕ) (layout : Layout) → layout_of layouts t ≡ Some layout → (d : LayoutDecl) × (decl_of decls t ≡ Some d) × (flat_layout (completed_program p added) d ≡ layout)
    layout-is t layout e =
        let order = are_in_order (completed_program p added) have in
        let within = slice_get_within layouts t layout e in
        let count = order.count in
        let lt : t < length p.types = omega (arith, within, count) in
        let d = have t lt in
        (d.0, d.1, same_Some (flat_layout (completed_program p added) d.0) layout (sym (order.each t d.0 lt d.1) ∙ e))

    same-layout : (t : ℕ) (f : Found t) (layout : Layout) → layout_of layouts t ≡ Some layout → flat_derived p decls f.rooms t f.form ≡ layout
    same-layout t f layout e =
        let is = layout-is t layout e in
        ap (λ (d : LayoutDecl). flat_layout (completed_program p added) d) (same_Some (derived_layout p f.rooms t f.form) is.0 (sym f.is_decl ∙ is.1)) ∙ is.2

    leaf-at : (t : ℕ) (f : Found t) (layout : Layout) (n : ℕ) (leaf : Leaf) → layout_of layouts t ≡ Some layout → slice_get layout.leaves n ≡ Some leaf
        → slice_get (flat_derived p decls f.rooms t f.form).leaves n ≡ Some leaf
    leaf-at t f layout n leaf at e = ap (λ (l : Layout). slice_get l.leaves n) (same-layout t f layout at) ∙ e

    obeys : (t : ℕ) → t < length p.types → (f : Found t) → FieldsHaveShapes (completed_program p added) t → ObeysAt (completed_program p added) layouts t
    obeys t lt f shapes =
        let rooms = f.rooms in
        let form = f.form in
        let are = f.are.are in
        let tag = tag-fits p kinds rooms numbered are t lt form f.is_form in
        let fields = fields-fit p kinds rooms added numbered f.are completes t lt shapes in
        let same : (layout : Layout) → layout_of layouts t ≡ Some layout → flat_derived p decls rooms t form ≡ layout = same-layout t f in
        let leaf : (layout : Layout) (n : ℕ) (l : Leaf) → layout_of layouts t ≡ Some layout → slice_get layout.leaves n ≡ Some l
        → slice_get (flat_derived p decls rooms t form).leaves n ≡ Some l = leaf-at t f in
        record {
          a1 = derived-shape t f;
          a2 = λ layout at n l e. subst (λ (x : Layout). HasRoot x.shape l) (same layout at) (has-its-root p decls rooms t form n l (leaf layout n l at e));
          a3 = λ layout at n l e. fit-parts p kinds rooms numbered are t lt decls form f.is_form fields f.is_decl n l (leaf layout n l at e);
          a4 = λ layout at n l e. have-blocks p kinds rooms numbered are t lt decls form n l (leaf layout n l at e);
          apart = λ layout at n l e. subst (λ (x : Layout). IsApart p.types t x n l) (same layout at) (has-one-leaf p decls rooms t form n l (leaf layout n l at e));
          complete = λ layout at. subst (λ (x : Layout). IsComplete p.types t x) (same layout at) (has-a-leaf p decls rooms t form);
          a6 = λ layout at n l e. hold-fields p kinds rooms numbered are t lt decls form fields f.is_decl n l (leaf layout n l at e);
          a7 = λ layout at n l e.
              subst (λ (x : Layout). MeetsAll p.types layouts x.tree n l) (same layout at) (meets-its-tests p decls rooms t form tag layouts n l (leaf layout n l at e));
          a8 = λ layout at. subst AllSplitWell (same layout at) (splits-its-tag p decls rooms t form tag);
        }

    flatten-nothing : (t : ℕ) → Found t → (s : ℕ) → Flattens layouts t s → ⊥
    flatten-nothing t f s h =
        flattens-nothing p decls f.rooms t f.form h.number h.leaf (leaf-at t f h.layout h.number h.leaf h.is_layout h.is_leaf) s h.flattens

    no-pointer : (t : ℕ) (f : Found t) (form : Form) → f.form ≡ form → IsForm p kinds f.rooms t form → kind_of kinds t ≡ Some Kinds.Packed → HasPointerPart layouts t → ⊥
    no-pointer t f Boxed same is packed h = absurd (cc (is, packed))
    no-pointer t f (Packed tag width) same is packed h =
        let e = leaf-at t f h.layout h.number h.leaf h.is_layout h.is_leaf in
        has-no-pointer p decls f.rooms t tag width h.number h.leaf
        (ap (λ (form : Form). slice_get (flat_derived p decls f.rooms t form).leaves h.number) (sym same) ∙ e) h.ref h.length h.align h.block h.points

    -- Holding -----------------------------------------------------------------------------------------------

    abbrev Chain : ℕ → ℕ → Type 0
    Chain t s = (us : List ℕ) × IsChain (HasField p.types) t us s

    derived-holds : (t s : ℕ) → Found t → HoldsField p.types layouts t s → Chain t s
    derived-holds t s f h =
        ([], opens-its-fields p decls f.rooms t f.form h.leaf_number h.leaf (leaf-at t f h.layout h.leaf_number h.leaf h.is_layout h.is_leaf) h.path s h.is_field)

    written-holds : HaveTypedProvenances p → (t s : ℕ) (d : LayoutDecl) → decl_of p.layouts t ≡ Some d → HoldsField p.types layouts t s → Chain t s
    written-holds typed t s d e h =
        let at = declared p.layouts t d e in
        let is = layout-is t h.layout h.is_layout in
        let first = same_Some is.0 d (sym is.1 ∙ decl-first p.layouts added t d e) in
        let leaf = get-map (flat_leaf p.types decls) (leaves d.tree) h.leaf_number h.leaf
        (ap (λ (x : LayoutDecl). slice_get (flat_layout (completed_program p added) x).leaves h.leaf_number) (sym first)
        ∙ ap (λ (l : Layout). slice_get l.leaves h.leaf_number) is.2 ∙ h.is_leaf) in
        let reached = typed-reaches p.types d (typed at.1 d at.2) h.leaf_number leaf.0 leaf.1 h.path s
        (ap (λ (l : Leaf). type_at (open_positions p.types l.prov) h.path) (sym leaf.2) ∙ h.is_field) in
        subst (λ n. Chain n s) at.0 reached

    holds-by : HaveTypedProvenances p → (t s : ℕ) (w a : Option LayoutDecl) → decl_of p.layouts t ≡ w → decl_of added t ≡ a → HoldsField p.types layouts t s → Chain t s
    holds-by typed t s (Some d) a e g h = written-holds typed t s d e h
    holds-by typed t s None (Some d) e g h = derived-holds t s (found-by t d e g) h
    holds-by typed t s None None e g h =
        let is = layout-is t h.layout h.is_layout in absurd (cc (sym is.1 ∙ decl-second p.layouts added t e ∙ g))

    hold-what-they-reach : HaveTypedProvenances p → HoldWhatTheyReach p layouts
    hold-what-they-reach typed t s h = holds-by typed t s (decl_of p.layouts t) (decl_of added t) refl refl h

    no-cycle : HaveTypedProvenances p → (t : ℕ) → t < length p.types → (f : Found t) (form : Form) → f.form ≡ form → IsForm p kinds f.rooms t form → HasNoCycle (HoldsField p.types layouts) t
    no-cycle typed t lt f Boxed same is =
        let order = are_in_order (completed_program p added) have in
        let at = order.each t (derived_layout p f.rooms t f.form) lt f.is_decl in
        box-is-on-no-cycle p decls f.rooms t layouts (at ∙ ap (λ (form : Form). Some (flat_derived p decls f.rooms t form)) same)
    no-cycle typed t lt f (Packed tag width) same is =
        let finite : IsFinite p.types t = (f.are.are.each t (Bits is.1) is.2).1 in finite-is-on-no-cycle p layouts t (hold-what-they-reach typed) finite

pub derived-obey : DerivedObey
derived-obey p kinds added numbered completes have t kind lt is shapes = obeys p kinds added numbered completes have t lt (found p kinds added numbered completes t kind lt is) shapes

pub derived-flatten-nothing : DerivedFlattenNothing
derived-flatten-nothing p kinds added numbered completes have t kind lt is s h = flatten-nothing p kinds added numbered completes have t (found p kinds added numbered completes t kind lt is) s h

pub packed-have-no-pointer : PackedHaveNoPointer
packed-have-no-pointer p kinds added numbered completes have t kind lt is packed h =
    let f = found p kinds added numbered completes t kind lt is in
    no-pointer p kinds added numbered completes have t f f.form refl f.is_form (is ∙ ap Some packed) h

pub derived-are-on-no-cycle : DerivedAreOnNoCycle
derived-are-on-no-cycle p kinds added numbered completes have t kind lt is typed =
    let f = found p kinds added numbered completes t kind lt is in
    no-cycle p kinds added numbered completes have typed t lt f f.form refl f.is_form
