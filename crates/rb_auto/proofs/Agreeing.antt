-- A completed program agrees where its written layouts obey the rules and flatten no boxed type.
use Rattle.std.proofs.Common.{◌≡◌, ℕ, ◌<◌, ◌++◌, ◌⊎◌, inl, inr, List, [], ◌∷◌, length, Option, Some, None, refl, sym, subst, arith}
use Rattle.std.proofs.lemmas.Option.{slice_get_within}
use Rattle.rb_core.specs.declared.types.Auto.{Auto}
use Rattle.rb_core.specs.declared.types.Auto.TheVariants as Kinds
use Rattle.rb_core.specs.declared.program.Program.{Program}
use Rattle.rb_core.specs.declared.layout_decl.LayoutDecl.{LayoutDecl}
use Rattle.rb_core.specs.WellNumbered.{IsWellNumbered}
use Rattle.rb_layout.specs.declared.layout.Layout.{Layout}
use Rattle.rb_layout.specs.Positions.{layout_of}
use Rattle.rb_layout.specs.Flattening.{HaveLayouts, decl_of, flat_layouts}
use Rattle.rb_layout.specs.Cycles.{HasNoCycle, IsChain}
use Rattle.rb_layout.specs.A1.{HasShape}
use Rattle.rb_layout.specs.A9.{Flattens, HasPointerPart}
use Rattle.rb_layout.specs.A10.{HoldsField}
use Rattle.rb_layout.specs.Agreement.{Agrees}
use Rattle.rb_layout.proofs.LayoutLists.{are_in_order}
use Rattle.rb_auto.specs.Rooms.{kind_of}
use Rattle.rb_auto.specs.Completed.{Completes, HaveTypedProvenances, completed_program}
use Rattle.rb_auto.specs.Obeying.{FieldsHaveShapes, ObeysAt}
use Rattle.rb_auto.specs.Agreeing.{AmongWritten, CompletedAgree, FlattenNoBoxed, IsWritten, WrittenObey}
use Rattle.rb_auto.proofs.Numbering.{numbered-named, type-is-small}
use Rattle.rb_auto.proofs.Obeying.{derived-are-on-no-cycle, derived-flatten-nothing, derived-obey, derived-shape, found, packed-have-no-pointer}
use Rattle.rb_auto.proofs.Reaching.{chain-on}

-- Cycles ------------------------------------------------------------------------------------------------

-- cycles stand among types whose layouts are written, where none goes through another type
module _ (kinds : List (Option Auto)) (R : ℕ → ℕ → Type 0) (others : (t : ℕ) (kind : Auto) → kind_of kinds t ≡ Some kind → HasNoCycle R t) where
  -- a chain leads on to the type, or it is the type itself
  abbrev Leads : ℕ → ℕ → Type 0
  Leads t s = (t ≡ s) ⊎ ((us : List ℕ) × IsChain R t us s)

  is-written : (kind : Option Auto) (t : ℕ) (ts : List ℕ) → kind_of kinds t ≡ kind → IsChain R t ts t → IsWritten kinds t
  is-written None t ts is cycle = is
  is-written (Some kind) t ts is cycle = absurd (others t kind is ts cycle)

  on-cycle : (t s : ℕ) (us : List ℕ) → Leads t s → IsChain R s us t → IsWritten kinds s
  on-cycle t s us (inl same) chain = is-written (kind_of kinds s) s us refl (subst (λ n. IsChain R s us n) same chain)
  on-cycle t s us (inr lead) chain = is-written (kind_of kinds s) s (us ++ t ∷ lead.0) refl (chain-on R s us t lead.0 s chain lead.1)

  longer : (t s r : ℕ) → Leads t s → R s r → Leads t r
  longer t s r (inl same) step = inr ([], subst (λ n. R n r) (sym same) step)
  longer t s r (inr lead) step = inr (lead.0 ++ s ∷ [], chain-on R t lead.0 s [] r lead.1 step)

  among : (t s : ℕ) (us : List ℕ) → IsWritten kinds t → Leads t s → IsChain R s us t → IsChain (AmongWritten kinds R) s us t
  among t s [] whole lead chain = (on-cycle t s [] lead chain, whole, chain)
  among t s (r ∷ us) whole lead chain =
      let next = longer t s r lead chain.0 in
      ((on-cycle t s (r ∷ us) lead chain, on-cycle t r us next chain.1, chain.0), among t r us whole next chain.1)

  pub no-cycle : ((t : ℕ) → HasNoCycle (AmongWritten kinds R) t) → (t : ℕ) → HasNoCycle R t
  no-cycle none t ts cycle = none t ts (among t t ts (on-cycle t t ts (inl refl) cycle) (inl refl) cycle)

-- The rules ----------------------------------------------------------------------------------------------

module _ (p : Program) (kinds : List (Option Auto)) (added : List LayoutDecl) (numbered : IsWellNumbered p) (typed : HaveTypedProvenances p) (completes : Completes p kinds added)
    (obey : WrittenObey (completed_program p added) kinds (flat_layouts (completed_program p added))) (boxes : FlattenNoBoxed kinds (flat_layouts (completed_program p added))) where
  abbrev q : Program
  q = completed_program p added

  abbrev layouts : List Layout
  layouts = flat_layouts q

  has-shape : (kind : Option Auto) (t : ℕ) → kind_of kinds t ≡ kind → t < length p.types → HasShape (decl_of q.layouts t)
  has-shape None t is lt = (obey.each t lt is).a1
  has-shape (Some kind) t is lt = derived-shape p kinds added numbered completes t (found p kinds added numbered completes t kind lt is)

  shapes : (t : ℕ) → t < length p.types → HasShape (decl_of q.layouts t)
  shapes t lt = has-shape (kind_of kinds t) t refl lt

  has-layout : (d : Option LayoutDecl) → HasShape d → (e : LayoutDecl) × (d ≡ Some e)
  has-layout None h = absurd h
  has-layout (Some d) h = (d, refl)

  have : HaveLayouts q
  have t lt = has-layout (decl_of q.layouts t) (shapes t lt)

  within : (t : ℕ) (layout : Layout) → layout_of layouts t ≡ Some layout → t < length p.types
  within t layout e = let order = are_in_order q have in let lt = slice_get_within layouts t layout e in let count = order.count in omega (arith, lt, count)

  field-shapes : (t : ℕ) → t < length p.types → FieldsHaveShapes q t
  field-shapes t lt s h = shapes s (numbered-named p.types s (((type-is-small p numbered t lt).each h.con_number h.con h.is_con).typed h.field _ h.is_field))

  obeys-by : (kind : Option Auto) (t : ℕ) → kind_of kinds t ≡ kind → t < length p.types → ObeysAt q layouts t
  obeys-by None t is lt = obey.each t lt is
  obeys-by (Some kind) t is lt = derived-obey p kinds added numbered completes have t kind lt is (field-shapes t lt)

  obeys : (t : ℕ) (layout : Layout) → layout_of layouts t ≡ Some layout → ObeysAt q layouts t
  obeys t layout e = obeys-by (kind_of kinds t) t refl (within t layout e)

  -- a derived layout flattens nothing
  flattening-derived : (t s : ℕ) (kind : Auto) → kind_of kinds t ≡ Some kind → Flattens layouts t s → ⊥
  flattening-derived t s kind is h = derived-flatten-nothing p kinds added numbered completes have t kind (within t h.layout h.is_layout) is s h

  flattened : (t s : ℕ) (kind : Option Auto) → IsWritten kinds t → kind_of kinds s ≡ kind → Flattens layouts t s → HasPointerPart layouts s → ⊥
  flattened t s None written is h points = obey.no_pointer t s (written, is, h) points
  flattened t s (Some Kinds.Boxed) written is h points = boxes t s written h is
  flattened t s (Some Kinds.Packed) written is h points = packed-have-no-pointer p kinds added numbered completes have s Kinds.Packed (within s points.layout points.is_layout) is refl points

  no-pointer : (t s : ℕ) (kind : Option Auto) → kind_of kinds t ≡ kind → Flattens layouts t s → HasPointerPart layouts s → ⊥
  no-pointer t s None is h points = flattened t s (kind_of kinds s) is refl h points
  no-pointer t s (Some kind) is h points = flattening-derived t s kind is h

  flattening-cycle : (t : ℕ) (kind : Auto) → kind_of kinds t ≡ Some kind → HasNoCycle (Flattens layouts) t
  flattening-cycle t kind is [] cycle = flattening-derived t t kind is cycle
  flattening-cycle t kind is (s ∷ ts) cycle = flattening-derived t s kind is cycle.0

  holding-from : (ts : List ℕ) (t last : ℕ) → IsChain (HoldsField p.types layouts) t ts last → (s : ℕ) × HoldsField p.types layouts t s
  holding-from [] t last chain = (last, chain)
  holding-from (s ∷ ts) t last chain = (s, chain.0)

  holding-cycle : (t : ℕ) (kind : Auto) → kind_of kinds t ≡ Some kind → HasNoCycle (HoldsField p.types layouts) t
  holding-cycle t kind is ts cycle =
      let h = (holding-from ts t t cycle).1 in
      derived-are-on-no-cycle p kinds added numbered completes have t kind (within t h.layout h.is_layout) is typed ts cycle

  agrees : Agrees q
  agrees = record {
    a1 = shapes;
    a2 = λ t layout n leaf at e. (obeys t layout at).a2 layout at n leaf e;
    a3 = λ t layout n leaf at e. (obeys t layout at).a3 layout at n leaf e;
    a4 = λ t layout n leaf at e. (obeys t layout at).a4 layout at n leaf e;
    a5 = record {
      apart = λ t layout n leaf at e. (obeys t layout at).apart layout at n leaf e;
      complete = λ t layout at. (obeys t layout at).complete layout at;
    };
    a6 = λ t layout n leaf at e. (obeys t layout at).a6 layout at n leaf e;
    a7 = λ t layout n leaf at e. (obeys t layout at).a7 layout at n leaf e;
    a8 = λ t layout at. (obeys t layout at).a8 layout at;
    a9 = record {
      no_pointer = λ t layout n leaf at e s flattens.
          no-pointer t s (kind_of kinds t) refl (record { layout = layout; number = n; leaf = leaf; is_layout = at; is_leaf = e; flattens = flattens });
      no_cycle = λ t layout at. no-cycle kinds (Flattens layouts) flattening-cycle obey.no_flattening t;
    };
    a10 = λ t layout at. no-cycle kinds (HoldsField p.types layouts) holding-cycle obey.no_holding t;
  }

pub completed-agree : CompletedAgree
completed-agree p kinds added numbered typed completes obey boxes = agrees p kinds added numbered typed completes obey boxes
