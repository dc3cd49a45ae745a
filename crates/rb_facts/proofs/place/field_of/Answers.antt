use Rattle.std.proofs.Common.{Option, Some, None, length, refl, sym, ap, ◌∙◌, ◌≡◌}
use Rattle.std.specs.Prelude.{slice_get, IfSome}
use Rattle.std.proofs.lemmas.Option.{slice_get_read}
use Rattle.rb_core.specs.declared.types.Ty.{Ty}
use Rattle.rb_layout.specs.Positions.{open_positions}
use Rattle.rb_layout.specs.Flattening.{type_at}
use Rattle.rb_facts.specs.inner.Places.{IsFieldOf}
use Rattle.rb_facts.proofs.Placing.{is-field}
use Rattle.rb_facts.proofs.place.field_of.Goals as goal

pub returns : goal.returns
returns c =
    let layouts = c.layouts.result.now in
    let layout = c.in_ok-layout.layout.now in
    let known = slice_get_read layouts (length layouts) c.args.ty layout refl c.in_ok-layout.ensures.lookup.3.0 c.in_ok-layout.ensures.lookup.1 in
    let is_layout = ap (λ ls. slice_get ls c.args.ty) (sym c.layouts.ensures.same) ∙ known in
    let is_leaf = sym c.in_ok-leaf.ensures.value in
    let at = rw (c.as_slice-types.ensures, c.program.ensures.same, c.covered.ensures.same) at c.type_at.ensures in
    go c.args.agreed.now c.args.ty c.args.leaf c.args.path.now layout c.in_ok-leaf.leaf.now is_layout is_leaf c.type_at.result (sym at)
  where
    go : (agreed : Rattle.rb_layout.specs.declared.agreed.LaidOut.LaidOut) (t l : Rattle.std.proofs.Common.ℕ) (path : Rattle.std.proofs.Common.List Rattle.std.proofs.Common.ℕ) (layout : Rattle.rb_layout.specs.declared.layout.Layout.Layout) (leaf : Rattle.rb_layout.specs.declared.layout.Leaf.Leaf)
        → slice_get agreed.layouts t ≡ Some layout → slice_get layout.leaves l ≡ Some leaf → (o : Option Ty) → type_at (open_positions agreed.covered.program.types leaf.prov) path ≡ o → IfSome o (λ found. IsFieldOf agreed t l path found)
    go agreed t l path layout leaf a b None e = tt
    go agreed t l path layout leaf a b (Some ty) e = is-field agreed t l path layout leaf ty a b e
