use Rattle.std.proofs.Common.{length, refl, Some, sym, ap, ◌∙◌}
use Rattle.std.specs.Prelude.{slice_get}
use Rattle.std.proofs.lemmas.Option.{slice_get-get_or, slice_get_read}
use Rattle.rb_facts.proofs.Deepness.{is_deep}
use Rattle.rb_facts.proofs.spots.is_deep.Goals as goal

pub returns-then-takes_apart : goal.returns-then-takes_apart
returns-then-takes_apart c e =
    let layouts = c.layouts.result.now in
    let layout = c.in-Some.layout.now in
    let known = slice_get_read layouts (length layouts) c.args.ty layout refl c.in-Some.ensures.lookup.3.0 c.in-Some.ensures.lookup.1 in
    let is_layout = ap (λ ls. slice_get ls c.args.ty) (sym c.layouts.ensures.same) ∙ known in
    let leaf = slice_get-get_or c.as_slice-leaf-items.result.now c.loop-leaf.leaf-index c.leaf-item.result c.loop-leaf-test.true ∙ ap Some (sym c.leaf-item.is) in
    is_deep c.args.agreed.now.layouts c.args.ty c.loop-leaf.leaf-index layout c.leaf-item.result is_layout (rw c.as_slice-leaf-items.ensures at leaf) (c.takes_apart.ensures c.if-takes_apart.true)
