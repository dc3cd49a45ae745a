use Rattle.std.proofs.Common.{length, refl, sym, ap, ◌∙◌}
use Rattle.std.specs.Prelude.{slice_get}
use Rattle.std.proofs.lemmas.Option.{slice_get_read}
use Rattle.rb_facts.proofs.Shown.{tells_option}
use Rattle.rb_facts.proofs.threading.sub_from.Goals as goal

pub returns-in_ok-leaf-in-Leaf : goal.returns-in_ok-leaf-in-Leaf
returns-in_ok-leaf-in-Leaf c =
    let layouts = c.layouts.result.now in
    let layout = c.in_ok-layout-in-Leaf.layout.now in
    let known = slice_get_read layouts (length layouts) c.in-Leaf.ty layout refl c.in_ok-layout-in-Leaf.ensures.lookup.3.0 c.in_ok-layout-in-Leaf.ensures.lookup.1 in
    let is_layout = ap (λ ls. slice_get ls c.in-Leaf.ty) (sym c.layouts.ensures.same) ∙ known in
    rw c.in-Leaf.is (tells_option c.args.agreed.now c.in-Leaf.above c.in-Leaf.ty c.in-Leaf.leaf c.args.position.now c.in_ok-rest-in-Leaf.rest.now layout c.in_ok-leaf-in-Leaf.leaf.now c.sub_at.result is_layout (sym c.in_ok-leaf-in-Leaf.ensures.value) c.in_ok-rest-in-Leaf.ensures c.sub_at.ensures)
