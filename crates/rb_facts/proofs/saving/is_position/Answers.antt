use Rattle.std.proofs.Common.{length, refl, sym, ap, ◌∙◌, arith, ◌≡◌}
use Rattle.std.specs.Prelude.{slice_get}
use Rattle.std.proofs.lemmas.Option.{slice_get_read}
use Rattle.rb_facts.proofs.saving.is_position.Goals as goal

pub returns-in-Some-type_below : goal.returns-in-Some-type_below
returns-in-Some-type_below c holds =
    let layouts = c.layouts.result.now in
    let layout = c.in-Some.layout.now in
    let known = slice_get_read layouts (length layouts) c.args.ty layout refl c.in-Some.ensures.lookup.3.0 c.in-Some.ensures.lookup.1 in
    let is_layout = ap (λ ls. slice_get ls c.args.ty) (sym c.layouts.ensures.same) ∙ known in
    let is : c.in-Some-type_below.found ≡ c.args.at = grind (arith, c.eq.ensures, holds) in
    (layout, c.in-Some-get.leaf.now, is_layout, sym c.in-Some-get.ensures.value, rw (c.as_slice-types.ensures, c.program.ensures.same, c.covered.ensures.same, is) at c.in-Some-type_below.ensures)
