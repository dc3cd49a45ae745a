use Rattle.std.proofs.Common.{length, refl, sym, ap, ◌∙◌}
use Rattle.std.specs.Prelude.{slice_get}
use Rattle.std.proofs.lemmas.Option.{slice_get_read}
use Rattle.rb_facts.proofs.Shown.{leaf_of_all}
use Rattle.rb_facts.proofs.threading.leaf_of_all.Goals as goal

pub returns : goal.returns
returns c =
    let layouts = c.layouts.result.now in
    let layout = c.in_ok-layout.layout.now in
    let known = slice_get_read layouts (length layouts) c.args.ty layout refl c.in_ok-layout.ensures.lookup.3.0 c.in_ok-layout.ensures.lookup.1 in
    leaf_of_all c.args.agreed.now c.args.ty c.args.pat.now layout c.first_leaf.result (ap (λ ls. slice_get ls c.args.ty) (sym c.layouts.ensures.same) ∙ known) (rw c.as_slice.ensures at c.first_leaf.ensures)
