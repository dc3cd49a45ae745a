use Rattle.std.proofs.Common.{length, refl, sym, ap, ◌∙◌}
use Rattle.std.specs.Prelude.{slice_get}
use Rattle.std.proofs.lemmas.Option.{slice_get_read}
use Rattle.rb_facts.proofs.Placing.{con-known, con-none-Wild, con-none-Var, con-none-Num}
use Rattle.rb_facts.proofs.links.con_of.Goals as goal

pub returns-in-Con : goal.returns-in-Con
returns-in-Con c =
    let layouts = c.layouts.result.now in
    let layout = c.in_ok-layout.layout.now in
    let known = slice_get_read layouts (length layouts) c.args.ty layout refl c.in_ok-layout.ensures.lookup.3.0 c.in_ok-layout.ensures.lookup.1 in
    sym (con-known c.args.agreed.now c.args.ty c.args.leaf layout c.in_ok-leaf.leaf.now (ap (λ ls. slice_get ls c.args.ty) (sym c.layouts.ensures.same) ∙ known) (sym c.in_ok-leaf.ensures.value) _ _ _ c.in-Con.is)

pub returns-in-Wild : goal.returns-in-Wild
returns-in-Wild c =
    let layouts = c.layouts.result.now in
    let layout = c.in_ok-layout.layout.now in
    let known = slice_get_read layouts (length layouts) c.args.ty layout refl c.in_ok-layout.ensures.lookup.3.0 c.in_ok-layout.ensures.lookup.1 in
    sym (con-none-Wild c.args.agreed.now c.args.ty c.args.leaf layout c.in_ok-leaf.leaf.now (ap (λ ls. slice_get ls c.args.ty) (sym c.layouts.ensures.same) ∙ known) (sym c.in_ok-leaf.ensures.value) _ c.in-Wild.is)

pub returns-in-Var : goal.returns-in-Var
returns-in-Var c =
    let layouts = c.layouts.result.now in
    let layout = c.in_ok-layout.layout.now in
    let known = slice_get_read layouts (length layouts) c.args.ty layout refl c.in_ok-layout.ensures.lookup.3.0 c.in_ok-layout.ensures.lookup.1 in
    sym (con-none-Var c.args.agreed.now c.args.ty c.args.leaf layout c.in_ok-leaf.leaf.now (ap (λ ls. slice_get ls c.args.ty) (sym c.layouts.ensures.same) ∙ known) (sym c.in_ok-leaf.ensures.value) _ _ c.in-Var.is)

pub returns-in-Num : goal.returns-in-Num
returns-in-Num c =
    let layouts = c.layouts.result.now in
    let layout = c.in_ok-layout.layout.now in
    let known = slice_get_read layouts (length layouts) c.args.ty layout refl c.in_ok-layout.ensures.lookup.3.0 c.in_ok-layout.ensures.lookup.1 in
    sym (con-none-Num c.args.agreed.now c.args.ty c.args.leaf layout c.in_ok-leaf.leaf.now (ap (λ ls. slice_get ls c.args.ty) (sym c.layouts.ensures.same) ∙ known) (sym c.in_ok-leaf.ensures.value) _ _ c.in-Num.is)
