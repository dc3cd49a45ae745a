use Rattle.std.proofs.Common.{length, refl, sym, ap, ◌∙◌}
use Rattle.std.proofs.lemmas.Option.{slice_get_read}
use Rattle.std.specs.Prelude.{slice_get}
use Rattle.rb_fetch.proofs.Grouping.{finds_group, group_holes, group_ways, no_group}
use Rattle.rb_fetch.proofs.look.find_group_of.Goals as goal

pub returns-in-None-clause-group : goal.returns-in-None-clause-group
returns-in-None-clause-group c =
    let layouts = c.layouts.result.now in
    let layout = c.in-Some.layout.now in
    let known = slice_get_read layouts (length layouts) c.args.ty layout refl c.in-Some.ensures.lookup.3.0 c.in-Some.ensures.lookup.1 in
    rw c.new-holes.ensures
    (no_group c.args.agreed.now (rw c.covered.ensures.same at c.program-typed.ensures.typed) c.layouts.ensures.flat c.layouts.ensures.agree c.args.ty
    c.args.groups.now c.args.words.now c.args.body.now layout (ap (λ ls. slice_get ls c.args.ty) (sym c.layouts.ensures.same) ∙ known) (sym c.in_ok-pruned_tree.ensures.same ∙ c.in-None.is))

pub returns-in_ok-look-in-Some-2-clause-group : goal.returns-in_ok-look-in-Some-2-clause-group
returns-in_ok-look-in-Some-2-clause-group c =
    let layouts = c.layouts.result.now in
    let layout = c.in-Some.layout.now in
    let known = slice_get_read layouts (length layouts) c.args.ty layout refl c.in-Some.ensures.lookup.3.0 c.in-Some.ensures.lookup.1 in
    finds_group c.args.agreed.now (rw c.covered.ensures.same at c.program-typed.ensures.typed) c.layouts.ensures.flat c.layouts.ensures.agree c.args.ty
    c.args.groups.now c.args.words.now c.args.body.now layout (ap (λ ls. slice_get ls c.args.ty) (sym c.layouts.ensures.same) ∙ known)
    c.in-Some-2.tree (sym c.in_ok-pruned_tree.ensures.same ∙ c.in-Some-2.is) c.look.new.body c.look.new.holes (rw (c.new-holes.ensures, c.as_slice-widths.ensures) at c.in_ok-look-in-Some-2.ensures.looks)

pub returns-in_ok-look-in-Some-2-clause-holes : goal.returns-in_ok-look-in-Some-2-clause-holes
returns-in_ok-look-in-Some-2-clause-holes c =
    let layouts = c.layouts.result.now in
    let layout = c.in-Some.layout.now in
    let known = slice_get_read layouts (length layouts) c.args.ty layout refl c.in-Some.ensures.lookup.3.0 c.in-Some.ensures.lookup.1 in
    group_holes c.args.agreed.now (rw c.covered.ensures.same at c.program-typed.ensures.typed) c.layouts.ensures.flat c.layouts.ensures.agree c.args.ty
    c.args.groups.now c.args.words.now c.args.body.now layout (ap (λ ls. slice_get ls c.args.ty) (sym c.layouts.ensures.same) ∙ known)
    c.in-Some-2.tree (sym c.in_ok-pruned_tree.ensures.same ∙ c.in-Some-2.is) c.look.new.body c.look.new.holes (rw (c.new-holes.ensures, c.as_slice-widths.ensures) at c.in_ok-look-in-Some-2.ensures.looks)

pub returns-in_ok-look-in-Some-2-clause-ways : goal.returns-in_ok-look-in-Some-2-clause-ways
returns-in_ok-look-in-Some-2-clause-ways c =
    let layouts = c.layouts.result.now in
    let layout = c.in-Some.layout.now in
    let known = slice_get_read layouts (length layouts) c.args.ty layout refl c.in-Some.ensures.lookup.3.0 c.in-Some.ensures.lookup.1 in
    group_ways c.args.agreed.now (rw c.covered.ensures.same at c.program-typed.ensures.typed) c.layouts.ensures.flat c.layouts.ensures.agree c.args.ty
    c.args.groups.now c.args.words.now c.args.body.now layout (ap (λ ls. slice_get ls c.args.ty) (sym c.layouts.ensures.same) ∙ known)
    c.in-Some-2.tree (sym c.in_ok-pruned_tree.ensures.same ∙ c.in-Some-2.is) c.look.new.body c.look.new.holes (rw (c.new-holes.ensures, c.as_slice-widths.ensures) at c.in_ok-look-in-Some-2.ensures.looks)
