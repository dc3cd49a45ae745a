use Rattle.std.proofs.Common.{length, refl, sym, ap, ◌∙◌}
use Rattle.std.proofs.lemmas.Option.{slice_get_read}
use Rattle.std.specs.Prelude.{slice_get}
use Rattle.rb_fetch.proofs.Finding.{finds, finds_holes, finds_ways}
use Rattle.rb_fetch.proofs.look.find_leaf_of.Goals as goal

pub returns-in_ok-look-in-Some-clause-leaf : goal.returns-in_ok-look-in-Some-clause-leaf
returns-in_ok-look-in-Some-clause-leaf c =
    let layouts = c.layouts.result.now in
    let layout = c.in-Some.layout.now in
    let known = slice_get_read layouts (length layouts) c.args.ty layout refl c.in-Some.ensures.lookup.3.0 c.in-Some.ensures.lookup.1 in
    finds c.args.agreed.now (rw c.covered.ensures.same at c.program-typed.ensures.typed) c.layouts.ensures.flat c.layouts.ensures.agree c.args.ty
    c.args.words.now c.args.body.now layout (ap (λ ls. slice_get ls c.args.ty) (sym c.layouts.ensures.same) ∙ known) c.look.new.body c.look.new.holes
    (rw (c.new-holes.ensures, c.as_slice-widths.ensures) at c.in_ok-look-in-Some.ensures.looks)

pub returns-in_ok-look-in-Some-clause-holes : goal.returns-in_ok-look-in-Some-clause-holes
returns-in_ok-look-in-Some-clause-holes c =
    let layouts = c.layouts.result.now in
    let layout = c.in-Some.layout.now in
    let known = slice_get_read layouts (length layouts) c.args.ty layout refl c.in-Some.ensures.lookup.3.0 c.in-Some.ensures.lookup.1 in
    finds_holes c.args.agreed.now (rw c.covered.ensures.same at c.program-typed.ensures.typed) c.layouts.ensures.flat c.layouts.ensures.agree c.args.ty
    c.args.words.now c.args.body.now layout (ap (λ ls. slice_get ls c.args.ty) (sym c.layouts.ensures.same) ∙ known) c.look.new.body c.look.new.holes
    (rw (c.new-holes.ensures, c.as_slice-widths.ensures) at c.in_ok-look-in-Some.ensures.looks)

pub returns-in_ok-look-in-Some-clause-ways : goal.returns-in_ok-look-in-Some-clause-ways
returns-in_ok-look-in-Some-clause-ways c =
    let layouts = c.layouts.result.now in
    let layout = c.in-Some.layout.now in
    let known = slice_get_read layouts (length layouts) c.args.ty layout refl c.in-Some.ensures.lookup.3.0 c.in-Some.ensures.lookup.1 in
    finds_ways c.args.agreed.now (rw c.covered.ensures.same at c.program-typed.ensures.typed) c.layouts.ensures.flat c.layouts.ensures.agree c.args.ty
    c.args.words.now c.args.body.now layout (ap (λ ls. slice_get ls c.args.ty) (sym c.layouts.ensures.same) ∙ known) c.look.new.body c.look.new.holes
    (rw (c.new-holes.ensures, c.as_slice-widths.ensures) at c.in_ok-look-in-Some.ensures.looks)
