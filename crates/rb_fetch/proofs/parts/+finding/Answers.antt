use Rattle.std.proofs.Common.{Some, refl, sym, ap, ◌∙◌, arith, length}
use Rattle.std.proofs.lemmas.Grind.{common_steps}
use Rattle.std.proofs.lemmas.Option.{slice_get-get_or, slice_get_read}
use Rattle.rb_fetch.proofs.PartForms.{beyond, given-con, given-end, given-more, given-stop}
use Rattle.rb_fetch.proofs.parts.+finding.Goals as goal

pub find_below-returns-in-None : goal.find_below-returns-in-None
find_below-returns-in-None t c = c.loop-i.invariant (given-stop c.args.types.now c.args.parts.now c.args.path.now c.args.pats.now c.args.fields.now c.loop-i.i (beyond c.args.fields.now c.loop-i.i (grind (arith, common_steps, c.in-None.ensures.lookup))))

pub find_below-loop-i-preserved : goal.find_below-loop-i-preserved
find_below-loop-i-preserved t c = λ rest.
    c.loop-i.invariant (given-more c.args.types.now c.args.parts.now c.args.path.now c.in_ok-longer-in-Some.longer c.args.pats.now c.args.fields.now c.loop-i.i c.index-pats-i.result c.in-Some.ty.now
    (slice_get-get_or c.args.pats.now c.loop-i.i c.index-pats-i.result c.loop-i-test.true ∙ ap Some (sym c.index-pats-i.is))
    (slice_get_read c.args.fields.now (length c.args.fields.now) c.loop-i.i c.in-Some.ty.now refl c.in-Some.ensures.lookup.3.0 c.in-Some.ensures.lookup.1) c.in_ok-longer-in-Some.ensures c.in_ok-find_parts-in-Some.ensures rest)

pub find_below-returns : goal.find_below-returns
find_below-returns t c = c.loop-i.invariant (given-end c.args.types.now c.args.parts.now c.args.path.now c.args.pats.now c.args.fields.now c.loop-i.i c.loop-i-test.false)

pub find_parts-returns-in_ok-find_below-in-Con : goal.find_parts-returns-in_ok-find_below-in-Con
find_parts-returns-in_ok-find_below-in-Con t c =
    given-con c.args.types.now c.args.parts.now c.args.pat.now c.in-Con.field-0 c.in-Con.con c.in-Con.pats c.args.ty c.args.path.now c.in-Con.is
    (rw (c.as_slice.ensures, c.types_of_fields-fields.ensures) at c.in_ok-find_below-in-Con.ensures)
