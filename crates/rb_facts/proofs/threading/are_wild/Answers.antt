use Rattle.std.proofs.Common.{◌≡◌, true, Some, sym, ap, ◌∙◌, arith}
use Rattle.std.proofs.lemmas.Option.{slice_get-get_or, slice_get_within}
use Rattle.rb_facts.proofs.Shown.{wild_next}
use Rattle.rb_facts.proofs.threading.are_wild.Goals as goal

pub loop-pat-preserved : goal.loop-pat-preserved
loop-pat-preserved c =
    let at = slice_get-get_or c.args.pats.now c.loop-pat.pat-index c.pat-item.result c.loop-pat-test.true ∙ ap Some (sym c.pat-item.is) in
    let wild : c.is_wild.result ≡ true = grind (arith, c.if-not-is_wild.false) in
    wild_next c.args.pats.now c.loop-pat.pat-index c.pat-item.result at (c.is_wild.ensures wild) c.loop-pat.invariant

pub returns : goal.returns
returns c holds = λ n p at. let lt = slice_get_within c.args.pats.now n p at in c.loop-pat.invariant n p (omega (arith, lt, c.loop-pat-test.false)) at
