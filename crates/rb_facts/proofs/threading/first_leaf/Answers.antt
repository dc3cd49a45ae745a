use Rattle.std.proofs.Common.{◌≡◌, true, Some, sym, ap, ◌∙◌, arith}
use Rattle.std.proofs.lemmas.Option.{slice_get-get_or}
use Rattle.rb_facts.proofs.Shown.{is_first, none_next}
use Rattle.rb_facts.proofs.threading.first_leaf.Goals as goal

pub loop-i-preserved : goal.loop-i-preserved
loop-i-preserved c =
    let leaf = c.index-leaves-i.result in
    let at = slice_get-get_or c.args.leaves.now c.loop-i.i leaf c.loop-i-test.true ∙ ap Some (sym c.index-leaves-i.is) in
    let apart : c.are_apart.result ≡ true = grind (arith, c.if-not-are_apart.false) in
    none_next c.args.leaves.now c.args.pat.now c.loop-i.i leaf at (rw apart at c.are_apart.ensures) c.loop-i.invariant

pub returns-then-covers : goal.returns-then-covers
returns-then-covers c =
    let leaf = c.index-leaves-i.result in
    let at = slice_get-get_or c.args.leaves.now c.loop-i.i leaf c.loop-i-test.true ∙ ap Some (sym c.index-leaves-i.is) in
    is_first c.args.leaves.now c.args.pat.now c.loop-i.i leaf at (c.covers.ensures c.if-covers.true) c.loop-i.invariant
