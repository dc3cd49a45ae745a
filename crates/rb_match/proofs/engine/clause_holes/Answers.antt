use Rattle.std.proofs.Common.{Some, ap, sym, ◌∙◌, arith, length-append, ◌∷◌, []}
use Rattle.std.proofs.lemmas.Option.{slice_get-get_or}
use Rattle.rb_match.proofs.Nodes.{clause_push}
use Rattle.rb_match.proofs.engine.clause_holes.Goals as goal

pub loop-edge-preserved : goal.loop-edge-preserved
loop-edge-preserved c =
    let inv = c.loop-edge.invariant in
    rw c.in_ok-push.ensures.ok (record {
      long = (let n = length-append c.loop-edge.holes (c.in_ok-clause_hole.field-0 ∷ []) in omega (arith, n, inv.long));
      each = clause_push c.args.nodes.now c.args.count c.args.edges.now c.loop-edge.holes c.loop-edge.edge-index c.edge-item.result c.in_ok-clause_hole.field-0
          (slice_get-get_or c.args.edges.now c.loop-edge.edge-index c.edge-item.result c.loop-edge-test.true ∙ ap Some (sym c.edge-item.is)) inv.long c.in_ok-clause_hole.ensures inv.each;
    })
