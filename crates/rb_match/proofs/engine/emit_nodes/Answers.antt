use Rattle.std.proofs.Common.{Some, ap, sym, ◌∙◌, ◌-◌, ◌<◌, length, arith}
use Rattle.std.proofs.lemmas.Option.{slice_get-get_or}
use Rattle.rb_match.proofs.engine.emit_nodes.Goals as goal

pub loop-i-init : goal.loop-i-init
loop-i-init c = c.in_ok-edges.ensures

pub emit_node-requires : goal.emit_node-requires
emit_node-requires c = λ e i. (omega arith, (c.loop-i.invariant.stands.stand.are_open e i).1)

pub loop-i-preserved : goal.loop-i-preserved
loop-i-preserved c =
    let step = c.in_ok-edges-2.ensures in
    let inv = c.loop-i.invariant in
    let within : length c.args.graph.now.nodes.now - 1 - c.loop-i.i < length c.args.graph.now.nodes.now = omega (arith, c.loop-i-test.true) in
    let at = slice_get-get_or c.args.graph.now.nodes.now (length c.args.graph.now.nodes.now - 1 - c.loop-i.i) c.index-nodes-number.result within ∙ ap Some (sym c.index-nodes-number.is) in
    record {
      stands = step.stands c.args.body.now inv.stands;
      flows = λ plan base fine. step.flows plan base c.args.root c.args.body.now fine at inv.stands (inv.flows plan base fine);
    }

pub returns : goal.returns
returns c = c.loop-i.invariant
