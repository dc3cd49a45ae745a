use Rattle.std.proofs.Common.{◌<◌, length, Ok, Err, refl, ap, ◌∙◌, arith}
use Rattle.rb_core.specs.TypedPrograms.{IsTyped}
use Rattle.rb_values.specs.Nodes.{posts}
use Rattle.rb_coding.proofs.EncodeLemmas.{nth, nth_type, ready_at, made_at, encoding_none, more, made_shown, encode_stops, encode_done, some_nodes, all_long}
use Rattle.rb_coding.proofs.PostLemmas.{tposts, length-typed}
use Rattle.rb_coding.proofs.encode.encode.Goals as goal

pub loop-node-init : goal.loop-node-init
loop-node-init g c =
    let p = c.args.agreed.now.covered.program in
    let typed : IsTyped p = rw c.covered.ensures.same at c.program-program.ensures.typed in
    encoding_none p typed c.covered.ensures.agree c.args.ty c.args.value.now c.requires.typed (g.M.ByteMemory.memory c.args.memory.now) _ c.requires.good c.new.ensures (c.in_ok-sizes_of.ensures p.types c.args.ty c.requires.typed)

pub index-requires : goal.index-requires
index-requires g c =
    let p = c.args.agreed.now.covered.program in
    let typed : IsTyped p = rw c.covered.ensures.same at c.program-program.ensures.typed in
    let tys = rw (c.as_slice.ensures, c.program-program.ensures.same, c.covered.ensures.same) at c.in_ok-tys.ensures in
    let l = ap length tys ∙ length-typed (tposts p.types c.args.value.now c.args.ty) in
    let k = all_long p typed c.covered.ensures.agree c.args.ty c.args.value.now c.requires.typed (g.M.ByteMemory.memory c.args.memory.now) in
    let n = c.len-node-end.ensures ∙ ap length c.as_nodes-nodes.ensures in
    omega (arith, l, k, n, c.loop-node-test.true, c.in_ok-tys.tys.ok.0)

pub node_words-requires-clause-ready : goal.node_words-requires-clause-ready
node_words-requires-clause-ready g c =
    let p = c.args.agreed.now.covered.program in
    let typed : IsTyped p = rw c.covered.ensures.same at c.program-program.ensures.typed in
    let tys = rw (c.as_slice.ensures, c.program-program.ensures.same, c.covered.ensures.same) at c.in_ok-tys.ensures in
    let m0 = g.M.ByteMemory.memory c.args.memory.now in
    let size = c.len-node-end.ensures ∙ ap length c.as_nodes-nodes.ensures in
    let lt : c.loop-node.node < length (posts c.args.value.now) = omega (arith, size, c.loop-node-test.true) in
    let n = nth p typed c.covered.ensures.agree c.args.ty c.args.value.now c.requires.typed m0 c.loop-node.node lt in
    let t = nth_type p typed c.covered.ensures.agree c.args.ty c.args.value.now c.requires.typed m0 c.in_ok-tys.tys.items tys c.loop-node.node n.node n.is_node c.index.result.now c.index.ensures in
    ready_at p typed c.covered.ensures.agree c.args.ty c.args.value.now c.requires.typed m0 c.loop-node.node n c.layouts-layouts.result.now c.as_nodes-nodes.result.now c.index.result.now
    (c.layouts-layouts.ensures.same ∙ c.layouts-layouts.ensures.flat) c.as_nodes-nodes.ensures t

pub returns-in-Err : goal.returns-in-Err
returns-in-Err g c =
    let p = c.args.agreed.now.covered.program in
    let typed : IsTyped p = rw c.covered.ensures.same at c.program-program.ensures.typed in
    let tys = rw (c.as_slice.ensures, c.program-program.ensures.same, c.covered.ensures.same) at c.in_ok-tys.ensures in
    let m0 = g.M.ByteMemory.memory c.args.memory.now in
    let m = g.M.ByteMemory.memory c.loop-node.memory in
    let m' = g.M.ByteMemory.memory c.node_words.new.memory in
    let size = c.len-node-end.ensures ∙ ap length c.as_nodes-nodes.ensures in
    let lt : c.loop-node.node < length (posts c.args.value.now) = omega (arith, size, c.loop-node-test.true) in
    let n = nth p typed c.covered.ensures.agree c.args.ty c.args.value.now c.requires.typed m0 c.loop-node.node lt in
    let t = nth_type p typed c.covered.ensures.agree c.args.ty c.args.value.now c.requires.typed m0 c.in_ok-tys.tys.items tys c.loop-node.node n.node n.is_node c.index.result.now c.index.ensures in
    let h = made_at p typed c.covered.ensures.agree c.args.ty c.args.value.now c.requires.typed m0 c.loop-node.node n c.layouts-layouts.result.now c.as_nodes-nodes.result.now c.index.result.now
    (c.layouts-layouts.ensures.same ∙ c.layouts-layouts.ensures.flat) c.as_nodes-nodes.ensures t c.loop-node.table m m' (Err c.in-Err.fault) c.in-Err.ensures in
    encode_stops p typed c.covered.ensures.agree c.args.ty c.args.value.now c.requires.typed m0 m m' c.loop-node.table c.loop-node.node n c.loop-node.invariant c.in-Err.fault h

pub loop-node-preserved : goal.loop-node-preserved
loop-node-preserved g c =
    let p = c.args.agreed.now.covered.program in
    let typed : IsTyped p = rw c.covered.ensures.same at c.program-program.ensures.typed in
    let tys = rw (c.as_slice.ensures, c.program-program.ensures.same, c.covered.ensures.same) at c.in_ok-tys.ensures in
    let m0 = g.M.ByteMemory.memory c.args.memory.now in
    let m = g.M.ByteMemory.memory c.loop-node.memory in
    let m' = g.M.ByteMemory.memory c.node_words.new.memory in
    let size = c.len-node-end.ensures ∙ ap length c.as_nodes-nodes.ensures in
    let lt : c.loop-node.node < length (posts c.args.value.now) = omega (arith, size, c.loop-node-test.true) in
    let n = nth p typed c.covered.ensures.agree c.args.ty c.args.value.now c.requires.typed m0 c.loop-node.node lt in
    let t = nth_type p typed c.covered.ensures.agree c.args.ty c.args.value.now c.requires.typed m0 c.in_ok-tys.tys.items tys c.loop-node.node n.node n.is_node c.index.result.now c.index.ensures in
    let h = made_at p typed c.covered.ensures.agree c.args.ty c.args.value.now c.requires.typed m0 c.loop-node.node n c.layouts-layouts.result.now c.as_nodes-nodes.result.now c.index.result.now
    (c.layouts-layouts.ensures.same ∙ c.layouts-layouts.ensures.flat) c.as_nodes-nodes.ensures t c.loop-node.table m m' (Ok c.in-Ok.words) c.in-Ok.ensures in
    let good = c.loop-node.invariant.progress.grown.good in
    let s = made_shown p typed c.covered.ensures.agree c.args.ty c.args.value.now c.requires.typed m0 m m' c.loop-node.table c.loop-node.node n c.loop-node.invariant n.node.1 refl c.in-Ok.words good h in
    more p typed c.covered.ensures.agree c.args.ty c.args.value.now c.requires.typed m0 m m' c.loop-node.table c.loop-node.node n c.loop-node.invariant _ c.in-Ok.words s.0 s.1 s.2 good refl c.in_ok-push-in-Ok.ensures.ok

pub unreachable-requires : goal.unreachable-requires
unreachable-requires g c =
    let p = c.args.agreed.now.covered.program in
    let typed : IsTyped p = rw c.covered.ensures.same at c.program-program.ensures.typed in
    let some = some_nodes p typed c.covered.ensures.agree c.args.ty c.args.value.now c.requires.typed (g.M.ByteMemory.memory c.args.memory.now) in
    let size = c.len-node-end.ensures ∙ ap length c.as_nodes-nodes.ensures in
    let none = ap length c.in-None.ensures.0 in
    let count = c.loop-node.invariant.count in
    omega (arith, some, size, none, count, c.loop-node-test.false)

pub returns : goal.returns
returns g c =
    let p = c.args.agreed.now.covered.program in
    let typed : IsTyped p = rw c.covered.ensures.same at c.program-program.ensures.typed in
    let size = c.len-node-end.ensures ∙ ap length c.as_nodes-nodes.ensures in
    encode_done p typed c.covered.ensures.agree c.args.ty c.args.value.now c.requires.typed (g.M.ByteMemory.memory c.args.memory.now) (g.M.ByteMemory.memory c.loop-node.memory) c.loop-node.table c.loop-node.node
    (omega (arith, size, c.loop-node-test.false)) c.loop-node.invariant c.pop.new.self c.in-Some.words c.in-Some.ensures (omega (arith, size, c.loop-node-test.false, c.loop-node.auto.node-end))
