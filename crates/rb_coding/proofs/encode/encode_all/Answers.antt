use Rattle.std.proofs.Common.{◌<◌, length, arith}
use Rattle.rb_core.specs.declared.types.Ty.TheVariants.{Int}
use Rattle.rb_coding.proofs.AllLemmas.{all_more, all_stops, all_done, lengths, nth_is, typed_nth}
use Rattle.rb_coding.proofs.PlaceLemmas.{got}
use Rattle.rb_coding.proofs.encode.encode_all.Goals as goal

pub bounds-tys-i : goal.bounds-tys-i
bounds-tys-i g c =
    let l = lengths c.args.agreed.now.covered.program.types c.args.values.now c.args.tys.now c.requires.typed in omega (arith, l, c.loop-i-test.true)

pub encode-requires-clause-typed : goal.encode-requires-clause-typed
encode-requires-clause-typed g c =
    let types = c.args.agreed.now.covered.program.types in
    let l = lengths types c.args.values.now c.args.tys.now c.requires.typed in
    let lt : c.loop-i.i < length c.args.tys.now = omega (arith, l, c.loop-i-test.true) in
    typed_nth types c.args.values.now c.args.tys.now c.requires.typed c.loop-i.i c.index-values-i.result _ (got c.args.values.now c.loop-i.i c.index-values-i.result c.loop-i-test.true c.index-values-i.is) (nth_is c.args.tys.now c.loop-i.i (Int 0) lt)

pub returns-in-Err : goal.returns-in-Err
returns-in-Err g c =
    let p = c.args.agreed.now.covered.program in
    let l = lengths p.types c.args.values.now c.args.tys.now c.requires.typed in
    let lt : c.loop-i.i < length c.args.tys.now = omega (arith, l, c.loop-i-test.true) in
    all_stops p c.args.tys.now c.args.values.now (g.M.ByteMemory.memory c.args.memory.now) (g.M.ByteMemory.memory c.loop-i.memory) (g.M.ByteMemory.memory c.encode.new.memory) c.loop-i.words c.loop-i.i _ c.index-values-i.result
    (nth_is c.args.tys.now c.loop-i.i (Int 0) lt) (got c.args.values.now c.loop-i.i c.index-values-i.result c.loop-i-test.true c.index-values-i.is) c.loop-i.invariant c.in-Err.fault c.in-Err.ensures

pub loop-i-preserved : goal.loop-i-preserved
loop-i-preserved g c =
    let p = c.args.agreed.now.covered.program in
    let l = lengths p.types c.args.values.now c.args.tys.now c.requires.typed in
    let lt : c.loop-i.i < length c.args.tys.now = omega (arith, l, c.loop-i-test.true) in
    rw c.in-None.ensures
    (all_more p c.args.tys.now c.args.values.now (g.M.ByteMemory.memory c.args.memory.now) (g.M.ByteMemory.memory c.loop-i.memory) (g.M.ByteMemory.memory c.encode.new.memory) c.loop-i.words c.loop-i.i _ c.index-values-i.result
    (nth_is c.args.tys.now c.loop-i.i (Int 0) lt) (got c.args.values.now c.loop-i.i c.index-values-i.result c.loop-i-test.true c.index-values-i.is) c.loop-i.invariant c.in-Ok.more c.in-Ok.ensures)

pub returns : goal.returns
returns g c =
    let p = c.args.agreed.now.covered.program in
    let l = lengths p.types c.args.values.now c.args.tys.now c.requires.typed in
    all_done p c.args.tys.now c.args.values.now (g.M.ByteMemory.memory c.args.memory.now) (g.M.ByteMemory.memory c.loop-i.memory) c.loop-i.words c.loop-i.i c.loop-i.invariant c.loop-i-test.false l
