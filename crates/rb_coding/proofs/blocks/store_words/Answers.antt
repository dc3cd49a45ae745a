use Rattle.std.proofs.Common.{◌≡◌, Result, Ok, Err, refl, sym, subst, ap, ◌∙◌, arith}
use Rattle.std.specs.Prelude.{IsOk, slice_index}
use Rattle.rb_bytes.specs.Memory.{Memory}
use Rattle.rb_bytes.specs.declared.fault.Trap.{Trap}
use Rattle.rb_coding.specs.inner.Nodes.{subs_of}
use Rattle.rb_coding.specs.Packing.{word_of_parts, word_made}
use Rattle.rb_coding.proofs.GrowLemmas.{begins_more}
use Rattle.rb_coding.proofs.PlaceLemmas.{got, store_goes, store_fits}
use Rattle.rb_coding.proofs.blocks.store_words.Goals as goal

pub store-requires-clause-unchecked : goal.store-requires-clause-unchecked
store-requires-clause-unchecked g c =
    let m = g.M.ByteMemory.memory c.args.memory.now in
    let number = word_made (subs_of c.args.table.now c.args.nodes.now c.args.node) (slice_index c.args.addresses.now) in
    let f = c.word-item.result in
    let at = got c.args.words.now c.loop-word.word-index f c.loop-word-test.true c.word-item.is in
    let n = c.pack-number.ensures ∙ ap (word_of_parts (subs_of c.args.table.now c.args.nodes.now c.args.node) (slice_index c.args.addresses.now)) c.as_slice.ensures in
    let goes = store_goes m c.args.base c.args.words.now c.requires.placed number c.loop-word.word-index f at (g.M.ByteMemory.memory c.loop-word.memory) c.loop-word.offset c.pack-number.result c.loop-word.invariant.same c.loop-word.invariant.offset n in
    λ no. subst (λ (x : Result (Unit {0}) Trap × Memory). IsOk x.0) (sym goes) refl

pub unreachable-requires : goal.unreachable-requires
unreachable-requires g c =
    let m = g.M.ByteMemory.memory c.args.memory.now in
    let number = word_made (subs_of c.args.table.now c.args.nodes.now c.args.node) (slice_index c.args.addresses.now) in
    let f = c.word-item.result in
    let at = got c.args.words.now c.loop-word.word-index f c.loop-word-test.true c.word-item.is in
    let n = c.pack-number.ensures ∙ ap (word_of_parts (subs_of c.args.table.now c.args.nodes.now c.args.node) (slice_index c.args.addresses.now)) c.as_slice.ensures in
    let goes = store_goes m c.args.base c.args.words.now c.requires.placed number c.loop-word.word-index f at (g.M.ByteMemory.memory c.loop-word.memory) c.loop-word.offset c.pack-number.result c.loop-word.invariant.same c.loop-word.invariant.offset n in
    let h : ◌≡◌ {A = Result (Unit {0}) Trap} (Err c.in-Err.field-0) (Ok tt) = ap (λ (x : Result (Unit {0}) Trap × Memory). x.0) (c.in-Err.ensures.value ∙ goes) in
    cc

pub overflow_add-offset : goal.overflow_add-offset
overflow_add-offset g c =
    let m = g.M.ByteMemory.memory c.args.memory.now in
    let f = c.word-item.result in
    let at = got c.args.words.now c.loop-word.word-index f c.loop-word-test.true c.word-item.is in
    let number = word_made (subs_of c.args.table.now c.args.nodes.now c.args.node) (slice_index c.args.addresses.now) in
    let fits = store_fits m c.args.base c.args.words.now c.requires.placed number c.loop-word.word-index f at in
    let o = c.loop-word.invariant.offset in
    let r = c.requires.room in
    omega (arith, fits, o, r)

pub loop-word-preserved : goal.loop-word-preserved
loop-word-preserved g c =
    let m = g.M.ByteMemory.memory c.args.memory.now in
    let number = word_made (subs_of c.args.table.now c.args.nodes.now c.args.node) (slice_index c.args.addresses.now) in
    let f = c.word-item.result in
    let at = got c.args.words.now c.loop-word.word-index f c.loop-word-test.true c.word-item.is in
    let n = c.pack-number.ensures ∙ ap (word_of_parts (subs_of c.args.table.now c.args.nodes.now c.args.node) (slice_index c.args.addresses.now)) c.as_slice.ensures in
    let goes = store_goes m c.args.base c.args.words.now c.requires.placed number c.loop-word.word-index f at (g.M.ByteMemory.memory c.loop-word.memory) c.loop-word.offset c.pack-number.result c.loop-word.invariant.same c.loop-word.invariant.offset n in
    record {
      offset = (let more = begins_more c.args.words.now c.loop-word.word-index f at in let o = c.loop-word.invariant.offset in omega (arith, more, o));
      same = ap (λ (x : Result (Unit {0}) Trap × Memory). x.1) (c.store.ensures.value ∙ goes);
      good = c.store.ensures.good;
    }
