use Rattle.std.proofs.Common.{◌∷◌, [], length, sym, ap, ◌∙◌, arith}
use Rattle.std.proofs.lemmas.List.{length-append}
use Rattle.rb_bytes.specs.Memory.{load_of}
use Rattle.rb_coding.proofs.GrowLemmas.{begins_more}
use Rattle.rb_coding.proofs.PlaceLemmas.{got}
use Rattle.rb_coding.proofs.LoadLemmas.{load_room, loaded_more, loaded_all}
use Rattle.rb_coding.proofs.loading.load_words.Goals as goal

pub overflow_add-offset : goal.overflow_add-offset
overflow_add-offset g c =
    let m = g.M.ByteMemory.memory c.args.memory.now in
    let f = c.word-item.result in
    let at = got c.args.words.now c.loop-word.word-index f c.loop-word-test.true c.word-item.is in
    let w = c.requires.loads c.loop-word.word-index f at in
    load_room m c.requires.good c.args.base c.loop-word.offset f.width w.1.0 _ c.loop-word.invariant.offset w.1.1

pub loop-word-preserved : goal.loop-word-preserved
loop-word-preserved g c =
    let m = g.M.ByteMemory.memory c.args.memory.now in
    let f = c.word-item.result in
    let at = got c.args.words.now c.loop-word.word-index f c.loop-word-test.true c.word-item.is in
    let o = c.loop-word.invariant.offset in
    let n = c.loop-word.invariant.count in
    let pushed = c.in_ok-push-in-Ok.ensures.ok in
    record {
      offset = (let more = begins_more c.args.words.now c.loop-word.word-index f at in omega (arith, more, o));
      count = (let l = ap length pushed ∙ length-append c.loop-word.loaded (c.in-Ok.number ∷ []) in omega (arith, l, n));
      words = loaded_more m c.args.base c.args.words.now c.loop-word.word-index f at c.loop-word.loaded c.push.new.self c.in-Ok.number n c.loop-word.invariant.words
          (ap (λ k. load_of m c.args.base k f.width) (sym o) ∙ sym c.in-Ok.ensures.value) pushed;
    }

pub returns : goal.returns
returns g c = loaded_all (g.M.ByteMemory.memory c.args.memory.now) c.args.base c.args.words.now c.loop-word.word-index c.loop-word.loaded c.loop-word-test.false c.loop-word.invariant.words
