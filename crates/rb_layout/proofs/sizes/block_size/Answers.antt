use Rattle.std.proofs.Common.{◌≡◌, ◌+◌, ◌/◌, ◌<◌, ◌∙◌, sym, ap, subst, drop, length, get_or, arith}
use Rattle.rb_layout.specs.Words.{bytes_taken}
use Rattle.rb_layout.proofs.Locating.{bytes-from, short-width}
use Rattle.rb_layout.proofs.sizes.block_size.Goals as goal

pub loop-word-preserved : goal.loop-word-preserved
loop-word-preserved c =
    let words = c.args.block.now.words in
    let k = c.loop-word.word-index in
    let f = c.word-item.result in
    let is_words = c.as_slice-word-items.ensures in
    let lt : k < length words = subst (λ ws. k < length ws) is_words c.loop-word-test.true in
    let is : f ≡ get_or words k f = subst (λ ws. f ≡ get_or ws k f) is_words c.word-item.is in
    let next = bytes-from words k f lt ∙ ap (λ g. g.width / 8 + bytes_taken (drop (k + 1) words)) (sym is) in
    let short = short-width words k f c.requires lt is in
    let same = c.loop-word.invariant.same in
    let few = c.loop-word.invariant.few in
    record {
      same = omega (arith, next);
      few = omega arith;
    }
