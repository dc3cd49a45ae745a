use Rattle.std.proofs.Common.{◌+◌, ◌/◌, ◌++◌, drop, length, refl, sym, subst, ap, ◌∙◌, arith}
use Rattle.std.specs.List.{flat_map}
use Rattle.std.specs.Option.{option_copied}
use Rattle.std.proofs.lemmas.Option.{slice_get_read}
use Rattle.rb_layout.specs.Readable.{AreShort}
use Rattle.rb_image.specs.Orders.{block_order, with_inner, words_order, spots_of}
use Rattle.rb_image.specs.inner.Viewing.{parts_of}
use Rattle.rb_image.proofs.OrderLemmas.{block_short, part_end, part_more, word_more}
use Rattle.rb_image.proofs.order.+ordering.Goals as goal

pub add_block-add_words-requires : goal.add_block-add_words-requires
add_block-add_words-requires t c =
    let found = sym c.get.ensures.value ∙ ap option_copied c.in-Some.is in
    (omega (arith, c.if-depth-eq0.false, c.decreases), (c.requires.readable, subst AreShort (sym c.as_slice.ensures) (block_short c.args.leaf.now c.args.block c.in-Some.found.now c.requires.readable found)))

pub add_word-loop-part-init : goal.add_word-loop-part-init
add_word-loop-part-init t c =
    let inner = block_order c.args.leaf.now c.args.depth in
    let W = with_inner inner c.args.block c.args.number c.args.byte c.args.word.now.width in
    ap (λ ps. spots_of c.args.order.now.items ++ flat_map W ps) (sym (ap parts_of c.as_slice-part-items.ensures.value ∙ c.in_ok-parts.ensures))

pub add_word-loop-part-preserved : goal.add_word-loop-part-preserved
add_word-loop-part-preserved t c =
    let inner = block_order c.args.leaf.now c.args.depth in
    let W = with_inner inner c.args.block c.args.number c.args.byte c.args.word.now.width in
    let items = c.as_slice-part-items.result.now in
    let i = c.loop-part.part-index in
    c.loop-part.invariant
    ∙ part_more inner c.args.block c.args.number c.args.byte c.args.word.now.width items i (spots_of c.loop-part.order.items) c.part-item.result (slice_get_read items (length items) i c.part-item.result refl c.loop-part-test.true c.part-item.is)
    ∙ ap (λ zs. zs ++ flat_map W (parts_of (drop (i + 1) items))) (sym c.in_ok-add_part.ensures)

pub add_word-returns : goal.add_word-returns
add_word-returns t c =
    let inner = block_order c.args.leaf.now c.args.depth in
    let items = c.as_slice-part-items.result.now in
    sym (c.loop-part.invariant ∙ part_end inner c.args.block c.args.number c.args.byte c.args.word.now.width items c.loop-part.part-index (spots_of c.loop-part.order.items) c.loop-part-test.false)

pub add_words-loop-number-preserved : goal.add_words-loop-number-preserved
add_words-loop-number-preserved t c =
    let inner = block_order c.args.leaf.now c.args.depth in
    let words = c.args.words.now in
    let j = c.loop-number.number in
    let byte = c.loop-number.byte in
    let f = c.index-words-number.result in
    let at = slice_get_read words (length words) j f refl c.loop-number-test.true c.index-words-number.is in
    let short = c.requires.short.short j f at in
    let low = c.loop-number.invariant.byte in
    record {
      order = c.loop-number.invariant.order ∙ word_more inner c.args.block words j byte f (spots_of c.loop-number.order.items) at
          ∙ ap (λ zs. zs ++ words_order inner c.args.block (j + 1) (byte + f.width / 8) (drop (j + 1) words)) (sym c.in_ok-add_word.ensures);
      byte = omega (arith, short, low);
    }
