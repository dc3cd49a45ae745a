use Rattle.std.proofs.Common.{◌+◌, ◌/◌, [], ◌∷◌, ◌++◌, drop, length, refl, sym, ap, ◌∙◌, arith, append-nil}
use Rattle.std.specs.Prelude.{unwrap_or}
use Rattle.std.proofs.lemmas.Option.{slice_get_read}
use Rattle.rb_image.specs.LeafWords.{numbers_at}
use Rattle.rb_image.proofs.DropLemmas.{drop_past}
use Rattle.rb_image.proofs.LeafWordLemmas.{number_more}
use Rattle.rb_image.proofs.leaf_words.read_numbers.Goals as goal

pub returns-clause-numbers : goal.returns-clause-numbers
returns-clause-numbers g c =
    let found = c.loop-word.found.items in
    sym (c.loop-word.invariant.numbers
    ∙ ap (λ fs. found ++ numbers_at c.args.image.now.blocks c.args.address c.loop-word.byte fs) (drop_past c.args.words.now c.loop-word.word-index c.loop-word-test.false)
    ∙ append-nil found)

pub loop-word-preserved : goal.loop-word-preserved
loop-word-preserved g c =
    let m = c.args.image.now.blocks in
    let at = c.args.address in
    let words = c.args.words.now in
    let j = c.loop-word.word-index in
    let byte = c.loop-word.byte in
    let f = c.word-item.result in
    let is = slice_get_read words (length words) j f refl c.loop-word-test.true c.word-item.is in
    let before = c.loop-word.found.items in
    let rest = numbers_at m at (byte + f.width / 8) (drop (j + 1) words) in
    let short = c.requires.short.short j f is in
    let low = c.loop-word.invariant.byte in
    let least = c.loop-word.invariant.least in
    let most = c.loop-word.invariant.most in
    let read_least = c.read_block.ensures.least in
    let read_most = c.read_block.ensures.most in
    record {
      numbers = c.loop-word.invariant.numbers ∙ number_more m at words j byte f before is
          ∙ ap (λ zs. zs ++ rest) (ap (λ n. before ++ n ∷ []) (sym (c.unwrap_or.ensures ∙ ap (λ o. unwrap_or o 0) c.read_block.ensures.word)) ∙ sym c.in_ok-push.ensures.items);
      byte = omega (arith, short, low);
      least = omega (arith, least, read_least);
      most = omega (arith, most, read_most);
    }
