use Rattle.std.proofs.Common.{◌+◌, ◌-◌, ◌∷◌, [], ◌++◌, sym, ap, ◌∙◌, append_assoc}
use Rattle.rb_image.specs.Parts.{field_words}
use Rattle.rb_image.specs.inner.Opening.{examined_word}
use Rattle.rb_image.proofs.FieldLemmas.{words_more}
use Rattle.rb_image.proofs.below.Examined.words_of.Goals as goal

pub loop-number-preserved : goal.loop-number-preserved
loop-number-preserved c =
    let word = examined_word c.args.self.now in
    let path = c.args.path.now in
    let j = c.loop-number.number in
    let before = c.loop-number.words.items in
    let rest = field_words word path (j + 1) (c.args.count - (j + 1)) in
    c.loop-number.invariant ∙ ap (λ ys. before ++ ys) (words_more word path j c.args.count c.loop-number-test.true)
    ∙ sym (append_assoc before (word path j ∷ []) rest)
    ∙ ap (λ zs. zs ++ rest) (ap (λ w. before ++ w ∷ []) (sym c.word.ensures) ∙ sym c.in_ok-push.ensures.items)
