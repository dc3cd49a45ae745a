use Rattle.std.proofs.Common.{◌+◌, ◌-◌, ◌∷◌, [], ◌++◌, sym, ap, ◌∙◌, append_assoc}
use Rattle.rb_image.specs.Orders.{order_of, spots_of}
use Rattle.rb_image.specs.Parts.{field_word, field_words}
use Rattle.rb_image.proofs.FieldLemmas.{words_more}
use Rattle.rb_peek.proofs.view.View.words_here.Goals as goal

pub loop-number-preserved : goal.loop-number-preserved
loop-number-preserved c =
    let v = c.args.self.now in
    let seen = field_word c.args.image.now.blocks v.words.now.root.items v.words.now.addresses.items in
    let word = seen (order_of v.leaf.now) in
    let path = v.at.now in
    let j = c.loop-number.number in
    let before = c.loop-number.words.items in
    let count = c.word_count-count.result in
    let rest = field_words word path (j + 1) (count - (j + 1)) in
    let same = ap spots_of c.as_slice.ensures.value ∙ c.in_ok-order.ensures in
    c.loop-number.invariant ∙ ap (λ ys. before ++ ys) (words_more word path j count c.loop-number-test.true)
    ∙ sym (append_assoc before (word path j ∷ []) rest)
    ∙ ap (λ zs. zs ++ rest) (ap (λ w. before ++ w ∷ []) (sym (c.word.ensures ∙ ap (λ ss. seen ss path j) same)) ∙ sym c.in_ok-push.ensures.items)
