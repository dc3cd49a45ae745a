use Rattle.std.proofs.Common.{◌≡◌, ◌++◌, ◌-◌}
use Rattle.rb_image.specs.Orders.{order_of}
use Rattle.rb_image.specs.Parts.{field_word, field_words}
use Rattle.rb_peek.proofs.view.View.words_here.Given as goal

abbrev pub invariant-loop-number : goal.invariant-loop-number
invariant-loop-number l =
    let v = l.self in
    let word = field_word l.image.blocks v.words.now.root.items v.words.now.addresses.items (order_of v.leaf.now) in
    field_words word v.at.now 0 l.count ≡ l.words.items ++ field_words word v.at.now l.number (l.count - l.number)
