use Rattle.std.proofs.Common.{◌≡◌, drop}
use Rattle.rb_image.specs.Parts.{field_word}
use Rattle.rb_image.specs.Orders.{spots_of}
use Rattle.rb_peek.proofs.view.View.word.Given as goal

abbrev pub invariant-loop-spot : goal.invariant-loop-spot
invariant-loop-spot l =
    let word = field_word l.image.blocks l.self.words.now.root.items l.self.words.now.addresses.items in
    word (spots_of l.order) l.self.at.now l.number ≡ word (spots_of (drop l.spot-index l.order)) l.self.at.now l.number
