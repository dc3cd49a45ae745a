use Rattle.std.proofs.Common.{◌≡◌, drop}
use Rattle.rb_image.specs.Parts.{field_word}
use Rattle.rb_image.specs.inner.Opening.{examined_word}
use Rattle.rb_image.specs.Orders.{spots_of}
use Rattle.rb_image.proofs.below.Examined.word.Given as goal

abbrev pub invariant-loop-spot : goal.invariant-loop-spot
invariant-loop-spot l =
    examined_word l.self l.path l.number
    ≡ field_word l.self.memory.now l.self.words.now l.self.addresses.now (spots_of (drop l.spot-index l.self.order.now)) l.path l.number
