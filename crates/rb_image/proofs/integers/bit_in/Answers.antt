use Rattle.std.proofs.Common.{sym, ap, ◌∙◌, ◌-◌}
use Rattle.rb_bits.specs.Words.{take_of}
use Rattle.rb_image.specs.Integers.{bit_in}
use Rattle.rb_image.proofs.IntegerLemmas.{take_bit}
use Rattle.rb_image.proofs.integers.bit_in.Goals as goal

pub returns-in-Bits : goal.returns-in-Bits
returns-in-Bits c =
    let v = c.args.number in
    let k = c.args.i - c.in-Bits.a in
    c.take_from.ensures ∙ ap (λ n. take_of v n 1) c.less.ensures ∙ take_bit v k ∙ sym (ap (bit_in v c.args.i) c.in-Bits.is)
