use Rattle.std.proofs.Common.{◌≡◌, ◌+◌, ◌-◌, ◌*◌, ◌%◌, ◌^◌, ap, ◌∙◌, arith}
use Rattle.std.specs.Prelude.{bit_and, bit_or}
use Rattle.std.specs.Int.{bit_at}
use Rattle.rb_bits.specs.Words.{take_of, put_of}
use Rattle.rb_bits.proofs.WordLemmas.{put_is, bit_at_put_inside, bit_at_put_outside, take_put, take_put_elsewhere}
use Rattle.rb_bits.proofs.words.put.Goals as goal

pub returns : goal.returns
returns c =
    let w = c.args.w in
    let o = c.args.o in
    let l = c.args.l in
    let part = c.args.part in
    let fits = c.requires.part in
    let is : bit_or (bit_and w (18446744073709551615 - c.mask.result)) (part * 2 ^ o % 18446744073709551616) ≡ put_of w o l part = rw c.mask.ensures.value (put_is w o l part c.requires.range (omega arith) fits) in
    record {
      value = is;
      inside = λ i lt. ap (λ n. bit_at n (o + i)) is ∙ bit_at_put_inside w o l part i fits lt;
      outside = λ i out. ap (λ n. bit_at n i) is ∙ bit_at_put_outside w o l part i fits out;
      taken = ap (λ n. take_of n o l) is ∙ take_put w o l part fits;
      elsewhere = λ b m apart. ap (λ n. take_of n b m) is ∙ take_put_elsewhere w o l part b m fits apart;
    }
