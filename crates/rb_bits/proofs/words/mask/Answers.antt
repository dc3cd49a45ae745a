use Rattle.std.proofs.Common.{◌+◌, ap, ◌∙◌, arith}
use Rattle.std.specs.Int.{bit_at}
use Rattle.std.proofs.lemmas.Nat.Bits.{bit_at_mask_inside}
use Rattle.rb_bits.proofs.WordLemmas.{mask_is, bit_at_mask_outside}
use Rattle.rb_bits.proofs.words.mask.Goals as goal

pub returns-clause-value : goal.returns-clause-value
returns-clause-value c = mask_is c.args.o c.args.l c.requires

pub returns-clause-inside : goal.returns-clause-inside
returns-clause-inside c i lt =
    let o = c.args.o in
    let l = c.args.l in
    ap (λ n. bit_at n (o + i)) (mask_is o l c.requires) ∙ bit_at_mask_inside o (o + l) (o + i) (omega arith) (omega arith)

pub returns-clause-outside : goal.returns-clause-outside
returns-clause-outside c i out =
    let o = c.args.o in
    let l = c.args.l in
    ap (λ n. bit_at n i) (mask_is o l c.requires) ∙ bit_at_mask_outside o l i out
