use Rattle.std.proofs.Common.{ap, ◌∙◌}
use Rattle.std.specs.Int.{bit_at}
use Rattle.rb_bits.proofs.WordLemmas.{take_is, take_fits, bit_at_take}
use Rattle.rb_bits.proofs.words.take.Goals as goal

pub returns-clause-value : goal.returns-clause-value
returns-clause-value c = take_is c.args.w c.args.o c.args.l c.requires

pub returns-clause-fits : goal.returns-clause-fits
returns-clause-fits c = rw (take_is c.args.w c.args.o c.args.l c.requires) (take_fits c.args.w c.args.o c.args.l)

pub returns-clause-bits : goal.returns-clause-bits
returns-clause-bits c i lt =
    ap (λ n. bit_at n i) (take_is c.args.w c.args.o c.args.l c.requires) ∙ bit_at_take c.args.w c.args.o c.args.l i lt
