use Rattle.std.proofs.Common.{rules, subst, sym}
use Rattle.rb_trim.specs.declared.fact.Content.{Content}
use Rattle.rb_trim.specs.inner.Following.{IsBelow}
use Rattle.rb_trim.proofs.Facts.{below_part, below_computed}
use Rattle.rb_trim.proofs.knowing.fits_in.Goals as goal

pub returns-in-Part : goal.returns-in-Part
returns-in-Part c = λ t.
    subst (λ (x : Content). IsBelow x c.args.l) (sym c.in-Part.is)
    (below_part c.in-Part.field-0 c.in-Part.field-1 c.in-Part.bits c.args.l (search rules))

pub returns-then-bits-ge1 : goal.returns-then-bits-ge1
returns-then-bits-ge1 c = λ t.
    subst (λ (x : Content). IsBelow x c.args.l) (sym c.in-Computed.is)
    (below_computed c.in-Computed.field-0 c.in-Computed.bits c.in-Computed.field-2 c.in-Computed.field-3 c.args.l (search rules) (search rules))
