use Rattle.std.proofs.Common.{rules, subst}
use Rattle.rb_trim.specs.inner.Stepping.{IsFit}
use Rattle.rb_trim.proofs.fit.fits.Goals as goal

pub returns : goal.returns
returns c = λ t.
    subst (λ b. IsFit c.args.slots c.args.params b) c.as_slice-body.ensures (record {
      small = (search rules, search rules);
      enough = (c.counts_slots.ensures (search rules)).0;
      written = (c.counts_slots.ensures (search rules)).1;
      ends = c.ends_in_return.ensures.0 (search rules);
      each = c.each_fits.ensures t;
    })
