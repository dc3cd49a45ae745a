use Rattle.std.proofs.Common.{rules, below_more}
use Rattle.rb_trim.proofs.fit.each_fits.Goals as goal

pub loop-pc-preserved : goal.loop-pc-preserved
loop-pc-preserved c = below_more _ _ c.loop-pc.invariant (c.fits_at.ensures (search rules))
