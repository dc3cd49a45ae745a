use Rattle.rb_trim.proofs.Facts.{narrow_held}
use Rattle.rb_trim.proofs.knowing.is_narrow.Goals as goal

pub returns-in-Some : goal.returns-in-Some
returns-in-Some c = λ t. narrow_held c.args.facts.now c.args.slot c.in-Some.content c.args.l c.in-Some.ensures (c.fits_in.ensures t)
