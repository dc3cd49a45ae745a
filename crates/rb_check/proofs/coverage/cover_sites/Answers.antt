use Rattle.rb_check.specs.Covering.{AreRefused}
use Rattle.rb_check.proofs.CoverLemmas.{covered-next, fault-passed, numbered-at, refused-here}
use Rattle.rb_check.proofs.coverage.cover_sites.Goals as goal

pub cover_site-requires-clause-numbered : goal.cover_site-requires-clause-numbered
cover_site-requires-clause-numbered c =
    numbered-at c.args.types.now c.args.sites.now c.loop-site.site-index c.site-item.result c.loop-site-test.true c.site-item.is c.requires.numbered

pub returns-in_err-cover_site-clause-refused : goal.returns-in_err-cover_site-clause-refused
returns-in_err-cover_site-clause-refused c =
    fault-passed _ _ (AreRefused c.args.types.now c.args.sites.now) c.from_residual.ensures.1
    (refused-here c.args.types.now c.args.sites.now c.loop-site.site-index c.site-item.result c.loop-site.notes _ c.loop-site-test.true c.site-item.is
    c.loop-site.invariant c.in_err-cover_site.ensures.refused)

pub loop-site-preserved : goal.loop-site-preserved
loop-site-preserved c =
    covered-next c.args.types.now c.args.sites.now c.loop-site.site-index c.site-item.result c.loop-site.notes c.cover_site.new.notes c.loop-site-test.true c.site-item.is
    c.loop-site.invariant c.in_ok-cover_site.ensures.covered
