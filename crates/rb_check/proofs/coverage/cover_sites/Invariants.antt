use Rattle.std.proofs.Common.{take}
use Rattle.rb_check.specs.inner.Covering.{AreCovered}
use Rattle.rb_check.proofs.coverage.cover_sites.Given as goal

abbrev pub invariant-loop-site : goal.invariant-loop-site
invariant-loop-site l = AreCovered l.types (take l.site-index l.sites) l.notes
