use Rattle.std.proofs.Common.{◌≡◌, drop}
use Rattle.rb_fragment.specs.Arms.{with_targets, ArePatchable}
use Rattle.rb_fragment.proofs.patch.patch_all.Given as goal

abbrev pub invariant-loop-hole : goal.invariant-loop-hole
invariant-loop-hole l = record {
  same : with_targets l.fn.body l.holes l.targets ≡ with_targets l.body (drop l.hole-index l.holes) l.targets;
  patchable : ArePatchable l.body.code (drop l.hole-index l.holes) l.targets;
}
