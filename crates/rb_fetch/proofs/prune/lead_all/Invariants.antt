use Rattle.std.proofs.Common.{◌≡◌, drop}
use Rattle.rb_fetch.specs.Pruning.{lead_all}
use Rattle.rb_fetch.proofs.prune.lead_all.Given as goal

abbrev pub invariant-loop-arm : goal.invariant-loop-arm
invariant-loop-arm l = lead_all l.group (drop l.arm-index l.arms) ≡ lead_all l.group l.arms
