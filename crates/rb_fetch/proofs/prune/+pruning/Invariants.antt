use Rattle.std.proofs.Common.{◌≡◌, ◌++◌, drop, map}
use Rattle.rb_fetch.specs.Pruning.{live_arms}
use Rattle.rb_fetch.specs.inner.Pruning.{pruned_under}
use Rattle.rb_fetch.proofs.prune.+pruning.Given as goal

abbrev pub invariant-prune_arms-loop-arm : goal.invariant-prune_arms-loop-arm
invariant-prune_arms-loop-arm l = l.live ++ live_arms (map (pruned_under l.groups) (drop l.arm-index l.arms)) ≡ live_arms (map (pruned_under l.groups) l.arms)
