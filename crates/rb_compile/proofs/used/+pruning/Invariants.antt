use Rattle.std.proofs.Common.{◌≡◌, map, take}
use Rattle.rb_compile.specs.inner.Used.{is_kept, pruned_pattern}
use Rattle.rb_compile.proofs.used.+pruning.Given as goal

abbrev pub invariant-prune_all-loop-pat : goal.invariant-prune_all-loop-pat
invariant-prune_all-loop-pat l = l.all ≡ map (pruned_pattern (is_kept l.marks)) (take l.pat-index l.pats)
