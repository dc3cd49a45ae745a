use Rattle.std.proofs.Common.{◌≡◌, take}
use Rattle.rb_core.proofs.pattern.+copying.Given as goal

abbrev pub invariant-copy_patterns-loop-pat : goal.invariant-copy_patterns-loop-pat
invariant-copy_patterns-loop-pat l = l.copies ≡ take l.pat-index l.pats
