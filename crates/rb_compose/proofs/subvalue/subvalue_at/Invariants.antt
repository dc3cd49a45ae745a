use Rattle.std.proofs.Common.{◌≡◌, drop}
use Rattle.rb_compose.specs.Subvalues.{subvalue_at}
use Rattle.rb_compose.proofs.subvalue.subvalue_at.Given as goal

abbrev pub invariant-loop-sub : goal.invariant-loop-sub
invariant-loop-sub l = subvalue_at (drop l.sub-index l.subs) l.path ≡ subvalue_at l.subs l.path
