use Rattle.std.proofs.Common.{◌≡◌, drop}
use Rattle.rb_compose.specs.Subvalues.{subvalue_at}
use Rattle.rb_fetch.proofs.parts.find_part.Given as goal

abbrev pub invariant-loop-part : goal.invariant-loop-part
invariant-loop-part l = subvalue_at (drop l.part-index l.parts) l.path ≡ subvalue_at l.parts l.path
