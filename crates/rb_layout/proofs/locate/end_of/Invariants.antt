use Rattle.std.proofs.Common.{◌≡◌, drop, Some}
use Rattle.rb_layout.specs.Locations.{reached_at, resolve_from}
use Rattle.rb_layout.proofs.locate.end_of.Given as goal

abbrev pub invariant-loop-step : goal.invariant-loop-step
invariant-loop-step l = reached_at l.leaf l.loc ≡ resolve_from l.leaf (Some l.at) l.o l.l (drop l.step-index l.loc.steps)
