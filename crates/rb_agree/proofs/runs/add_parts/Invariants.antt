use Rattle.std.proofs.Common.{drop}
use Rattle.rb_agree.specs.inner.Gathered.{parts_runs}
use Rattle.rb_agree.proofs.Gathering.{GathersRest}
use Rattle.rb_agree.proofs.runs.add_parts.Given as goal

abbrev pub invariant-loop-part : goal.invariant-loop-part
invariant-loop-part l = GathersRest l.places (parts_runs l.parts) (parts_runs (drop l.part-index l.parts)) l.fn.rows l.rows
