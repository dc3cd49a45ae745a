use Rattle.std.proofs.Common.{drop}
use Rattle.rb_agree.specs.inner.Gathered.{blocks_runs}
use Rattle.rb_agree.proofs.Gathering.{GathersRest}
use Rattle.rb_agree.proofs.runs.add_blocks.Given as goal

abbrev pub invariant-loop-block : goal.invariant-loop-block
invariant-loop-block l = GathersRest l.places (blocks_runs l.blocks) (blocks_runs (drop l.block-index l.blocks)) l.fn.rows l.rows
