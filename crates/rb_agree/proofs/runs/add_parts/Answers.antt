use Rattle.std.proofs.Common.{◌+◌, drop}
use Rattle.rb_agree.specs.inner.Held.{part_runs}
use Rattle.rb_agree.specs.inner.Gathered.{parts_runs}
use Rattle.rb_agree.proofs.Gathering.{rest-last, rest-next}
use Rattle.rb_agree.proofs.Lists.{flat-end, flat-next}
use Rattle.rb_agree.proofs.runs.add_parts.Goals as goal

pub loop-part-preserved : goal.loop-part-preserved
loop-part-preserved c =
    rest-next c.args.places.now (parts_runs c.args.parts.now) (parts_runs (drop c.loop-part.part-index c.args.parts.now)) (parts_runs (drop (c.loop-part.part-index + 1) c.args.parts.now))
    (λ ty path. part_runs ty path c.part-item.result) c.args.rows.now c.loop-part.rows c.add_part.new.rows
    (λ ty path. flat-next (part_runs ty path) c.args.parts.now c.loop-part.part-index c.part-item.result c.loop-part-test.true c.part-item.is)
    c.loop-part.invariant c.in_ok-add_part.ensures

pub returns : goal.returns
returns c =
    rest-last c.args.places.now (parts_runs c.args.parts.now) (parts_runs (drop c.loop-part.part-index c.args.parts.now)) c.args.rows.now c.loop-part.rows
    (λ ty path. flat-end (part_runs ty path) c.args.parts.now c.loop-part.part-index c.loop-part-test.false) c.loop-part.invariant
