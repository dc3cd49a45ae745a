use Rattle.std.proofs.Common.{sym, ◌∙◌}
use Rattle.rb_names.proofs.FrameLemmas.{found-here, not-here}
use Rattle.rb_names.proofs.scope.innermost.Goals as goal

pub returns-in-Some : goal.returns-in-Some
returns-in-Some c =
    sym (found-here c.args.frames.now c.loop-i.i c.index-frames-i.result c.args.name.now c.loop-i-test.true c.loop-i.auto.i c.index-frames-i.is
    c.in-Some.number (sym c.last.ensures ∙ c.in-Some.is))
    ∙ c.loop-i.invariant

pub loop-i-preserved : goal.loop-i-preserved
loop-i-preserved c =
    not-here c.args.frames.now c.loop-i.i c.index-frames-i.result c.args.name.now c.loop-i-test.true c.loop-i.auto.i c.index-frames-i.is
    (sym c.last.ensures ∙ c.in_default.is)
    ∙ c.loop-i.invariant
