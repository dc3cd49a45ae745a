use Rattle.ribbit_tool.proofs.ExecLaws.{outcome_meets}
use Rattle.ribbit_tool.proofs.exec.run_words.Goals as goal

pub returns : goal.returns
returns g c =
    outcome_meets c.args.code.now c.args.limits.calls c.args.number c.args.words.now c.args.limits.region c.in_ok-memory.memory c.in_ok-memory.ensures.value
    c.in_ok-ran.ran c.run.new.memory c.args.steps.now.taken c.run.new.steps.taken c.in_ok-ran.ensures c.show.result c.show.ensures
