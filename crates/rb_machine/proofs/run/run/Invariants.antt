use Rattle.std.proofs.Common.{◌≡◌, ◌≤◌, ◌-◌}
use Rattle.rb_target.specs.Meaning.{run_of}
use Rattle.rb_machine.specs.inner.Turns.{StateIsSound, rest_of, work}
use Rattle.rb_machine.proofs.run.run.Given as goal

abbrev pub invariant-loop-leave : goal.invariant-loop-leave
invariant-loop-leave g l = record {
  sound : StateIsSound l.funs (l.calls - 1) l.state;
  ticks : l.fn.steps.taken ≤ l.steps.taken;
  same : run_of l.code l.calls l.fun l.words (g.M.ByteMemory.memory l.fn.memory)
      ≡ rest_of l.funs (l.calls - 1) l.state (g.M.ByteMemory.memory l.memory) (l.steps.taken - l.fn.steps.taken);
}

abbrev pub decreases-loop-leave : goal.decreases-loop-leave
decreases-loop-leave g l = work l.funs l.state
