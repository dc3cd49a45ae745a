use Rattle.std.proofs.Common.{◌≡◌, ◌+◌, ◌-◌, ◌∙◌, Option, length, Some, refl, sym, ap, subst, arith}
use Rattle.std.proofs.lemmas.Option.{slice_get_read}
use Rattle.std.specs.Prelude.{slice_get}
use Rattle.rb_target.specs.Meaning.{from, over}
use Rattle.rb_machine.proofs.Rest.{goes_on}
use Rattle.rb_machine.proofs.Quiet.{may_run, quiet_later}
use Rattle.rb_machine.proofs.Stretches.{one_more, not_begun}
use Rattle.rb_target.specs.declared.instr.Instr.{Instr}
use Rattle.rb_machine.specs.inner.Turns.{IsLeave}
use Rattle.rb_machine.specs.declared.state.Flow.TheVariants.{Goes, Ends}
use Rattle.rb_machine.proofs.stretch.stretch.Goals as goal

pub step-requires-clause-goes_on : goal.step-requires-clause-goes_on
step-requires-clause-goes_on g c =
    let f = c.args.fun.now in
    let i = c.index-body-pc.result in
    let is : slice_get f.body c.loop-next.pc ≡ Some i = slice_get_read f.body (length f.body) c.loop-next.pc i refl c.loop-next.invariant.inside (rw c.as_slice-body.ensures at c.index-body-pc.is) in
    goes_on c.args.funs.now f c.loop-next.pc i c.requires.valid is

pub step-requires-clause-fine : goal.step-requires-clause-fine
step-requires-clause-fine g c =
    let f = c.args.fun.now in
    let i = c.index-body-pc.result in
    let is : slice_get f.body c.loop-next.pc ≡ Some i = slice_get_read f.body (length f.body) c.loop-next.pc i refl c.loop-next.invariant.inside (rw c.as_slice-body.ensures at c.index-body-pc.is) in
    c.requires.valid.each c.loop-next.pc i is

pub step-requires-clause-checks : goal.step-requires-clause-checks
step-requires-clause-checks g c off =
    let f = c.args.fun.now in
    let i = c.index-body-pc.result in
    let memory = g.M.ByteMemory.memory in
    let is : slice_get f.body c.loop-next.pc ≡ Some i = slice_get_read f.body (length f.body) c.loop-next.pc i refl c.loop-next.invariant.inside (rw c.as_slice-body.ensures at c.index-body-pc.is) in
    let quiet = quiet_later f.body c.args.start c.loop-next.pc c.args.slots.now c.loop-next.slots (memory c.args.memory.now) (memory c.loop-next.memory) c.args.switches.now c.loop-next.switches (c.loop-next.steps.taken - c.args.steps.now.taken)
    c.loop-next.invariant.same (c.requires.checks off) in
    may_run f.body c.requires.laws c.loop-next.pc c.loop-next.slots (memory c.loop-next.memory) c.loop-next.switches i is quiet

pub loop-next-preserved : goal.loop-next-preserved
loop-next-preserved g c =
    let f = c.args.fun.now in
    let i = c.index-body-pc.result in
    let next = c.in-Goes.next in
    let memory = g.M.ByteMemory.memory in
    let is : slice_get f.body c.loop-next.pc ≡ Some i = slice_get_read f.body (length f.body) c.loop-next.pc i refl c.loop-next.invariant.inside (rw c.as_slice-body.ensures at c.index-body-pc.is) in
    let later = c.in-Goes.ensures.target.0 in
    let ticks = c.loop-next.invariant.ticks in
    let ticked = c.loop-next.invariant.ticked in
    let switched = c.loop-next.invariant.switched in
    let more = c.in-Goes.ensures.switches in
    let tick = c.tick.ensures.taken in
    record {
      inside = c.in-Goes.ensures.target.1;
      slots = c.step.auto.slots ∙ c.loop-next.invariant.slots;
      ticks = omega (arith, ticks, tick);
      ticked = omega (arith, ticks, ticked, tick, later);
      switched = omega (arith, switched, more, later);
      same = λ callee left taken.
          let k = taken + (c.loop-next.steps.taken - c.args.steps.now.taken) in
          let step = one_more f.body callee (c.requires.laws callee) c.loop-next.pc left k i (Goes next) c.loop-next.slots c.step.new.slots (memory c.loop-next.memory) (memory c.step.new.memory) c.loop-next.switches c.step.new.switches is c.in-Goes.ensures.flow in
          let count : k + 1 ≡ taken + (c.tick.new.self.taken - c.args.steps.now.taken) = omega (arith, ticks, tick) in
          c.loop-next.invariant.same callee left taken ∙ step
          ∙ ap (λ n. from f.body callee next c.step.new.slots (record { left = left; memory = memory c.step.new.memory; switches = c.step.new.switches; taken = n })) count;
    }

pub returns-in-Leaves-clause-same : goal.returns-in-Leaves-clause-same
returns-in-Leaves-clause-same g c callee left taken =
    let f = c.args.fun.now in
    let i = c.index-body-pc.result in
    let memory = g.M.ByteMemory.memory in
    let is : slice_get f.body c.loop-next.pc ≡ Some i = slice_get_read f.body (length f.body) c.loop-next.pc i refl c.loop-next.invariant.inside (rw c.as_slice-body.ensures at c.index-body-pc.is) in
    let k = taken + (c.loop-next.steps.taken - c.args.steps.now.taken) in
    c.loop-next.invariant.same callee left taken
    ∙ not_begun f.body callee (c.requires.laws callee) c.loop-next.pc left k i c.loop-next.slots c.step.new.slots (memory c.loop-next.memory) (memory c.step.new.memory) c.loop-next.switches c.step.new.switches is c.in-Leaves.ensures.flow

pub returns-in-Leaves-clause-stop : goal.returns-in-Leaves-clause-stop
returns-in-Leaves-clause-stop g c =
    let f = c.args.fun.now in
    let i = c.index-body-pc.result in
    let is : slice_get f.body c.loop-next.pc ≡ Some i = slice_get_read f.body (length f.body) c.loop-next.pc i refl c.loop-next.invariant.inside (rw c.as_slice-body.ensures at c.index-body-pc.is) in
    let left = c.in-Leaves.ensures.leaves in
    let same = left.0 in
    (c.loop-next.invariant.inside, c.loop-next.invariant.ticked, omega (arith, same, c.loop-next.invariant.switched), subst (λ (o : Option Instr). IsLeave o c.in-Leaves.leave) (sym is) left.1)

pub returns-in-Ends-clause-same : goal.returns-in-Ends-clause-same
returns-in-Ends-clause-same g c callee left taken =
    let f = c.args.fun.now in
    let i = c.index-body-pc.result in
    let e = c.in-Ends.end in
    let memory = g.M.ByteMemory.memory in
    let is : slice_get f.body c.loop-next.pc ≡ Some i = slice_get_read f.body (length f.body) c.loop-next.pc i refl c.loop-next.invariant.inside (rw c.as_slice-body.ensures at c.index-body-pc.is) in
    let ticks = c.loop-next.invariant.ticks in
    let tick = c.tick-in-Ends.ensures.taken in
    let k = taken + (c.loop-next.steps.taken - c.args.steps.now.taken) in
    let step = one_more f.body callee (c.requires.laws callee) c.loop-next.pc left k i (Ends e) c.loop-next.slots c.step.new.slots (memory c.loop-next.memory) (memory c.step.new.memory) c.loop-next.switches c.step.new.switches is c.in-Ends.ensures.flow in
    let count : k + 1 ≡ taken + (c.tick-in-Ends.new.self.taken - c.args.steps.now.taken) = omega (arith, ticks, tick) in
    c.loop-next.invariant.same callee left taken ∙ step
    ∙ ap (λ n. over e (record { left = left; memory = memory c.step.new.memory; switches = c.step.new.switches; taken = n })) count
