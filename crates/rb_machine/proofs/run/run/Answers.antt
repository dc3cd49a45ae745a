use Rattle.std.proofs.Common.{◌≡◌, ◌+◌, ◌-◌, ◌∙◌, refl, ap, arith, subst}
use Rattle.rb_target.specs.Meaning.{CallEnd, World, over, run_of}
use Rattle.rb_target.specs.declared.outcome.End.TheVariants.{Spent}
use Rattle.rb_target.proofs.Calling.{enter_none}
use Rattle.rb_machine.specs.Runs.{IsNotTrapped}
use Rattle.rb_machine.specs.inner.Turns.{rest_of, world_of}
use Rattle.rb_machine.proofs.run.run.Goals as goal

pub returns-then-calls-eq0 : goal.returns-then-calls-eq0
returns-then-calls-eq0 g c =
    let w : World = record { left = c.args.calls; memory = g.M.ByteMemory.memory c.args.memory.now; switches = 0; taken = 0 } in
    let e : run_of c.args.code.now c.args.calls c.args.fun c.args.words.now (g.M.ByteMemory.memory c.args.memory.now) ≡ over Spent w = enter_none c.args.code.now c.args.calls c.args.fun c.args.words.now w c.if-calls-eq0.true in
    rw e (record { ended = refl; switches = refl; memory = refl; taken = omega arith })

pub stretch_turn-requires-clause-checks : goal.stretch_turn-requires-clause-checks
stretch_turn-requires-clause-checks g c off =
    (c.loop-leave.steps.taken - c.args.steps.now.taken, subst (λ (o : CallEnd). IsNotTrapped o.ended) c.loop-leave.invariant.same (c.requires.checks off))

pub returns-in-Some : goal.returns-in-Some
returns-in-Some g c =
    let m = g.M.ByteMemory.memory c.stretch_turn.new.memory in
    let k = c.loop-leave.steps.taken - c.args.steps.now.taken in
    let count = c.stretch_turn.new.steps.taken - c.loop-leave.steps.taken in
    let ended = rw c.in-Some.is at c.in_ok-end.ensures in
    let whole : run_of c.args.code.now c.args.calls c.args.fun c.args.words.now (g.M.ByteMemory.memory c.args.memory.now) ≡ over c.in-Some.end (world_of c.turn.new.state m (k + count + 1)) =
    c.loop-leave.invariant.same ∙ c.in-Ok.ensures.gives.0.same k ∙ ended m (k + count) in
    rw whole (record { ended = refl; switches = refl; memory = refl; taken = omega (arith, c.tick.ensures.taken, c.loop-leave.invariant.ticks, c.in-Ok.ensures.ticks) })

pub loop-leave-smaller : goal.loop-leave-smaller
loop-leave-smaller g c =
    let turned = rw c.in_default.is at c.in_ok-end.ensures in
    omega (arith, c.in-Ok.ensures.gives.0.less, (turned (g.M.ByteMemory.memory c.stretch_turn.new.memory)).less)

pub loop-leave-preserved : goal.loop-leave-preserved
loop-leave-preserved g c =
    let m = g.M.ByteMemory.memory c.stretch_turn.new.memory in
    let k = c.loop-leave.steps.taken - c.args.steps.now.taken in
    let count = c.stretch_turn.new.steps.taken - c.loop-leave.steps.taken in
    let turned = (rw c.in_default.is at c.in_ok-end.ensures) m in
    let all : k + count + 1 ≡ c.tick.new.self.taken - c.args.steps.now.taken = omega (arith, c.tick.ensures.taken, c.loop-leave.invariant.ticks, c.in-Ok.ensures.ticks) in
    record {
      sound = turned.sound;
      ticks = omega (arith, c.tick.ensures.taken, c.loop-leave.invariant.ticks, c.in-Ok.ensures.ticks);
      same = c.loop-leave.invariant.same ∙ c.in-Ok.ensures.gives.0.same k ∙ turned.same (k + count) ∙ ap (λ n. rest_of c.funs-funs.result.now (c.args.calls - 1) c.turn.new.state m n) all;
    }
