use Rattle.std.proofs.Common.{ℕ, ◌+◌, ◌-◌, ◌∙◌, List, length, sym, ap, subst}
use Rattle.std.proofs.lemmas.List.{take_at, drop_at}
use Rattle.rb_target.specs.Meaning.{from}
use Rattle.rb_machine.specs.inner.Stretches.{end_from_stop, IsQuietFrom}
use Rattle.rb_machine.proofs.stretch.stretch_above.Goals as goal

pub stretch-requires-clause-slots : goal.stretch-requires-clause-slots
stretch-requires-clause-slots g c = ap length c.split_at_mut-slots.ensures.back ∙ c.requires.slots

pub stretch-requires-clause-checks : goal.stretch-requires-clause-checks
stretch-requires-clause-checks g c off =
    subst (λ (xs : List ℕ). IsQuietFrom c.args.fun.now.body c.args.start xs (g.M.ByteMemory.memory c.args.memory.now) c.args.switches.now) (sym c.split_at_mut-slots.ensures.back) (c.requires.checks off)

pub returns-clause-below : goal.returns-clause-below
returns-clause-below g c =
    let cut = c.split_at_mut-slots in
    take_at cut.result.0.now c.stretch.new.slots c.args.base cut.ensures.front_len ∙ cut.ensures.front

pub returns-clause-same : goal.returns-clause-same
returns-clause-same g c callee left taken =
    let cut = c.split_at_mut-slots in
    let body = c.args.fun.now.body in
    let memory = g.M.ByteMemory.memory in
    let count = c.stretch.new.steps.taken - c.args.steps.now.taken in
    let above = drop_at cut.result.0.now c.stretch.new.slots c.args.base cut.ensures.front_len in
    ap (λ xs. from body callee c.args.start xs (record { left = left; memory = memory c.args.memory.now; switches = c.args.switches.now; taken = taken })) (sym cut.ensures.back)
    ∙ c.stretch.ensures.same callee left taken
    ∙ ap (λ xs. end_from_stop body callee c.stretch.result xs (record { left = left; memory = memory c.stretch.new.memory; switches = c.stretch.new.switches; taken = taken + count })) (sym above)
