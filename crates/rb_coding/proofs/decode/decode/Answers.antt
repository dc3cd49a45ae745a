use Rattle.std.proofs.Common.{ap, ◌∙◌, arith}
use Rattle.rb_coding.specs.declared.todo.Step.TheVariants.{Visit}
use Rattle.rb_coding.proofs.TodoLemmas.{some_node, join_some, join_runs, join_within, join_less, number_runs, number_within, number_less, visit_some, visit_runs, visit_over, visit_less}
use Rattle.rb_coding.proofs.decode.decode.Goals as goal

pub returns-then-limit-eq0 : goal.returns-then-limit-eq0
returns-then-limit-eq0 g c = λ v rep. let some = some_node v in omega (arith, some, c.if-limit-eq0.true)

pub build-requires : goal.build-requires
build-requires g c =
    let p = c.args.agreed.now.covered.program in
    let m = g.M.ByteMemory.memory c.args.memory.now in
    let r = c.requires.represented in
    join_some p m c.args.ty c.args.words.now c.loop-step.todo.items c.pop.new.self.items c.in-Some.step c.in-Some.ensures.items c.loop-step.builder c.loop-step.invariant.runs c.in-Join.con c.in-Join.count c.in-Join.is r.0 r.1

pub loop-step-smaller-in_ok-build-in-Join : goal.loop-step-smaller-in_ok-build-in-Join
loop-step-smaller-in_ok-build-in-Join g c =
    let p = c.args.agreed.now.covered.program in
    let m = g.M.ByteMemory.memory c.args.memory.now in
    join_less p m c.args.ty c.args.words.now c.loop-step.todo.items c.pop.new.self.items c.in-Some.step c.in-Some.ensures.items c.loop-step.builder c.loop-step.invariant.runs c.in-Join.con c.in-Join.count c.in-Join.is c.build.new.self
    c.in_ok-build-in-Join.ensures c.args.limit

pub loop-step-preserved-in_ok-build-in-Join : goal.loop-step-preserved-in_ok-build-in-Join
loop-step-preserved-in_ok-build-in-Join g c =
    let p = c.args.agreed.now.covered.program in
    let m = g.M.ByteMemory.memory c.args.memory.now in
    record {
      runs = join_runs p m c.args.ty c.args.words.now c.loop-step.todo.items c.pop.new.self.items c.in-Some.step c.in-Some.ensures.items c.loop-step.builder c.loop-step.invariant.runs c.in-Join.con c.in-Join.count c.in-Join.is c.build.new.self c.in_ok-build-in-Join.ensures;
      within = join_within p m c.args.ty c.args.words.now c.loop-step.todo.items c.pop.new.self.items c.in-Some.step c.in-Some.ensures.items c.loop-step.builder c.loop-step.invariant.runs c.in-Join.con c.in-Join.count c.in-Join.is c.build.new.self c.in_ok-build-in-Join.ensures c.args.limit c.loop-step.invariant.within;
    }

pub loop-step-smaller-in-Visit-Int-default : goal.loop-step-smaller-in-Visit-Int-default
loop-step-smaller-in-Visit-Int-default g c =
    let p = c.args.agreed.now.covered.program in
    let m = g.M.ByteMemory.memory c.args.memory.now in
    number_less p m c.args.ty c.args.words.now c.loop-step.todo.items c.pop.new.self.items c.in-Some.step c.in-Some.ensures.items c.loop-step.builder c.loop-step.invariant.runs c.in-Visit-Int-default.field-0-0 c.in-Visit-Int-default.words (c.in-Visit-Int-default.is ∙ ap (λ t. Visit t c.in-Visit-Int-default.words) c.in-Visit-Int-default.field-0-is) c.number.new.self
    (rw (c.first.ensures, c.as_slice.ensures) at c.in_ok-number-in-Visit-Int-default.ensures) c.args.limit

pub loop-step-preserved-in-Visit-Int-default : goal.loop-step-preserved-in-Visit-Int-default
loop-step-preserved-in-Visit-Int-default g c =
    let p = c.args.agreed.now.covered.program in
    let m = g.M.ByteMemory.memory c.args.memory.now in
    let new = rw (c.first.ensures, c.as_slice.ensures) at c.in_ok-number-in-Visit-Int-default.ensures in
    record {
      runs = number_runs p m c.args.ty c.args.words.now c.loop-step.todo.items c.pop.new.self.items c.in-Some.step c.in-Some.ensures.items c.loop-step.builder c.loop-step.invariant.runs c.in-Visit-Int-default.field-0-0 c.in-Visit-Int-default.words (c.in-Visit-Int-default.is ∙ ap (λ t. Visit t c.in-Visit-Int-default.words) c.in-Visit-Int-default.field-0-is) c.number.new.self new;
      within = number_within p m c.args.ty c.args.words.now c.loop-step.todo.items c.pop.new.self.items c.in-Some.step c.in-Some.ensures.items c.loop-step.builder c.loop-step.invariant.runs c.in-Visit-Int-default.field-0-0 c.in-Visit-Int-default.words (c.in-Visit-Int-default.is ∙ ap (λ t. Visit t c.in-Visit-Int-default.words) c.in-Visit-Int-default.field-0-is) c.number.new.self new c.args.limit c.loop-step.invariant.within;
    }

pub open-requires-clause-represented : goal.open-requires-clause-represented
open-requires-clause-represented g c =
    let p = c.args.agreed.now.covered.program in
    let m = g.M.ByteMemory.memory c.args.memory.now in
    let r = c.requires.represented in
    rw c.as_slice-in-Visit-Named-default.ensures
    (visit_some p m c.args.ty c.args.words.now c.loop-step.todo.items c.pop.new.self.items c.in-Some.step c.in-Some.ensures.items c.loop-step.builder c.loop-step.invariant.runs c.in-Visit-Named-default.ty c.in-Visit-Named-default.words (c.in-Visit-Named-default.is ∙ ap (λ t. Visit t c.in-Visit-Named-default.words) c.in-Visit-Named-default.field-0-is) r.0 r.1)

pub returns-then-len-limit : goal.returns-then-len-limit
returns-then-len-limit g c =
    let p = c.args.agreed.now.covered.program in
    let m = g.M.ByteMemory.memory c.args.memory.now in
    let r = c.requires.represented in
    let is = c.in-Visit-Named-default.is ∙ ap (λ t. Visit t c.in-Visit-Named-default.words) c.in-Visit-Named-default.field-0-is in
    let opened = rw c.as_slice-in-Visit-Named-default.ensures at c.in_ok-open-in-Visit-Named-default.ensures in
    let within = c.loop-step.invariant.within in
    visit_over p m c.args.ty c.args.words.now c.loop-step.todo.items c.pop.new.self.items c.in-Some.step c.in-Some.ensures.items c.loop-step.builder c.loop-step.invariant.runs c.in-Visit-Named-default.ty c.in-Visit-Named-default.words is c.open.new.todo.items opened c.args.limit (omega (arith, within)) (omega (arith, c.if-len-limit.true, c.count.ensures, c.len.ensures, c.open.new.todo.ok.0, within))

pub loop-step-smaller : goal.loop-step-smaller
loop-step-smaller g c =
    let p = c.args.agreed.now.covered.program in
    let m = g.M.ByteMemory.memory c.args.memory.now in
    let r = c.requires.represented in
    let is = c.in-Visit-Named-default.is ∙ ap (λ t. Visit t c.in-Visit-Named-default.words) c.in-Visit-Named-default.field-0-is in
    let opened = rw c.as_slice-in-Visit-Named-default.ensures at c.in_ok-open-in-Visit-Named-default.ensures in
    let within = c.loop-step.invariant.within in
    visit_less p m c.args.ty c.args.words.now c.loop-step.todo.items c.pop.new.self.items c.in-Some.step c.in-Some.ensures.items c.loop-step.builder c.loop-step.invariant.runs c.in-Visit-Named-default.ty c.in-Visit-Named-default.words is c.open.new.todo.items opened c.args.limit r.0 r.1 within (omega (arith, c.if-len-limit.false, c.count.ensures, c.len.ensures, c.open.new.todo.ok.0, within))

pub loop-step-preserved : goal.loop-step-preserved
loop-step-preserved g c =
    let p = c.args.agreed.now.covered.program in
    let m = g.M.ByteMemory.memory c.args.memory.now in
    let is = c.in-Visit-Named-default.is ∙ ap (λ t. Visit t c.in-Visit-Named-default.words) c.in-Visit-Named-default.field-0-is in
    let opened = rw c.as_slice-in-Visit-Named-default.ensures at c.in_ok-open-in-Visit-Named-default.ensures in
    let within = c.loop-step.invariant.within in
    record {
      runs = visit_runs p m c.args.ty c.args.words.now c.loop-step.todo.items c.pop.new.self.items c.in-Some.step c.in-Some.ensures.items c.loop-step.builder c.loop-step.invariant.runs c.in-Visit-Named-default.ty c.in-Visit-Named-default.words is c.open.new.todo.items opened;
      within = omega (arith, c.if-len-limit.false, c.count.ensures, c.len.ensures, c.open.new.todo.ok.0, within);
    }
