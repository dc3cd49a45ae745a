use Rattle.std.proofs.Common.{ap, sym, subst, refl, ◌∙◌}
use Rattle.rb_bytes.specs.Memory.{Memory, empty_memory}
use Rattle.rb_core.specs.Meaning.{call_of}
use Rattle.rb_core.specs.Typing.{result_type}
use Rattle.rb_rel.specs.Answers.{answer_at, laid_call}
use Rattle.rb_compile.specs.Plans.{plan_of}
use Rattle.rb_run.specs.Calling.{IsCalled, IsCounted}
use Rattle.rb_run.proofs.Ends.{tallied}
use Rattle.rb_run.proofs.count.count_main.Goals as goal

pub returns-clause-answer : goal.returns-clause-answer
returns-clause-answer g c =
    let a = c.args.agreed.now in
    let p = a.covered.program in
    c.in_ok-answer.ensures c.args.args.now c.args.bounds.calls c.in_ok-memory.memory c.in_ok-ran.ensures.called
    ∙ ap (λ (m : Memory). answer_at (laid_call p a.layouts c.args.args.now c.args.bounds.calls m) (call_of p p.main c.args.bounds.calls c.args.args.now).end c.args.bounds.nodes) c.in_ok-memory.ensures.value

pub returns-clause-counted : goal.returns-clause-counted
returns-clause-counted g c =
    let k = c.in_ok-ran.ensures.counted in
    let counted = subst (λ (m : Memory). IsCounted c.args.agreed.now c.args.code.now c.args.args.now c.args.bounds.calls m k.0 c.in_ok-ran.ran.switches) c.in_ok-memory.ensures.value k.2 in
    (k.0, k.1, subst (λ n. IsCounted c.args.agreed.now c.args.code.now c.args.args.now c.args.bounds.calls (empty_memory c.args.bounds.region) k.0 n) (sym c.tally_of-tally.ensures.switches) counted)

pub returns-clause-tallied : goal.returns-clause-tallied
returns-clause-tallied g c =
    let a = c.args.agreed.now in
    let p = a.covered.program in
    let called = subst (λ (m : Memory). IsCalled a c.args.args.now c.args.bounds.calls m c.in_ok-ran.ran.end c.call_main.new.memory) c.in_ok-memory.ensures.value c.in_ok-ran.ensures.called in
    tallied (plan_of a) (result_type p.funs p.main) (empty_memory c.args.bounds.region) c.call_main.new.memory refl
    (laid_call p a.layouts c.args.args.now c.args.bounds.calls (empty_memory c.args.bounds.region)) (call_of p p.main c.args.bounds.calls c.args.args.now).end
    c.in_ok-ran.ran.end c.args.bounds.calls _ called.ends c.tally_of-tally.ensures.calls c.tally_of-tally.ensures.blocks c.tally_of-tally.ensures.bytes
