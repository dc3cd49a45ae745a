use Rattle.std.proofs.Common.{refl, List, ℕ, subst}
use Rattle.rb_lines.specs.Answer.{printed, refusal}
use Rattle.rb_lines.specs.Delivery.{Prints, Refuses, change}
use Rattle.rb_lines.specs.Lines.{no_memory_line}
use Rattle.rb_lines.specs.Numbers.{status_number}
use Rattle.rb_lines.specs.View.{due_after}
use Rattle.rb_lines.specs.declared.status.Status.TheVariants.{NoMemory}
use Rattle.ribbit_tool.specs.Answers.{out_of_memory}
use Rattle.ribbit_tool.proofs.top.answer.Goals as goal

pub returns-in-Ok : goal.returns-in-Ok
returns-in-Ok g c =
    let a = c.in-Ok.ensures.owes in
    let out = change g.O.Sink.tells g.O.Sink.taken g.O.Sink.account g.O.Sink.faults c.args.out.now c.print.new.out in
    let err = change g.E.Sink.tells g.E.Sink.taken g.E.Sink.account g.E.Sink.faults c.args.err.now c.print.new.err in
    record {
      parsed = c.in-Ok.ensures.parsed;
      meant = c.in-Ok.ensures.meant;
      reads = c.in-Ok.ensures.reads;
      due = printed c.in-Ok.text.items a.0;
      owes = a.2;
      delivers = subst (λ (t : List ℕ). Prints t out err c.print.result) c.as_slice.ensures.value c.print.ensures;
      counted = λ ne. a.1;
    }

pub returns-in-Err-Refused : goal.returns-in-Err-Refused
returns-in-Err-Refused g c =
    let a = rw c.in-Err-Refused.field-0-is at c.in-Err-Refused.ensures.owes in
    let out = change g.O.Sink.tells g.O.Sink.taken g.O.Sink.account g.O.Sink.faults c.args.out.now c.refuse.new.out in
    let err = change g.E.Sink.tells g.E.Sink.taken g.E.Sink.account g.E.Sink.faults c.args.err.now c.refuse.new.err in
    let refused = c.in-Err-Refused.refused in
    record {
      parsed = c.in-Err-Refused.ensures.parsed;
      meant = c.in-Err-Refused.ensures.meant;
      reads = c.in-Err-Refused.ensures.reads;
      due = due_after a.0 refused;
      owes = a.2;
      delivers = subst (λ (t : List ℕ). Refuses (status_number refused.status) t out err c.refuse.result) c.as_slice-in-Err-Refused.ensures.value c.refuse.ensures;
      counted = λ ne. a.1;
    }

pub returns-in-Err-Memory : goal.returns-in-Err-Memory
returns-in-Err-Memory g c =
    record {
      parsed = c.in-Err-Memory.ensures.parsed;
      meant = c.in-Err-Memory.ensures.meant;
      reads = c.in-Err-Memory.ensures.reads;
      due = refusal NoMemory no_memory_line;
      owes = out_of_memory refl;
      delivers = c.refuse-in-Err-Memory.ensures;
      counted = λ ne. absurd (ne refl);
    }
