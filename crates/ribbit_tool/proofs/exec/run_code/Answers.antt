use Rattle.std.proofs.Common.{◌≡◌, subst, arith}
use Rattle.rb_command.specs.View.{limits_view}
use Rattle.rb_lines.specs.View.{due_of}
use Rattle.rb_lines.proofs.Meeting.{met}
use Rattle.rb_target.specs.Validity.{IsValid}
use Rattle.ribbit_tool.specs.Exec.{Executes, executed, exec_due}
use Rattle.ribbit_tool.proofs.ExecLaws.{fault_due}
use Rattle.ribbit_tool.proofs.exec.run_code.Goals as goal

pub returns-in-Ok : goal.returns-in-Ok
returns-in-Ok g c =
    let limits = limits_view c.args.limits in
    met (λ due. due ≡ exec_due c.in-Ok.code c.args.function.now limits c.args.words.now) (λ due. Executes c.args.function.now limits c.args.words.now c.args.bytes.now due)
    (λ due e. executed c.in-Ok.code (subst IsValid c.code.view_is c.code.invariant) c.in-Ok.ensures.text e)
    c.args.steps.now.taken c.run_named.new.steps.taken c.run_named.result c.run_named.ensures

pub returns-in_ok-refused-in-Err : goal.returns-in_ok-refused-in-Err
returns-in_ok-refused-in-Err g c =
    let known = c.in_ok-refused-in-Err.ensures in (
      0,
      omega arith,
      fault_due c.args.function.now (limits_view c.args.limits) c.args.words.now c.args.bytes.now (due_of c.in_ok-refused-in-Err.refused) c.in-Err.fault
          known.fault c.in-Err.ensures.refusal known.due,
    )
