use Rattle.std.proofs.lemmas.Result.{err_from_is_err_and}
use Rattle.rb_accept.specs.Accepting.{IsRefused, turned_down}
use Rattle.rb_lines.proofs.Meeting.{refusal_met}
use Rattle.ribbit_tool.specs.Check.{ChecksFile}
use Rattle.ribbit_tool.proofs.check.check_bytes.Goals as goal

pub returns-in_err-accepted-clause-refused : goal.returns-in_err-accepted-clause-refused
returns-in_err-accepted-clause-refused c =
    let p = err_from_is_err_and c.from_residual.result c.from_residual.ensures.1 in
    rw (p.1, p.2) (refusal_met (λ due. IsRefused c.args.bytes.now due) (λ due. ChecksFile c.args.bytes.now due) (λ due h. turned_down h) _ c.in_err-accepted.ensures.refused)
