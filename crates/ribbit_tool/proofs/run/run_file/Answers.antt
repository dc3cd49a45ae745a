use Rattle.std.proofs.Common.{ℕ, List, subst, Ok, length, drop}
use Rattle.std.proofs.lemmas.Result.{err_from_is_err_and}
use Rattle.rb_accept.specs.Reading.{IsUnread, file_limit}
use Rattle.rb_command.specs.Command.{run}
use Rattle.rb_command.specs.View.{limits_view}
use Rattle.rb_lines.specs.View.{Meets}
use Rattle.rb_lines.proofs.Meeting.{met, refused_met}
use Rattle.ribbit_tool.specs.Answers.{Owes}
use Rattle.ribbit_tool.specs.Run.{RunsFile}
use Rattle.ribbit_tool.proofs.Owing.{owes_read, owes_unread}
use Rattle.ribbit_tool.proofs.run.run_file.Goals as goal

pub returns-in_err-bytes-clause-owed : goal.returns-in_err-bytes-clause-owed
returns-in_err-bytes-clause-owed g c =
    let readings = drop (length (g.S.Source.readings c.args.src.now)) (g.S.Source.readings c.read_within.new.src) in
    let limits = limits_view c.args.limits in
    let command = run c.args.file.now limits c.args.values.now in
    let p = err_from_is_err_and c.from_residual.result c.from_residual.ensures.1 in
    rw (p.1, p.2) (refused_met (λ due. IsUnread c.args.file.now file_limit readings due) (λ due. Owes (Ok command) readings due)
    (λ due h. owes_unread command c.args.file.now file_limit (λ bs d. RunsFile limits c.args.values.now bs d) (λ rs d known. known) readings due h)
    c.args.steps.now.taken _ c.in_err-bytes.ensures.refused)

pub returns-clause-owed : goal.returns-clause-owed
returns-clause-owed g c =
    let readings = drop (length (g.S.Source.readings c.args.src.now)) (g.S.Source.readings c.read_within.new.src) in
    let limits = limits_view c.args.limits in
    let command = run c.args.file.now limits c.args.values.now in
    let bytes = c.in_ok-bytes.bytes in
    let Due-of : List ℕ → Type 0 = λ bs. Meets (λ d. RunsFile limits c.args.values.now bs d) c.args.steps.now.taken c.run_bytes.new.steps.taken c.run_bytes.result in
    met (λ d. RunsFile limits c.args.values.now bytes d) (λ due. Owes (Ok command) readings due)
    (λ due h. owes_read command c.args.file.now file_limit (λ bs d. RunsFile limits c.args.values.now bs d) (λ rs d known. known) readings due
    bytes c.in_ok-bytes.ensures.given c.in_ok-bytes.ensures.within h)
    c.args.steps.now.taken c.run_bytes.new.steps.taken c.run_bytes.result (subst Due-of c.as_slice.ensures c.run_bytes.ensures)
