use Rattle.std.proofs.Common.{ℕ, List, subst, Ok, IfOk, IfErr, length, drop}
use Rattle.std.proofs.lemmas.Result.{err_from_is_err_and}
use Rattle.rb_accept.specs.Reading.{IsUnread, file_limit}
use Rattle.rb_command.specs.Command.{layout}
use Rattle.rb_lines.specs.Answer.{printed}
use Rattle.rb_lines.specs.View.{IsRefusal}
use Rattle.rb_lines.proofs.Meeting.{unrun_met, refused_met}
use Rattle.ribbit_tool.specs.Answers.{Owes}
use Rattle.ribbit_tool.specs.Layout.{LaysOutFile}
use Rattle.ribbit_tool.proofs.Owing.{owes_read, owes_unread}
use Rattle.ribbit_tool.proofs.layout.layout_file.Goals as goal

pub returns-in_err-bytes-clause-owed : goal.returns-in_err-bytes-clause-owed
returns-in_err-bytes-clause-owed g c steps =
    let readings = drop (length (g.S.Source.readings c.args.src.now)) (g.S.Source.readings c.read_within.new.src) in
    let command = layout c.args.file.now in
    let p = err_from_is_err_and c.from_residual.result c.from_residual.ensures.1 in
    rw (p.1, p.2) (refused_met (λ due. IsUnread c.args.file.now file_limit readings due) (λ due. Owes (Ok command) readings due)
    (λ due h. owes_unread command c.args.file.now file_limit (λ bs d. LaysOutFile bs d) (λ rs d known. known) readings due h)
    steps _ c.in_err-bytes.ensures.refused)

pub returns-clause-owed : goal.returns-clause-owed
returns-clause-owed g c steps =
    let readings = drop (length (g.S.Source.readings c.args.src.now)) (g.S.Source.readings c.read_within.new.src) in
    let command = layout c.args.file.now in
    let bytes = c.in_ok-bytes.bytes in
    unrun_met (λ d. LaysOutFile bytes d) (λ due. Owes (Ok command) readings due)
    (λ due h. owes_read command c.args.file.now file_limit (λ bs d. LaysOutFile bs d) (λ rs d known. known) readings due
    bytes c.in_ok-bytes.ensures.given c.in_ok-bytes.ensures.within h)
    steps c.layout_bytes.result
    (subst (λ (bs : List ℕ). IfOk c.layout_bytes.result (λ text. LaysOutFile bs (printed text.items 0))) c.as_slice.ensures c.layout_bytes.ensures.text)
    (subst (λ (bs : List ℕ). IfErr c.layout_bytes.result (IsRefusal (LaysOutFile bs))) c.as_slice.ensures c.layout_bytes.ensures.refused)
