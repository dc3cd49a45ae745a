use Rattle.std.proofs.Common.{ℕ, List, length, drop, Ok}
use Rattle.std.proofs.lemmas.Result.{err_from_is_err_and}
use Rattle.rb_accept.specs.Opening.{Following, Opens}
use Rattle.rb_command.specs.Command.{peek}
use Rattle.rb_core.specs.Typing.{result_type}
use Rattle.rb_lines.proofs.Meeting.{unrun_met, refused_met}
use Rattle.ribbit_tool.specs.Answers.{Owes}
use Rattle.ribbit_tool.specs.Peek.{Peeks}
use Rattle.ribbit_tool.proofs.Owing.{owes_opened, owes_stopped}
use Rattle.ribbit_tool.proofs.peek.peek_file.Goals as goal

abbrev Then : List ℕ → Following
Then path p i due = Peeks p (result_type p.funs p.main) path i due

pub returns-in_err-opened-clause-owed : goal.returns-in_err-opened-clause-owed
returns-in_err-opened-clause-owed g c steps =
    let readings = drop (length (g.S.Source.readings c.args.src.now)) (g.S.Source.readings c.open_image.new.src) in
    let file = c.args.file.now in
    let image = c.args.image.now in
    let path = c.args.path.now in
    let p = err_from_is_err_and c.from_residual.result c.from_residual.ensures.1 in
    rw (p.1, p.2) (refused_met (λ due. Opens file image (λ q i e. ⊥) readings due) (λ due. Owes (Ok (peek file image path)) readings due)
    (λ due h. owes_stopped (peek file image path) file image (Then path) (λ rs d known. known) readings due h)
    steps _ c.in_err-opened.ensures.refused)

pub returns-clause-owed : goal.returns-clause-owed
returns-clause-owed g c steps =
    let readings = drop (length (g.S.Source.readings c.args.src.now)) (g.S.Source.readings c.open_image.new.src) in
    let file = c.args.file.now in
    let image = c.args.image.now in
    let path = c.args.path.now in
    let o = c.in_ok-opened.opened in
    unrun_met (λ d. Then path o.accepted.agreed.covered.program o.image d) (λ due. Owes (Ok (peek file image path)) readings due)
    (λ due h. owes_opened (peek file image path) file image (Then path) (λ rs d known. known) readings due o c.in_ok-opened.ensures.opened h)
    steps c.part_of_main.result c.part_of_main.ensures.text c.part_of_main.ensures.refused

pub part_of_main-requires-clause-placed : goal.part_of_main-requires-clause-placed
part_of_main-requires-clause-placed g c = c.in_ok-opened.ensures.opened.read.placed

pub part_of_main-requires-clause-sized : goal.part_of_main-requires-clause-sized
part_of_main-requires-clause-sized g c = c.in_ok-opened.ensures.opened.read.spelled.image.blocks
