use Rattle.std.proofs.Common.{length, drop, Ok}
use Rattle.std.proofs.lemmas.Result.{err_from_is_err_and}
use Rattle.rb_accept.specs.Opening.{Following, Opens}
use Rattle.rb_command.specs.Command.{value}
use Rattle.rb_core.specs.Typing.{result_type}
use Rattle.rb_lines.proofs.Meeting.{unrun_met, refused_met}
use Rattle.ribbit_tool.specs.Answers.{Owes}
use Rattle.ribbit_tool.specs.Value.{IsDueToImage}
use Rattle.ribbit_tool.proofs.Owing.{owes_opened, owes_stopped}
use Rattle.ribbit_tool.proofs.value.value_file.Goals as goal

abbrev Then : Following
Then p i due = IsDueToImage p (result_type p.funs p.main) i due

pub returns-in_err-opened-clause-owed : goal.returns-in_err-opened-clause-owed
returns-in_err-opened-clause-owed g c steps =
    let readings = drop (length (g.S.Source.readings c.args.src.now)) (g.S.Source.readings c.open_image.new.src) in
    let file = c.args.file.now in
    let image = c.args.image.now in
    let p = err_from_is_err_and c.from_residual.result c.from_residual.ensures.1 in
    rw (p.1, p.2) (refused_met (λ due. Opens file image (λ q i e. ⊥) readings due) (λ due. Owes (Ok (value file image)) readings due)
    (λ due h. owes_stopped (value file image) file image Then (λ rs d known. known) readings due h)
    steps _ c.in_err-opened.ensures.refused)

pub returns-clause-owed : goal.returns-clause-owed
returns-clause-owed g c steps =
    let readings = drop (length (g.S.Source.readings c.args.src.now)) (g.S.Source.readings c.open_image.new.src) in
    let file = c.args.file.now in
    let image = c.args.image.now in
    let o = c.in_ok-opened.opened in
    unrun_met (λ d. Then o.accepted.agreed.covered.program o.image d) (λ due. Owes (Ok (value file image)) readings due)
    (λ due h. owes_opened (value file image) file image Then (λ rs d known. known) readings due o c.in_ok-opened.ensures.opened h)
    steps c.value_of_main.result c.value_of_main.ensures.text c.value_of_main.ensures.refused

pub value_of_main-requires-clause-placed : goal.value_of_main-requires-clause-placed
value_of_main-requires-clause-placed g c = c.in_ok-opened.ensures.opened.read.placed

pub value_of_main-requires-clause-sized : goal.value_of_main-requires-clause-sized
value_of_main-requires-clause-sized g c = c.in_ok-opened.ensures.opened.read.spelled.image.blocks
