use Rattle.rb_names.specs.Programs.{program_of}
use Rattle.rb_syntax.specs.Tokens.{tokens}
use Rattle.rb_accept.specs.Accepting.{misnamed}
use Rattle.rb_accept.proofs.Faults.{name_fault}
use Rattle.rb_accept.proofs.Numbered.{is_written}
use Rattle.rb_accept.proofs.accepting.name.Goals as goal

pub returns-in-Ok-clause-well : goal.returns-in-Ok-clause-well
returns-in-Ok-clause-well c =
    let r = c.requires in
    c.in-Ok.ensures.well (tokens c.args.placed.now) (is_written c.args.bytes.now c.args.placed.now c.args.file.now r.few r.read)

pub returns-in_ok-refused-in-Err-clause-refused : goal.returns-in_ok-refused-in-Err-clause-refused
returns-in_ok-refused-in-Err-clause-refused c =
    let shown = c.in_ok-refused-in-Err.ensures in
    misnamed c.args.placed.now c.args.file.now c.requires.read c.in-Err.fault
    (name_fault (program_of c.args.file.now) c.in-Err.fault shown.other c.in-Err.ensures.answers) shown.due
