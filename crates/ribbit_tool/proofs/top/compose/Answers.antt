use Rattle.std.proofs.Common.{[], refl, arith, Ok, Err}
use Rattle.std.proofs.lemmas.Result.{err_from_is_err_and}
use Rattle.rb_accept.specs.Reading.{source_of}
use Rattle.rb_accept.proofs.ReadLaws.{none_in_turn}
use Rattle.rb_command.specs.View.{command_view}
use Rattle.rb_command.proofs.OneCommand.{meaning}
use Rattle.ribbit_tool.specs.Answers.{answered, files_of}
use Rattle.ribbit_tool.proofs.top.compose.Goals as goal

pub returns-in-Ok : goal.returns-in-Ok
returns-in-Ok g c = record {
  parsed = Ok (command_view c.in-Ok.command);
  meant = c.in-Ok.ensures;
  reads = c.obey.ensures.read;
  owes = c.obey.ensures.owed;
}

pub returns-in_ok-refused-in-Err-Usage : goal.returns-in_ok-refused-in-Err-Usage
returns-in_ok-refused-in-Err-Usage g c =
    let source = source_of g.S.Source.tells g.S.Source.held g.S.Source.readings g.S.Source.faults c.args.src.now c.args.src.now in
    record {
      parsed = Err c.in-Err-Usage.word;
      meant = rw c.in-Err-Usage.field-0-is at c.in-Err-Usage.ensures;
      reads = none_in_turn source [] refl;
      owes = (0, omega arith, answered c.in_ok-refused-in-Err-Usage.ensures);
    }

pub returns-in_err-refused-in-Err-Usage : goal.returns-in_err-refused-in-Err-Usage
returns-in_err-refused-in-Err-Usage g c =
    let source = source_of g.S.Source.tells g.S.Source.held g.S.Source.readings g.S.Source.faults c.args.src.now c.args.src.now in
    let p = err_from_is_err_and c.from_residual.result c.from_residual.ensures.1 in
    record {
      parsed = Err c.in-Err-Usage.word;
      meant = rw c.in-Err-Usage.field-0-is at c.in-Err-Usage.ensures;
      reads = none_in_turn source [] refl;
      owes = rw (p.1, p.2) tt;
    }

pub returns-in-Err-Memory : goal.returns-in-Err-Memory
returns-in-Err-Memory g c =
    let source = source_of g.S.Source.tells g.S.Source.held g.S.Source.readings g.S.Source.faults c.args.src.now c.args.src.now in
    let some = meaning c.args.words.now in
    record {
      parsed = some.0;
      meant = some.1;
      reads = none_in_turn source (files_of some.0) refl;
      owes = tt;
    }
