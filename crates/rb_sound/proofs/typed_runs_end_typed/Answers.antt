use Rattle.rb_sound.proofs.Programs.{typed_calls, typed_expressions}
use Rattle.rb_sound.proofs.typed_runs_end_typed.Goals as goal

pub returns-clause-calls : goal.returns-clause-calls
returns-clause-calls c = typed_calls

pub returns-clause-expressions : goal.returns-clause-expressions
returns-clause-expressions c = typed_expressions
