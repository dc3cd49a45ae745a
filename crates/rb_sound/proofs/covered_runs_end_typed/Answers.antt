use Rattle.std.proofs.Common.{subst}
use Rattle.rb_sound.specs.Words.{HasWords}
use Rattle.rb_sound.proofs.covered_runs_end_typed.Goals as goal

pub returns-clause-calls : goal.returns-clause-calls
returns-clause-calls c =
    c.typed_runs_end_typed.ensures.calls c.args.covered.now.program c.program.ensures.typed c.program.ensures.covered.exhaustive
    (subst HasWords c.program.ensures.same c.see_numbers.ensures)

pub returns-clause-expressions : goal.returns-clause-expressions
returns-clause-expressions c =
    c.typed_runs_end_typed.ensures.expressions c.args.covered.now.program c.program.ensures.typed c.program.ensures.covered.exhaustive
    (subst HasWords c.program.ensures.same c.see_numbers.ensures)
