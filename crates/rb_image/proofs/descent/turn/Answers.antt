use Rattle.std.proofs.Common.{sym, ◌∙◌}
use Rattle.rb_image.specs.Parts.{look}
use Rattle.rb_image.proofs.DescentLemmas.{turn_known}
use Rattle.rb_image.proofs.descent.turn.Goals as goal

pub returns-then-has : goal.returns-then-has
returns-then-has c =
    turn_known (look c.args.agreed.now.covered.program.types c.args.agreed.now.layouts c.args.memory.now) c.args.step c.in-Look.place c.args.known.now c.args.todo.now.items
    c.in-Look.is (sym c.has.ensures ∙ c.if-has.true)
