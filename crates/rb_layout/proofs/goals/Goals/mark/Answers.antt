use Rattle.std.proofs.Common.{ap, ◌∙◌}
use Rattle.std.specs.Prelude.{slice_get}
use Rattle.rb_layout.specs.inner.Settling.{with_mark}
use Rattle.rb_layout.proofs.GoalLemmas.{mark-entries}
use Rattle.rb_layout.proofs.goals.Goals.mark.Goals as goal

pub returns : goal.returns
returns c = mark-entries c.self.inside.known.entries c.args.i ∙ ap (λ es. with_mark es c.args.i (slice_get es c.args.i)) c.self.view_is
