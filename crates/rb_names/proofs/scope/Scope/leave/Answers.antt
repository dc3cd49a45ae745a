use Rattle.rb_names.proofs.ScopeLemmas.{left-view}
use Rattle.rb_names.proofs.scope.Scope.leave.Goals as goal

pub returns : goal.returns
returns c = left-view c.self.inside.frames _ _ _ c.pop.ensures c.self.view_is
