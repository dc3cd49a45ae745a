use Rattle.std.proofs.Common.{drop, ap}
use Rattle.rb_names.proofs.FrameLemmas.{one-inside}
use Rattle.rb_names.proofs.scope.Scope.enter_one.Goals as goal

pub returns-clause-scope : goal.returns-clause-scope
returns-clause-scope c = one-inside c.args.name.now c.args.var c.args.self.now c.enter.new.self c.in_ok-binder.binder c.in_ok-enter.ensures c.in_ok-binder.ensures

pub returns-clause-outer : goal.returns-clause-outer
returns-clause-outer c = ap (drop 1) c.in_ok-enter.ensures
