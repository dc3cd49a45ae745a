use Rattle.std.proofs.Common.{drop, ap}
use Rattle.rb_names.specs.Scopes.{names_in}
use Rattle.rb_names.proofs.FrameLemmas.{opened, counted}
use Rattle.rb_names.proofs.pattern.enter_pattern.Goals as goal

pub returns-clause-scope : goal.returns-clause-scope
returns-clause-scope c =
    opened (names_in c.args.tree.now) c.args.next.now c.new-frame.result c.bind_names.new.frame c.new-frame.ensures c.in_ok-bind_names.ensures.ok
    c.args.scope.now c.enter.new.self c.in_ok-enter.ensures

pub returns-clause-next : goal.returns-clause-next
returns-clause-next c = counted (names_in c.args.tree.now) c.args.next.now c.new-frame.result c.bind_names.new.frame c.new-frame.ensures c.in_ok-bind_names.ensures.ok

pub returns-clause-outer : goal.returns-clause-outer
returns-clause-outer c = ap (drop 1) c.in_ok-enter.ensures
