use Rattle.std.proofs.Common.{map}
use Rattle.rb_names.proofs.FrameLemmas.{opened, counted}
use Rattle.rb_names.proofs.function.enter_params.Goals as goal

pub returns-clause-scope : goal.returns-clause-scope
returns-clause-scope c =
    opened (map (λ p. p.var.text) c.args.trees.now) c.args.next.now c.new-frame.result c.bind_params.new.frame c.new-frame.ensures c.in_ok-bind_params.ensures.ok
    c.args.scope.now c.enter.new.self c.in_ok-enter.ensures

pub returns-clause-next : goal.returns-clause-next
returns-clause-next c = counted (map (λ p. p.var.text) c.args.trees.now) c.args.next.now c.new-frame.result c.bind_params.new.frame c.new-frame.ensures c.in_ok-bind_params.ensures.ok
