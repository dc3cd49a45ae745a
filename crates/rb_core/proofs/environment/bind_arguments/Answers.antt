use Rattle.std.proofs.Common.{sym, ◌∙◌}
use Rattle.std.proofs.lemmas.List.{append-nil}
use Rattle.rb_core.proofs.BindingLemmas.{arguments-past}
use Rattle.rb_core.proofs.environment.bind_arguments.Goals as goal

pub returns-then-i-args : goal.returns-then-i-args
returns-then-i-args c =
    let past = arguments-past c.args.params.now c.args.args.now c.loop-i.i c.if-i-args.true in
    sym (append-nil c.loop-i.values) ∙ (rw past at c.loop-i.invariant)
