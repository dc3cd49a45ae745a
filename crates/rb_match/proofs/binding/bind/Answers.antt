use Rattle.std.proofs.Common.{sym, ◌∙◌}
use Rattle.rb_match.proofs.Bindings.{unbound_binds_at}
use Rattle.rb_match.proofs.binding.bind.Goals as goal

pub returns-then-binds_nothing-clause-binds : goal.returns-then-binds_nothing-clause-binds
returns-then-binds_nothing-clause-binds c =
    rw c.new.ensures (unbound_binds_at c.args.agreed.now c.args.ty c.args.pat.now c.args.words.now c.args.body.now (sym c.binds_nothing.ensures ∙ c.if-binds_nothing.true))
