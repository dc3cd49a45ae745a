use Rattle.std.proofs.Common.{sym, subst}
use Rattle.rb_fetch.specs.Pruning.{Prunes}
use Rattle.rb_fetch.proofs.Pruning.{pruned_prunes}
use Rattle.rb_fetch.proofs.prune.pruned_tree.Goals as goal

pub returns-clause-prunes : goal.returns-clause-prunes
returns-clause-prunes c = subst (Prunes c.args.groups.now c.args.tree.now) (sym c.in_ok-left.ensures) (pruned_prunes c.args.groups.now c.args.tree.now)
