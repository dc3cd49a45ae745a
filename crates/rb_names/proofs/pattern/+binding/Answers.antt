use Rattle.std.proofs.Common.{◌∙◌}
use Rattle.rb_names.specs.Scopes.{names_in}
use Rattle.rb_names.proofs.FrameLemmas.{binders-next, binders-whole}
use Rattle.rb_names.proofs.pattern.+binding.Goals as goal

pub bind_all_names-loop-tree-preserved : goal.bind_all_names-loop-tree-preserved
bind_all_names-loop-tree-preserved t c = binders-next names_in _ _ _ _ _ c.loop-tree-test.true c.tree-item.is c.in_ok-bind_names.ensures.ok ∙ c.loop-tree.invariant

pub bind_names-returns-in_ok-bind_all_names-in-Con-clause-ok : goal.bind_names-returns-in_ok-bind_all_names-in-Con-clause-ok
bind_names-returns-in_ok-bind_all_names-in-Con-clause-ok t c =
    binders-whole c.args.tree.now _ _ c.in-Con.trees _ _ _ c.in-Con.is c.as_slice-in-Con.ensures c.in_ok-bind_all_names-in-Con.ensures.ok
