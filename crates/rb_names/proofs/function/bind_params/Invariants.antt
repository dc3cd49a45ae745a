use Rattle.std.proofs.Common.{◌≡◌, map, drop}
use Rattle.rb_names.specs.inner.Frames.{with_binders}
use Rattle.rb_names.proofs.function.bind_params.Given as goal

abbrev pub invariant-loop-tree : goal.invariant-loop-tree
invariant-loop-tree l = with_binders l.frame (map (λ p. p.var.text) (drop l.tree-index l.trees)) ≡ with_binders l.fn.frame (map (λ p. p.var.text) l.trees)
