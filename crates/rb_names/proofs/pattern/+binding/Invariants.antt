use Rattle.std.proofs.Common.{◌≡◌, drop}
use Rattle.std.specs.List.{flat_map}
use Rattle.rb_names.specs.Scopes.{names_in}
use Rattle.rb_names.specs.inner.Frames.{with_binders}
use Rattle.rb_names.proofs.pattern.+binding.Given as goal

abbrev pub invariant-bind_all_names-loop-tree : goal.invariant-bind_all_names-loop-tree
invariant-bind_all_names-loop-tree l = with_binders l.frame (flat_map names_in (drop l.tree-index l.trees)) ≡ with_binders l.fn.frame (flat_map names_in l.trees)
