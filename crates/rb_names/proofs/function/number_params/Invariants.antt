use Rattle.std.proofs.Common.{◌≡◌, map, drop}
use Rattle.rb_names.specs.Numbering.{all_of, numbered_param}
use Rattle.rb_names.specs.inner.Joining.{parts_before}
use Rattle.rb_names.specs.inner.Frames.{scope_of}
use Rattle.rb_names.proofs.function.number_params.Given as goal

abbrev pub invariant-loop-tree : goal.invariant-loop-tree
invariant-loop-tree l =
    parts_before l.params (all_of (map (numbered_param l.tables (scope_of l.scope)) (drop l.tree-index l.trees))) ≡ all_of (map (numbered_param l.tables (scope_of l.scope)) l.trees)
