use Rattle.std.proofs.Common.{◌≡◌, map, drop}
use Rattle.rb_names.specs.Numbering.{all_of, numbered_pattern}
use Rattle.rb_names.specs.inner.Joining.{parts_before}
use Rattle.rb_names.specs.inner.Frames.{scope_of}
use Rattle.rb_names.proofs.pattern.+numbering.Given as goal

abbrev pub invariant-number_patterns-loop-tree : goal.invariant-number_patterns-loop-tree
invariant-number_patterns-loop-tree l =
    parts_before l.pats (all_of (map (numbered_pattern l.tables (scope_of l.scope)) (drop l.tree-index l.trees))) ≡ all_of (map (numbered_pattern l.tables (scope_of l.scope)) l.trees)
