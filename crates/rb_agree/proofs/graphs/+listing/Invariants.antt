use Rattle.std.proofs.Common.{◌≡◌, ◌++◌, drop}
use Rattle.std.specs.List.{flat_map}
use Rattle.rb_agree.specs.inner.Rows.{pattern_types}
use Rattle.rb_agree.proofs.graphs.+listing.Given as goal

abbrev pub invariant-add_all_types-loop-pat : goal.invariant-add_all_types-loop-pat
invariant-add_all_types-loop-pat l = l.row ++ flat_map pattern_types (drop l.pat-index l.pats) ≡ l.fn.row ++ flat_map pattern_types l.pats
