use Rattle.std.proofs.Common.{◌∙◌}
use Rattle.rb_rows_patterns.proofs.Examples.{inhabited-at}
use Rattle.rb_rows_patterns.proofs.matrix.never_reached.Goals as goal

pub unreached-requires-clause-inhabited : goal.unreached-requires-clause-inhabited
unreached-requires-clause-inhabited c = inhabited-at _ (c.as_slice.ensures.value ∙ c.in_ok-types.ensures)
