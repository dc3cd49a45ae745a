use Rattle.std.proofs.Common.{◌∙◌}
use Rattle.rb_rows_patterns.proofs.Examples.{inhabited-at}
use Rattle.rb_rows_patterns.proofs.matrix.missing_text.Goals as goal

pub exhaust-requires-clause-inhabited : goal.exhaust-requires-clause-inhabited
exhaust-requires-clause-inhabited c = inhabited-at _ (c.as_slice.ensures.value ∙ c.in_ok-types.ensures)
