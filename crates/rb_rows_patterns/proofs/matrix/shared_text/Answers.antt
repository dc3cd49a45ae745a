use Rattle.std.proofs.Common.{◌∙◌}
use Rattle.rb_rows_patterns.proofs.Examples.{inhabited-at}
use Rattle.rb_rows_patterns.proofs.matrix.shared_text.Goals as goal

pub common-requires-clause-inhabited : goal.common-requires-clause-inhabited
common-requires-clause-inhabited c = inhabited-at _ (c.as_slice.ensures.value ∙ c.in_ok-types.ensures)
