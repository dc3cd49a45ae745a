use Rattle.std.proofs.Common.{◌∙◌}
use Rattle.rb_rows_patterns.proofs.Examples.{inhabited-at}
use Rattle.rb_rows_patterns.proofs.matrix.found_text.Goals as goal

pub find-requires-clause-inhabited : goal.find-requires-clause-inhabited
find-requires-clause-inhabited c = inhabited-at _ (c.as_slice.ensures.value ∙ c.in_ok-types.ensures)
