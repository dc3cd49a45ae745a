use Rattle.std.proofs.Common.{◌∙◌, List, sym, ap}
use Rattle.std.specs.Prelude.{Option}
use Rattle.rb_core.specs.declared.pattern.Pat.{Pat}
use Rattle.rb_matrix.specs.Rows.{row_or_none_matches}
use Rattle.rb_matrix.proofs.Laws.{default-row}
use Rattle.rb_matrix.proofs.specialization.default_of_row.Goals as goal

pub returns-clause-same : goal.returns-clause-same
returns-clause-same c = λ v vs apart.
    default-row v vs c.args.row.now apart ∙ ap (λ (o : Option (List Pat)). row_or_none_matches o vs) (sym c.in_ok-rest.ensures)
