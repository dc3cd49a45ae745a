use Rattle.std.proofs.Common.{◌++◌, ◌∙◌, List, sym, ap}
use Rattle.std.specs.Prelude.{Option}
use Rattle.rb_core.specs.declared.pattern.Pat.{Pat}
use Rattle.rb_core.specs.Values.{subs}
use Rattle.rb_matrix.specs.Rows.{row_or_none_matches}
use Rattle.rb_matrix.specs.Specialize.{special_row}
use Rattle.rb_matrix.proofs.Laws.{special-row}
use Rattle.rb_matrix.proofs.specialization.specialize_row.Goals as goal

pub returns-clause-same : goal.returns-clause-same
returns-clause-same c = λ v vs is many.
    special-row v vs c.args.row.now c.args.head is
    ∙ ap (λ n. row_or_none_matches (special_row c.args.head n c.args.row.now) (subs v ++ vs)) many
    ∙ ap (λ (o : Option (List Pat)). row_or_none_matches o (subs v ++ vs)) (sym c.in_ok-special.ensures)
