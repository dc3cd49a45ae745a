use Rattle.std.proofs.Common.{◌∙◌, sym, ap}
use Rattle.rb_matrix.specs.Rows.{any_row}
use Rattle.rb_matrix.specs.Specialize.{defaults}
use Rattle.rb_matrix.proofs.Laws.{default-any}
use Rattle.rb_matrix.proofs.specialization.default_rows.Goals as goal

pub returns-clause-same : goal.returns-clause-same
returns-clause-same c = λ v vs apart.
    default-any v vs c.args.matrix.now.rows apart
    ∙ ap (λ rows. any_row rows vs) (sym (c.in_ok-rows.ensures ∙ ap defaults c.as_slice-2.ensures))
