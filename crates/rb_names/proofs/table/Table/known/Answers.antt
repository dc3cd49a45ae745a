use Rattle.std.proofs.Common.{ap, ◌∙◌, subst}
use Rattle.rb_names.specs.Answers.{AnswersNumbering}
use Rattle.rb_names.specs.Numbering.{name_found}
use Rattle.rb_names.specs.Tables.{meaning}
use Rattle.rb_names.proofs.table.Table.known.Goals as goal

pub returns : goal.returns
returns g c =
    subst (λ o. AnswersNumbering c.known_or_fault.result (name_found c.args.name.now o)) (c.get.ensures ∙ ap (meaning c.args.self.now) c.as_slice.ensures)
    c.known_or_fault.ensures
