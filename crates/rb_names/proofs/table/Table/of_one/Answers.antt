use Rattle.std.proofs.Common.{ap, ◌∙◌}
use Rattle.rb_names.specs.Tables.{meaning}
use Rattle.rb_names.specs.inner.Defining.{with_definition}
use Rattle.rb_names.proofs.table.Table.of_one.Goals as goal

pub returns : goal.returns
returns g c =
    c.in_ok-define.ensures.table ∙ ap (λ t. with_definition t c.args.name.now c.args.stands_for (meaning t c.args.name.now)) c.new-table.ensures
