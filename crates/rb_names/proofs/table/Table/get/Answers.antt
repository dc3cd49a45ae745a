use Rattle.std.proofs.Common.{refl, ◌∙◌, ap}
use Rattle.rb_names.specs.Tables.{meaning}
use Rattle.rb_names.proofs.TableLemmas.{meaning-entries}
use Rattle.rb_names.proofs.table.Table.get.Goals as goal

pub returns : goal.returns
returns g c =
    c.copied.ensures ∙ c.get.ensures.value ∙ meaning-entries (λ k. k.now) c.args.name.now _ (λ k. refl) c.self.inside.by_name.entries
    ∙ ap (λ t. meaning t c.args.name.now) c.self.view_is
