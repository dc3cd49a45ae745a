use Rattle.std.proofs.Common.{refl, ◌∙◌, ap, reverse}
use Rattle.rb_names.specs.Tables.{meaning}
use Rattle.rb_names.proofs.TableLemmas.{meaning-entries}
use Rattle.rb_names.proofs.FrameLemmas.{meaning-last}
use Rattle.rb_names.proofs.table.Table.last.Goals as goal

pub returns : goal.returns
returns g c =
    c.copied.ensures ∙ c.get.ensures.value ∙ meaning-entries (λ k. k.now) c.args.name.now _ (λ k. refl) c.self.inside.by_name.entries
    ∙ meaning-last (λ k. k.now) _ (λ k l. refl) c.self.inside.by_name.entries c.args.name.now c.len.ensures.unique
    ∙ ap (λ t. meaning (reverse t) c.args.name.now) c.self.view_is
