use Rattle.std.proofs.Common.{◌≡◌, true, false, is_some, refl, sym, ap, ◌∙◌}
use Rattle.indexmap.proofs.CallerLemmas.{insert_entry-new}
use Rattle.rb_names.specs.Tables.{meaning}
use Rattle.rb_names.proofs.TableLemmas.{meaning-entries, defined-before, defined-new, none-here, entries-new}
use Rattle.rb_names.proofs.table.Table.define.Goals as goal

pub returns-then-contains_key-clause-new : goal.returns-then-contains_key-clause-new
returns-then-contains_key-clause-new g c =
    let seen = meaning-entries (λ k. k.now) c.args.name.now _ (λ k. refl) c.self.inside.by_name.entries ∙ ap (λ t. meaning t c.args.name.now) c.self.view_is in
    let there : is_some (meaning c.args.self.now c.args.name.now) ≡ true = sym (ap is_some seen) ∙ sym c.contains_key.ensures ∙ c.if-contains_key.true in
    rw there refl

pub returns-then-contains_key-clause-table : goal.returns-then-contains_key-clause-table
returns-then-contains_key-clause-table g c =
    let seen = meaning-entries (λ k. k.now) c.args.name.now _ (λ k. refl) c.self.inside.by_name.entries ∙ ap (λ t. meaning t c.args.name.now) c.self.view_is in
    let there : is_some (meaning c.args.self.now c.args.name.now) ≡ true = sym (ap is_some seen) ∙ sym c.contains_key.ensures ∙ c.if-contains_key.true in
    defined-before c.args.self.now c.args.name.now c.args.stands_for _ there

pub returns-clause-new : goal.returns-clause-new
returns-clause-new g c =
    let seen = meaning-entries (λ k. k.now) c.args.name.now _ (λ k. refl) c.self.inside.by_name.entries ∙ ap (λ t. meaning t c.args.name.now) c.self.view_is in
    let absent : is_some (meaning c.args.self.now c.args.name.now) ≡ false = sym (ap is_some seen) ∙ sym c.contains_key.ensures ∙ c.if-contains_key.false in
    rw absent refl

pub returns-clause-table : goal.returns-clause-table
returns-clause-table g c =
    let seen = meaning-entries (λ k. k.now) c.args.name.now _ (λ k. refl) c.self.inside.by_name.entries ∙ ap (λ t. meaning t c.args.name.now) c.self.view_is in
    let absent : is_some (meaning c.args.self.now c.args.name.now) ≡ false = sym (ap is_some seen) ∙ sym c.contains_key.ensures ∙ c.if-contains_key.false in
    let new = c.in_ok-insert.ensures.entries ∙ insert_entry-new _ c.self.inside.by_name c.args.name c.args.stands_for (none-here _ (sym c.contains_key.ensures ∙ c.if-contains_key.false)) in
    entries-new (λ k. k.now) _ _ c.args.name c.args.stands_for _ new c.self.view_is ∙ sym (defined-new c.args.self.now c.args.name.now c.args.stands_for _ absent)
