use Rattle.std.proofs.Common.{◌≡◌, true, arith}
use Rattle.std.proofs.lemmas.Result.{IfOk-weaker}
use Rattle.rb_fetch.specs.Fields.{FetchesField}
use Rattle.rb_facts.specs.Saving.{FetchesPart}
use Rattle.rb_facts.proofs.SavedParts.{fetches_part}
use Rattle.rb_facts.proofs.saving.fetch_part.Goals as goal

pub returns-clause-fetches : goal.returns-clause-fetches
returns-clause-fetches c =
    let there : c.is_position.result ≡ true = grind (arith, c.if-not-is_position.false) in
    let value = c.args.value.now in
    let old = c.args.body.now in
    let new = c.fetch_field.new.body in
    IfOk-weaker c.fetch_field.result (λ slots. FetchesField c.args.agreed.now value.ty value.leaf c.args.path.now value.words.now old new slots) (λ slots. FetchesPart c.args.agreed.now value.ty value.leaf c.args.path.now c.args.at value.words.now old new slots)
    (λ slots fetches. fetches_part c.args.agreed.now value.ty value.leaf c.args.path.now c.args.at value.words.now old new slots (c.is_position.ensures there) fetches) c.fetch_field.ensures.fetches

pub returns-clause-grows : goal.returns-clause-grows
returns-clause-grows c = c.fetch_field.ensures.grows
