use Rattle.std.proofs.Common.{[]}
use Rattle.std.proofs.lemmas.Result.{IfOk-weaker}
use Rattle.rb_core.specs.declared.types.Ty.TheVariants.{Named}
use Rattle.rb_facts.specs.Looks.{rebuilding_bound}
use Rattle.rb_facts.specs.inner.Saving.{SavesBelow, mend_below}
use Rattle.rb_facts.specs.Saving.{SavesFields}
use Rattle.rb_facts.proofs.Mending.{mends_in, mend_within}
use Rattle.rb_facts.proofs.SavedParts.{learns-less}
use Rattle.rb_facts.proofs.saving.save_fields.Goals as goal

pub returns-clause-saves : goal.returns-clause-saves
returns-clause-saves c =
    let mends = mends_in c.args.agreed.now c.covered.ensures.agree c.layouts-flat.ensures.flat in
    let s = c.args.source.now in
    let old = c.args.body.now in
    let new = c.save_below.new.body in
    IfOk-weaker c.save_below.result (λ more. SavesBelow c.args.agreed.now s [] c.args.known more old new) (λ more. SavesFields c.args.agreed.now s.ty s.leaf s.words.now s.spots.now s.position.now c.args.known more old new)
    (λ more saves. learns-less c.args.agreed.now (λ plan. mend_below plan.layouts s.ty s.leaf []) (λ plan. rebuilding_bound plan.layouts (Named s.ty)) s.ty s.leaf s.words.now s.spots.now s.position.now c.args.known more old new
    (λ plan of. mend_within plan.layouts s.ty (mends plan of s.ty) s.leaf) saves) c.save_below.ensures.saves

pub returns-clause-grows : goal.returns-clause-grows
returns-clause-grows c = c.save_below.ensures.grows
