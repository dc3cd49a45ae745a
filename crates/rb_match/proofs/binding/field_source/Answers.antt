use Rattle.std.proofs.Common.{◌≡◌, true, arith}
use Rattle.rb_target.proofs.Growing.{Grows-trans}
use Rattle.rb_facts.proofs.Mending.{mends_in}
use Rattle.rb_match.proofs.FieldSources.{leaf_gives, spots_give}
use Rattle.rb_match.proofs.binding.field_source.Goals as goal

pub returns-in-Some-clause-gives : goal.returns-in-Some-clause-gives
returns-in-Some-clause-gives c =
    leaf_gives c.args.agreed.now c.args.ty c.args.con c.args.pat.now c.args.subs.now c.args.fields.now c.in-Some.leaf c.args.words c.args.body.now (mends_in c.args.agreed.now c.covered-agree.ensures.agree c.layouts-flat.ensures.flat) c.in-Some.ensures.0 c.in-Some.ensures.1

pub returns-clause-gives : goal.returns-clause-gives
returns-clause-gives c =
    let there : c.is_deep_at.result ≡ true = grind (arith, c.if-not-is_deep_at.false) in
    let deep = c.is_deep_at.ensures there in
    spots_give c.args.agreed.now c.args.ty c.args.con c.args.pat.now c.args.subs.now c.args.fields.now c.args.words.now c.in_ok-spots.spots c.in_ok-known.known c.args.body.now c.give_spots.new.body c.save_together.new.body deep.1 deep.0 c.in_ok-spots.ensures.gives
    (rw c.as_slice-2.ensures at c.in_ok-known.ensures.saves)

pub returns-clause-grows : goal.returns-clause-grows
returns-clause-grows c = Grows-trans _ _ _ c.in_ok-spots.ensures.grows c.in_ok-known.ensures.grows
