use Rattle.std.proofs.Common.{sym}
use Rattle.rb_fetch.proofs.Rebuilding.{fetches_below, fetches_whole}
use Rattle.rb_fetch.proofs.rebuild.fetch_field_at.Goals as goal

pub returns-in_ok-slots-in-empty-clause-fetches : goal.returns-in_ok-slots-in-empty-clause-fetches
returns-in_ok-slots-in-empty-clause-fetches c =
    fetches_whole c.args.agreed.now c.args.ty c.args.leaf c.args.path.now c.args.words.now c.in_ok-slots-in-empty.slots c.args.body.now c.in-empty.len_below c.in_ok-slots-in-empty.ensures

pub returns-in_ok-slots-in-len1-up-clause-fetches : goal.returns-in_ok-slots-in-len1-up-clause-fetches
returns-in_ok-slots-in-len1-up-clause-fetches c =
    fetches_below c.args.agreed.now c.args.ty c.args.leaf c.in-Some.found.now c.in-Some-pattern_at.pat.now c.args.path.now c.args.words.now c.args.body.now c.fetch_part.new.body c.in_ok-slots-in-len1-up.slots c.in-len1-up.len_at_least
    (rw c.layouts.ensures.same at (sym c.in-Some.ensures)) (sym c.in-Some-pattern_at.ensures) (rw c.in_ok-path-in-len1-up.ensures at c.in_ok-slots-in-len1-up.ensures.fetches)
