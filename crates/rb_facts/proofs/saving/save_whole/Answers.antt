use Rattle.std.proofs.Common.{subst}
use Rattle.rb_target.proofs.Growing.{Grows-refl}
use Rattle.rb_facts.specs.Saving.{IsSpotAt, mend_at}
use Rattle.rb_facts.proofs.SavedParts.{learns-none, saves_spot}
use Rattle.rb_facts.proofs.saving.save_whole.Goals as goal

pub returns-then-not-is_needed-clause-saves : goal.returns-then-not-is_needed-clause-saves
returns-then-not-is_needed-clause-saves c is =
    let s = c.args.source.now in
    learns-none c.args.agreed.now (λ plan. mend_at plan.layouts s.ty s.leaf c.args.path.now) s.ty s.leaf s.words.now s.spots.now s.position.now c.args.known c.args.body.now

pub returns-in-None-clause-saves : goal.returns-in-None-clause-saves
returns-in-None-clause-saves c is =
    let s = c.args.source.now in
    learns-none c.args.agreed.now (λ plan. mend_at plan.layouts s.ty s.leaf c.args.path.now) s.ty s.leaf s.words.now s.spots.now s.position.now c.args.known c.args.body.now

pub returns-in_ok-push-in-Some-clause-saves : goal.returns-in_ok-push-in-Some-clause-saves
returns-in_ok-push-in-Some-clause-saves c is =
    let s = c.args.source.now in
    rw c.in_ok-push-in-Some.ensures.ok (saves_spot c.args.agreed.now s c.args.path.now c.in-Some.k c.index-spots-k.result c.args.at c.args.known c.args.body.now c.save_part.new.body
    (subst (λ below. IsSpotAt s.spots.now below c.args.at c.in-Some.k) is c.in-Some.ensures) c.index-spots-k.result c.index-spots-k.is c.in_ok-save_part-in-Some.ensures.saves)

pub returns-then-not-is_needed-clause-grows : goal.returns-then-not-is_needed-clause-grows
returns-then-not-is_needed-clause-grows c = Grows-refl c.args.body.now.code

pub returns-in-None-clause-grows : goal.returns-in-None-clause-grows
returns-in-None-clause-grows c = Grows-refl c.args.body.now.code

pub returns-in_ok-push-in-Some-clause-grows : goal.returns-in_ok-push-in-Some-clause-grows
returns-in_ok-push-in-Some-clause-grows c = c.in_ok-save_part-in-Some.ensures.grows
