use Rattle.std.proofs.Common.{◌≡◌, ◌+◌, ◌++◌, ◌∷◌, [], suc, subst, arith}
use Rattle.std.proofs.lemmas.Result.{IfOk-weaker}
use Rattle.rb_target.proofs.Growing.{Grows-refl, Grows-trans}
use Rattle.rb_facts.specs.inner.Saving.{SavesAt, SavesBelow, SavesSome, mend_below}
use Rattle.rb_facts.specs.Saving.{mend_at, mends_at}
use Rattle.rb_facts.proofs.Mending.{below_at, mends_below}
use Rattle.rb_facts.proofs.SavedParts.{learns-less, learns-more, learns-none}
use Rattle.rb_facts.proofs.saving.+saving.Goals as goal

pub save_at-returns-then-opens_at-clause-saves : goal.save_at-returns-then-opens_at-clause-saves
save_at-returns-then-opens_at-clause-saves t c =
    let s = c.args.source.now in
    let path = c.args.path.now in
    let new = c.save_below.new.body in
    IfOk-weaker c.save_below.result (λ parts. SavesBelow c.args.agreed.now s path c.args.known parts c.args.body.now new) (λ parts. SavesAt c.args.agreed.now s path c.args.known parts c.args.body.now new)
    (λ parts saves. learns-less c.args.agreed.now (λ plan. mend_below plan.layouts s.ty s.leaf path) (λ plan. mend_at plan.layouts s.ty s.leaf path) s.ty s.leaf s.words.now s.spots.now s.position.now c.args.known
    parts c.args.body.now new (λ plan of. below_at plan.layouts s.ty s.leaf path) saves) c.save_below.ensures.saves

pub save_at-returns-then-opens_at-clause-grows : goal.save_at-returns-then-opens_at-clause-grows
save_at-returns-then-opens_at-clause-grows t c = c.save_below.ensures.grows

pub save_at-returns-clause-saves : goal.save_at-returns-clause-saves
save_at-returns-clause-saves t c =
    let s = c.args.source.now in
    let path = c.args.path.now in
    let new = c.save_whole.new.body in
    IfOk-weaker c.save_whole.result (λ more. c.as_slice-below.result.now ≡ s.position.now ++ path → SavesAt c.args.agreed.now s path c.args.known more c.args.body.now new) (λ more. SavesAt c.args.agreed.now s path c.args.known more c.args.body.now new)
    (λ more saves. saves (rw c.as_slice-below.ensures c.in_ok-below.ensures)) c.save_whole.ensures.saves

pub save_at-returns-clause-grows : goal.save_at-returns-clause-grows
save_at-returns-clause-grows t c = c.save_whole.ensures.grows

pub save_below-returns-in-Wild-clause-saves : goal.save_below-returns-in-Wild-clause-saves
save_below-returns-in-Wild-clause-saves t c =
    let s = c.args.source.now in
    learns-none c.args.agreed.now (λ plan. mend_below plan.layouts s.ty s.leaf c.args.path.now) s.ty s.leaf s.words.now s.spots.now s.position.now c.args.known c.args.body.now

pub save_below-returns-in-Wild-clause-grows : goal.save_below-returns-in-Wild-clause-grows
save_below-returns-in-Wild-clause-grows t c = Grows-refl c.args.body.now.code

pub save_below-loop-j-init : goal.save_below-loop-j-init
save_below-loop-j-init t c =
    let s = c.args.source.now in
    record {
      saves = learns-none c.args.agreed.now (λ plan. mends_at plan.layouts s.ty s.leaf c.args.path.now 0) s.ty s.leaf s.words.now s.spots.now s.position.now c.args.known c.args.body.now;
      grows = Grows-refl c.args.body.now.code;
    }

pub save_below-loop-j-preserved : goal.save_below-loop-j-preserved
save_below-loop-j-preserved t c =
    let inv = c.loop-j.invariant in
    let step = c.in_ok-known-in-Con.ensures in
    let s = c.args.source.now in
    let path = c.args.path.now in
    let j = c.loop-j.j in
    let up : suc j ≡ j + 1 = omega arith in
    record {
      saves = subst (λ i. SavesSome c.args.agreed.now s path i c.args.known c.in_ok-known-in-Con.known c.args.body.now c.save_at.new.body) up
          (learns-more c.args.agreed.now (λ plan. mends_at plan.layouts s.ty s.leaf path j) (λ plan. mend_at plan.layouts s.ty s.leaf (path ++ j ∷ [])) s.ty s.leaf s.words.now s.spots.now s.position.now c.args.known c.loop-j.known
          c.in_ok-known-in-Con.known c.args.body.now c.loop-j.body c.save_at.new.body inv.saves (rw (c.as_slice-below.ensures, c.in_ok-below-in-Con.ensures) at step.saves));
      grows = Grows-trans _ _ _ inv.grows step.grows;
    }

pub save_below-returns-after-loop-j-clause-saves : goal.save_below-returns-after-loop-j-clause-saves
save_below-returns-after-loop-j-clause-saves t c =
    let s = c.args.source.now in
    let path = c.args.path.now in
    let j = c.loop-j.j in
    learns-less c.args.agreed.now (λ plan. mends_at plan.layouts s.ty s.leaf path j) (λ plan. mend_below plan.layouts s.ty s.leaf path) s.ty s.leaf s.words.now s.spots.now s.position.now c.args.known
    c.loop-j.known c.args.body.now c.loop-j.body (λ plan of. mends_below plan.layouts s.ty s.leaf path j) c.loop-j.invariant.saves

pub save_below-returns-after-loop-j-clause-grows : goal.save_below-returns-after-loop-j-clause-grows
save_below-returns-after-loop-j-clause-grows t c = c.loop-j.invariant.grows
