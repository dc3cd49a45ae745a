use Rattle.std.proofs.Common.{◌≡◌, ◌∙◌, [], refl, arith, le_trans}
use Rattle.std.proofs.lemmas.Grind.{common_steps}
use Rattle.rb_core.proofs.CopyingLemmas.{turned, closed, rest-from}
use Rattle.rb_core.proofs.copying.leave.Goals as goal

pub returns-in-len1-up : goal.returns-in-len1-up
returns-in-len1-up c =
    let step = turned _ _ _ c.in-Some.frame _ c.loop-frame.value c.next-item.result c.in-Some.ensures.items c.in_ok-push-2.ensures.items refl c.in_ok-push.ensures.ok
    c.in-len1-up.len_at_least c.next-item.is (rest-from c.in-Some.frame.rest.now) in
    (step.0 ∙ c.loop-frame.invariant.whole, le_trans step.1 c.loop-frame.invariant.fewer)

pub loop-frame-preserved : goal.loop-frame-preserved
loop-frame-preserved c =
    let none : c.in-Some.frame.rest.now ≡ [] = (let below = c.in_default-rest.len_below in grind (arith, common_steps)) in
    let step = closed _ _ c.in-Some.frame c.loop-frame.value _ c.in-Some.ensures.items c.in_ok-push.ensures.ok none in
    record { whole = step.0 ∙ c.loop-frame.invariant.whole; fewer = le_trans step.1 c.loop-frame.invariant.fewer }
