use Rattle.rb_show.specs.Locations.{step_text}
use Rattle.rb_core.proofs.TextLemmas.{appended}
use Rattle.rb_show.proofs.Texts.{flat_map_next}
use Rattle.rb_show.proofs.location.push_steps.Goals as goal

pub loop-step-preserved : goal.loop-step-preserved
loop-step-preserved c =
    appended _ _ _ _ _ _ c.loop-step.invariant c.in_ok-push_step.ensures (flat_map_next step_text c.args.steps.now c.loop-step.step-index _ c.loop-step-test.true)
