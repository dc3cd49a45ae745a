use Rattle.std.proofs.Common.{sym, ◌∙◌}
use Rattle.rb_core.specs.Typing.{pattern_params}
use Rattle.rb_check.proofs.AnswerLemmas.{Leaves-fails}
use Rattle.rb_check.proofs.PatternLemmas.{bound-next, bound-fails}
use Rattle.rb_check.proofs.pattern.+pattern.Goals as goal

pub bind_fields-returns-in_err-bind_pattern : goal.bind_fields-returns-in_err-bind_pattern
bind_fields-returns-in_err-bind_pattern t c = record {
  binds = Leaves-fails _ _ _ _ _ _ c.from_residual.ensures.1 c.in_err-bind_pattern.ensures.binds
      (λ f e. sym c.loop-i.invariant.1
      ∙ bound-fails (pattern_params c.args.types.now) _ _ _ _ _ _ f c.loop-i-test.true c.loop-i.invariant.0 c.index-subpatterns-i.is e);
}

pub bind_fields-loop-i-preserved : goal.bind_fields-loop-i-preserved
bind_fields-loop-i-preserved t c = (
  c.loop-i.invariant.0,
  sym (bound-next (pattern_params c.args.types.now) _ _ _ _ _ _ _ c.loop-i-test.true c.loop-i.invariant.0 c.index-subpatterns-i.is c.in_ok-bind_pattern.ensures.binds)
      ∙ c.loop-i.invariant.1,
)
