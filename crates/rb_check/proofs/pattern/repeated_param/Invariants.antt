use Rattle.std.proofs.Common.{◌≡◌, take, drop}
use Rattle.rb_core.specs.Typing.{repeat_after, first_repeat}
use Rattle.rb_check.specs.inner.Below.{ParamsBelow}
use Rattle.rb_check.proofs.pattern.repeated_param.Given as goal

abbrev pub invariant-loop-i : goal.invariant-loop-i
invariant-loop-i l = record {
  gives : repeat_after (take l.i l.params) (drop l.i l.params) ≡ first_repeat l.params;
  below : ParamsBelow l.above (take l.i l.params);
}
