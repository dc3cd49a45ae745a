use Rattle.std.proofs.Common.{◌≡◌, ◌+◌, ◌++◌, drop, map}
use Rattle.rb_fragment.specs.Functions.{param_locals}
use Rattle.rb_fragment.specs.Plan.{words_needed_by}
use Rattle.rb_compile.specs.Plans.{plan_of}
use Rattle.rb_compile.proofs.functions.param_slots.Given as goal

abbrev pub invariant-loop-param : goal.invariant-loop-param
invariant-loop-param l = record {
  locals : param_locals (plan_of l.agreed) 0 l.params ≡ l.locals ++ param_locals (plan_of l.agreed) l.count (drop l.param-index l.params);
  count : words_needed_by (plan_of l.agreed) (map (λ p. p.ty) l.params) ≡ l.count + words_needed_by (plan_of l.agreed) (map (λ p. p.ty) (drop l.param-index l.params));
}
