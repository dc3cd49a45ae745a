use Rattle.std.proofs.Common.{◌+◌, ◌*◌, map}
use Rattle.rb_match.specs.inner.Binding.{weight, weights}
use Rattle.rb_match.proofs.binding.+binding.Given as goal

abbrev pub decreases-bind_at : goal.decreases-bind_at
decreases-bind_at l = 2 * weight l.pat.now

abbrev pub decreases-bind_field : goal.decreases-bind_field
decreases-bind_field l = 2 * weight l.sub.now + 1

abbrev pub decreases-bind_fields : goal.decreases-bind_fields
decreases-bind_fields l = 2 * weights (map weight l.subs.now) + 2
