use Rattle.std.proofs.Common.{◌≡◌, drop, map}
use Rattle.std.specs.List.{list_all}
use Rattle.rb_match.specs.inner.Binding.{is_unbound}
use Rattle.rb_match.proofs.patterns.+seeking.Given as goal

abbrev pub invariant-bind_nothing-loop-pat : goal.invariant-bind_nothing-loop-pat
invariant-bind_nothing-loop-pat l = list_all (λ b. b) (map is_unbound (drop l.pat-index l.pats)) ≡ list_all (λ b. b) (map is_unbound l.pats)
