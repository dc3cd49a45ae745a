use Rattle.std.proofs.Common.{◌≡◌, drop}
use Rattle.rb_core.specs.Meaning.{value_or, value_in}
use Rattle.rb_core.proofs.environment.value_of.Given as goal

abbrev pub invariant-loop-binding : goal.invariant-loop-binding
invariant-loop-binding l = value_or l.found l.var (drop l.binding-index l.values) ≡ value_in l.values l.var
