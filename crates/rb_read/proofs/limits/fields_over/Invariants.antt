use Rattle.std.proofs.Common.{◌≡◌, map, find, drop}
use Rattle.rb_read.specs.Limits.{is_over, field_count}
use Rattle.rb_read.proofs.limits.fields_over.Given as goal

-- no count so far is over its limit
abbrev pub invariant-loop-con : goal.invariant-loop-con
invariant-loop-con l = find is_over (map field_count (drop l.con-index l.cons)) ≡ find is_over (map field_count l.cons)
