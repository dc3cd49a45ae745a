use Rattle.std.proofs.Common.{◌≡◌, take, drop}
use Rattle.rb_matrix.proofs.witness.front_of.Given as goal

abbrev pub invariant-loop-i : goal.invariant-loop-i
invariant-loop-i l = record { front : l.front ≡ take l._i l.initial.row.items; rest : l.row.items ≡ drop l._i l.initial.row.items }
