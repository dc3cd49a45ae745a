use Rattle.std.proofs.Common.{drop}
use Rattle.rb_matrix.proofs.Keys.{Leads}
use Rattle.rb_matrix.proofs.index.key_at.Given as goal

abbrev pub invariant-loop-field : goal.invariant-loop-field
invariant-loop-field l = Leads l.pat l.path l.here (drop l.field-index l.path)
