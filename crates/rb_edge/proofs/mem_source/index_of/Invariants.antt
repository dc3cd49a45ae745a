use Rattle.std.proofs.Common.{◌≡◌, drop}
use Rattle.rb_edge.specs.MemSource.{file_bytes}
use Rattle.rb_edge.proofs.mem_source.index_of.Given as goal

-- no file before is of the name
abbrev pub invariant-loop-i : goal.invariant-loop-i
invariant-loop-i l = file_bytes (drop l.i l.files) l.name ≡ file_bytes l.files l.name
