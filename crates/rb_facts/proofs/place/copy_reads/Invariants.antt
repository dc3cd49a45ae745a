use Rattle.std.proofs.Common.{◌≡◌, ◌++◌, drop}
use Rattle.rb_facts.proofs.place.copy_reads.Given as goal

abbrev pub invariant-loop-read : goal.invariant-loop-read
invariant-loop-read l = l.copies ++ drop l.read-index l.reads ≡ l.reads
