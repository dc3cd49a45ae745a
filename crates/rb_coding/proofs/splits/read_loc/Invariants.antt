use Rattle.std.proofs.Common.{◌≡◌, drop}
use Rattle.rb_rel.specs.Reading.{read_loc as the_number, read_from}
use Rattle.rb_coding.proofs.splits.read_loc.Given as goal

abbrev pub invariant-loop-step : goal.invariant-loop-step
invariant-loop-step g l =
    the_number l.words (g.M.ByteMemory.memory l.memory) l.loc
    ≡ read_from (g.M.ByteMemory.memory l.memory) l.word l.o l.l (drop l.step-index l.loc.steps)
