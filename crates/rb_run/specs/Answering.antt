-- What a run answers: the value that `main` returns; that it has more nodes than may be shown, where a node is a
-- number or a construction; that the calls are spent; or the first block that did not fit in the memory.
use Rattle.rb_rel.specs.Answers.{Answer as Meant, Full as Unfit, Spent as Stopped, TooLarge as Oversized, Shown as Given}
use Rattle.rb_run.specs.declared.answer.Answer.{Answer}
use Rattle.rb_run.specs.declared.answer.Answer.TheVariants.{Full, Spent, TooLarge, Shown}

-- an answer of a run as one of the source's meaning
abbrev pub meant_by : Answer → Meant
meant_by (Full full) = Unfit full
meant_by Spent = Stopped
meant_by TooLarge = Oversized
meant_by (Shown value) = Given value
