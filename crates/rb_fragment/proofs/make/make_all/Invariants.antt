use Rattle.std.proofs.Common.{◌≡◌, ◌≤◌, length, take}
use Rattle.rb_target.specs.Growth.{Grows}
use Rattle.rb_fragment.specs.WordReads.{AreNewOr, MakesAll}
use Rattle.rb_fragment.proofs.make.make_all.Given as goal

abbrev pub invariant-loop-read : goal.invariant-loop-read
invariant-loop-read l = record {
  makes : MakesAll (take l.read-index l.reads) l.fn.body l.body l.slots;
  origin : AreNewOr l.reads l.fn.body l.slots;
  count : length l.slots ≡ l.read-index;
  more : l.fn.body.slots ≤ l.body.slots;
  grows : Grows l.fn.body.code l.body.code;
}
