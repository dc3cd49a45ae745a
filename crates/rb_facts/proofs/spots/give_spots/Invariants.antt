use Rattle.rb_target.specs.Growth.{Grows}
use Rattle.rb_facts.specs.Saving.{GivesSpots}
use Rattle.rb_facts.proofs.spots.give_spots.Given as goal

abbrev pub invariant-loop-part : goal.invariant-loop-part
invariant-loop-part l = record {
  gives : GivesSpots l.agreed l.fn.body l.body l.spots;
  grows : Grows l.fn.body.code l.body.code;
}
