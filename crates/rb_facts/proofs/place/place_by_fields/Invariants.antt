use Rattle.std.proofs.Common.{take}
use Rattle.rb_facts.specs.Places.{FindsPlace}
use Rattle.rb_facts.proofs.place.place_by_fields.Given as goal

abbrev pub invariant-loop-i : goal.invariant-loop-i
invariant-loop-i l = FindsPlace l.agreed l.fn.ty l.words l.spots l.known (take l.i l.position) l.place
