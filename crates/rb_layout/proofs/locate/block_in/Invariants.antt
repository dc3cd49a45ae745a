use Rattle.std.proofs.Common.{◌≡◌, drop}
use Rattle.rb_layout.specs.Locations.{block_in}
use Rattle.rb_layout.proofs.locate.block_in.Given as goal

abbrev pub invariant-loop-part : goal.invariant-loop-part
invariant-loop-part l = block_in l.parts l.o l.l l.align ≡ block_in (drop l.part-index l.parts) l.o l.l l.align
