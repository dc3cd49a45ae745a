use Rattle.std.proofs.Common.{◌≡◌, drop}
use Rattle.rb_peek.specs.Views.{along}
use Rattle.rb_peek.specs.inner.Standing.{IsArrival, come_to, position_shown}
use Rattle.rb_peek.proofs.arrival.along.Given as goal

abbrev pub invariant-loop-field : goal.invariant-loop-field
invariant-loop-field l =
    let go = along l.agreed.covered.program.types l.agreed.layouts l.image.blocks in record {
      come : go (position_shown l.from) l.path ≡ go (come_to l.here) (drop l.field-index l.path);
      read : IsArrival l.image.blocks l.here;
    }
