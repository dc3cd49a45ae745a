use Rattle.std.proofs.Common.{◌≡◌, Some, None, List, Option, sym, subst}
use Rattle.std.specs.Prelude.{slice_get}
use Rattle.rb_auto.specs.declared.room.Room.{Room}
use Rattle.rb_auto.specs.inner.Settling.{AreSettled, ExtendsSettled}
use Rattle.rb_auto.proofs.Settling.{settled-more}
use Rattle.rb_auto.proofs.rooms.settle_type.Goals as goal

pub returns-in-Some : goal.returns-in-Some
returns-in-Some c kinds are =
    let is : slice_get c.args.settled.now c.args.ty ≡ Some None = cc (c.in-Some-None.ensures.value, c.in-Some-None.field-0-is) in
    subst (λ (s : List (Option Room)). AreSettled c.args.program.now kinds s) (sym c.replace.ensures.new)
    (settled-more c.args.program.now kinds c.args.settled.now c.args.ty c.in-Some.bits is (λ rooms extends. c.in-Some.ensures rooms (subst (λ (s : List (Option Room)). ExtendsSettled s rooms) (sym c.as_slice.ensures) extends)) are)
