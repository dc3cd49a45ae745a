use Rattle.std.proofs.Common.{inl, inr}
use Rattle.rb_lines.proofs.delivery.try_write.Goals as goal

-- all of it was taken
pub returns-in-Ok : goal.returns-in-Ok
returns-in-Ok g c = inl (c.in-Ok.ensures.said, c.in-Ok.ensures.all)

pub returns-in-Err : goal.returns-in-Err
returns-in-Err g c = inr (record { rose = c.in-Err.ensures.cause; front = c.in-Err.ensures.front })
