-- What the end of a run comes to: the calls that it leaves, and the answer that shows the value which it returns. A
-- node is a number or a construction in a value.
use Rattle.std.specs.Prelude.{ℕ, nat_le, if◌then◌else◌}
use Rattle.rb_core.specs.declared.value.Value.{Value}
use Rattle.rb_core.specs.Values.{node_count}
use Rattle.rb_rel.specs.Answers.{Answer as Meant, TooLarge as Oversized, Shown as Given}
use Rattle.rb_target.specs.declared.outcome.End.{End}
use Rattle.rb_target.specs.declared.outcome.End.TheVariants.{Returned, Spent, Full, Trapped}

-- how many calls a run leaves that ends so; 0 where it does not return
abbrev pub left_at : End → ℕ
left_at (Returned words left) = left
left_at Spent = 0
left_at (Full full) = 0
left_at (Trapped trap) = 0

-- the answer that shows a value, where it has at most so many nodes; where it has more, that it is too large
abbrev pub shown_within : ℕ → Value → Meant
shown_within nodes v = if nat_le (node_count v) nodes then Given v else Oversized
