use Rattle.std.proofs.Common.{◌≡◌, drop}
use Rattle.rb_fetch.specs.inner.Heads.{can_be, shown_heads}
use Rattle.rb_fetch.proofs.heads.can_be.Given as goal

abbrev pub invariant-loop-place : goal.invariant-loop-place
invariant-loop-place l = can_be l.path l.con (shown_heads (drop l.place-index l.places)) ≡ can_be l.path l.con (shown_heads l.places)
