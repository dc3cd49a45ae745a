use Rattle.std.proofs.Common.{◌≡◌, drop}
use Rattle.rb_fetch.specs.inner.Heads.{shown_heads, stands_at}
use Rattle.rb_fetch.proofs.heads.stands_at.Given as goal

abbrev pub invariant-loop-place : goal.invariant-loop-place
invariant-loop-place l = stands_at l.path (shown_heads (drop l.place-index l.places)) ≡ stands_at l.path (shown_heads l.places)
