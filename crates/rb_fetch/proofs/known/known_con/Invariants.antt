use Rattle.std.proofs.Common.{◌≡◌, drop}
use Rattle.rb_fetch.specs.inner.Heads.{known_con, shown_heads}
use Rattle.rb_fetch.proofs.known.known_con.Given as goal

abbrev pub invariant-loop-place : goal.invariant-loop-place
invariant-loop-place l = known_con l.path (shown_heads (drop l.place-index l.known)) ≡ known_con l.path (shown_heads l.known)
