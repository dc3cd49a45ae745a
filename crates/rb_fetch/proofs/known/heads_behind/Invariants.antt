use Rattle.std.proofs.Common.{◌≡◌, ◌++◌, drop}
use Rattle.rb_fetch.specs.inner.Heads.{heads_behind, shown_heads}
use Rattle.rb_fetch.proofs.known.heads_behind.Given as goal

abbrev pub invariant-loop-place : goal.invariant-loop-place
invariant-loop-place l =
    shown_heads l.found ++ heads_behind l.path (shown_heads (drop l.place-index l.known)) ≡ heads_behind l.path (shown_heads l.known)
