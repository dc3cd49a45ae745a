use Rattle.std.proofs.Common.{◌≡◌, ◌++◌, drop}
use Rattle.rb_fetch.specs.inner.Heads.{bare_paths, shown_heads}
use Rattle.rb_fetch.proofs.heads.bare_paths.Given as goal

abbrev pub invariant-loop-place : goal.invariant-loop-place
invariant-loop-place l =
    l.paths ++ bare_paths l.types (shown_heads (drop l.place-index l.places)) ≡ bare_paths l.types (shown_heads l.places)
