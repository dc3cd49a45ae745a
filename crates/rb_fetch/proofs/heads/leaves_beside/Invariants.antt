use Rattle.std.proofs.Common.{◌≡◌, drop}
use Rattle.rb_fetch.specs.inner.Heads.{leaves_beside, shown_heads}
use Rattle.rb_fetch.proofs.heads.leaves_beside.Given as goal

abbrev pub invariant-loop-place : goal.invariant-loop-place
invariant-loop-place l =
    leaves_beside l.layouts l.ty (shown_heads (drop l.place-index l.places)) l.kept ≡ leaves_beside l.layouts l.ty (shown_heads l.places) l.fn.leaves
