use Rattle.std.proofs.Common.{◌≡◌, ◌<◌, ℕ, Some, true}
use Rattle.std.specs.Prelude.{slice_get}
use Rattle.rb_fetch.specs.declared.heads.Place.{Place}
use Rattle.rb_fetch.specs.inner.Heads.{is_among}
use Rattle.rb_fetch.proofs.heads.next_place.Given as goal

abbrev pub invariant-loop-place : goal.invariant-loop-place
invariant-loop-place l = (k : ℕ) (p : Place) → k < l.place-index → slice_get l.places k ≡ Some p → is_among l.looked p.path ≡ true
