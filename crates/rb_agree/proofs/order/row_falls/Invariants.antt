use Rattle.std.proofs.Common.{◌≡◌, ◌<◌, ℕ, Some}
use Rattle.std.specs.Prelude.{slice_get}
use Rattle.rb_agree.specs.inner.Order.{rank_of}
use Rattle.rb_agree.proofs.order.row_falls.Given as goal

abbrev pub invariant-loop-next : goal.invariant-loop-next
invariant-loop-next l = (k s : ℕ) → k < l.next-index → slice_get l.row k ≡ Some s → rank_of l.ranks s < rank_of l.ranks l.t
