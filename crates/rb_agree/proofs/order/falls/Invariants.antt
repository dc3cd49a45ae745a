use Rattle.std.proofs.Common.{◌<◌, ℕ}
use Rattle.rb_layout.specs.Graphs.{Leads}
use Rattle.rb_agree.specs.inner.Order.{rank_of}
use Rattle.rb_agree.proofs.order.falls.Given as goal

abbrev pub invariant-loop-t : goal.invariant-loop-t
invariant-loop-t l = (t s : ℕ) → t < l.t → Leads l.graph t s → rank_of l.ranks s < rank_of l.ranks t
