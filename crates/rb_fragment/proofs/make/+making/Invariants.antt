use Rattle.std.proofs.Common.{◌≤◌}
use Rattle.rb_target.specs.Growth.{Grows}
use Rattle.rb_fragment.specs.inner.Shares.{PutsFirst}
use Rattle.rb_fragment.proofs.make.+making.Given as goal

abbrev pub invariant-put_shares-loop-share : goal.invariant-put_shares-loop-share
invariant-put_shares-loop-share l = record {
  puts : PutsFirst l.shares l.share-index l.slot l.fn.body l.body;
  more : l.fn.body.slots ≤ l.body.slots;
  grows : Grows l.fn.body.code l.body.code;
}
