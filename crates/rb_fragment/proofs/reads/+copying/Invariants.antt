use Rattle.std.proofs.Common.{◌≡◌, take}
use Rattle.rb_fragment.proofs.reads.+copying.Given as goal

abbrev pub invariant-copy_shares-loop-share : goal.invariant-copy_shares-loop-share
invariant-copy_shares-loop-share l = l.copies ≡ take l.share-index l.shares
