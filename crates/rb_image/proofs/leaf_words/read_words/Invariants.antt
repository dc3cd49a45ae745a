use Rattle.std.proofs.Common.{◌≡◌, ◌+◌, ◌≤◌, drop, length, map}
use Rattle.rb_image.specs.LeafWords.{HasNumbers, block_span, follow, block_addresses}
use Rattle.rb_image.specs.Sites.{kept_of}
use Rattle.rb_image.specs.inner.Reaching.{unread_words}
use Rattle.rb_image.specs.Orders.{spots_of}
use Rattle.rb_image.proofs.leaf_words.read_words.Given as goal

abbrev pub invariant-loop-spot : goal.invariant-loop-spot
invariant-loop-spot g l = let ws = map (kept_of l.image) l.sites in record {
  root : l.words.root.items ≡ ws;
  addresses : block_addresses l.image.blocks l.leaf ws ≡ follow l.image.blocks l.leaf ws l.words.addresses.items (spots_of (drop l.spot-index l.spot-items));
  numbers : HasNumbers l.image.blocks l.leaf l.words;
  least : l.fn.steps.taken ≤ l.steps.taken;
  most : l.steps.taken + unread_words l.leaf.blocks l.words.addresses.items ≤ l.fn.steps.taken + (length l.sites + block_span l.leaf);
}
