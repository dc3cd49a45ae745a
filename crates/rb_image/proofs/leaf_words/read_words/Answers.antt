use Rattle.std.proofs.Common.{◌≡◌, length, map, refl, sym, ap, ◌∙◌, arith}
use Rattle.std.proofs.lemmas.Option.{slice_get_read}
use Rattle.rb_image.specs.LeafWords.{block_addresses, block_span, follow}
use Rattle.rb_image.specs.Orders.{order_of, spots_of}
use Rattle.rb_image.specs.Sites.{kept_of}
use Rattle.rb_image.specs.inner.Reaching.{unread_words}
use Rattle.rb_image.proofs.LeafWordLemmas.{all_followed, follow_more, spot_is_part, unread_none}
use Rattle.rb_image.proofs.leaf_words.read_words.Goals as goal

pub loop-spot-init : goal.loop-spot-init
loop-spot-init g c =
    let m = c.args.image.now.blocks in
    let leaf = c.args.leaf.now in
    let ws = map (kept_of c.args.image.now) c.args.sites.now in
    let ats = c.in_ok-words.words.addresses.items in
    let least = c.at_root.ensures.least in
    let most = c.at_root.ensures.most in
    let none : unread_words leaf.blocks ats ≡ block_span leaf = ap (unread_words leaf.blocks) c.in_ok-words.ensures.addresses ∙ unread_none leaf.blocks (length leaf.blocks) in
    record {
      root = c.in_ok-words.ensures.root;
      addresses = ap (λ xs. follow m leaf ws xs (order_of leaf)) (sym c.in_ok-words.ensures.addresses)
          ∙ ap (λ ss. follow m leaf ws ats ss) (sym (ap spots_of c.as_slice-spot-items.ensures.value ∙ c.in_ok-order.ensures));
      numbers = c.in_ok-words.ensures.numbers;
      least = least;
      most = omega (arith, most, none);
    }

pub follow-requires-clause-part : goal.follow-requires-clause-part
follow-requires-clause-part g c =
    let items = c.as_slice-spot-items.result.now in
    let i = c.loop-spot.spot-index in
    spot_is_part c.args.leaf.now items i _ (ap spots_of c.as_slice-spot-items.ensures.value ∙ c.in_ok-order.ensures)
    (slice_get_read items (length items) i _ refl c.loop-spot-test.true c.spot-item.is)

pub loop-spot-preserved : goal.loop-spot-preserved
loop-spot-preserved g c =
    let m = c.args.image.now.blocks in
    let leaf = c.args.leaf.now in
    let ws = map (kept_of c.args.image.now) c.args.sites.now in
    let items = c.as_slice-spot-items.result.now in
    let i = c.loop-spot.spot-index in
    let old = c.loop-spot.invariant in
    let new = c.follow.new.self.addresses.items in
    let least = old.least in
    let most = old.most in
    let step = c.follow.ensures.least in
    let once = c.follow.ensures.once in
    record {
      root = c.follow.ensures.root ∙ old.root;
      addresses = follow_more m leaf ws items i c.loop-spot.words.addresses.items (block_addresses m leaf ws) old.addresses _ (slice_get_read items (length items) i _ refl c.loop-spot-test.true c.spot-item.is)
          c.loop-spot.words.root.items old.root new c.follow.ensures.addresses;
      numbers = c.in_ok-follow.ensures.numbers;
      least = omega (arith, least, step);
      most = omega (arith, most, once);
    }

pub returns-clause-addresses : goal.returns-clause-addresses
returns-clause-addresses g c =
    let m = c.args.image.now.blocks in
    let leaf = c.args.leaf.now in
    let ws = map (kept_of c.args.image.now) c.args.sites.now in
    all_followed m leaf ws c.as_slice-spot-items.result.now c.loop-spot.spot-index c.loop-spot.words.addresses.items (block_addresses m leaf ws) c.loop-spot.invariant.addresses c.loop-spot-test.false

pub returns-clause-most : goal.returns-clause-most
returns-clause-most g c = let most = c.loop-spot.invariant.most in omega (arith, most)
