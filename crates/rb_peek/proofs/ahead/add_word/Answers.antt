use Rattle.std.proofs.Common.{[], ◌∷◌, ◌++◌, Bool, sym, ap, ◌∙◌}
use Rattle.std.specs.Prelude.{if◌then◌else◌}
use Rattle.rb_image.specs.Parts.{bits_at}
use Rattle.rb_image.specs.Orders.{spot_part}
use Rattle.rb_peek.proofs.ahead.add_word.Goals as goal

pub returns : goal.returns
returns c =
    let m = c.args.image.now.blocks in
    let leaf = c.args.leaf.now in
    let old = c.args.found.now.items in
    let bits = bits_at m c.args.words.now.root.items c.args.words.now.addresses.items (spot_part c.args.spot.now) in
    let is = c.bits.ensures m leaf c.requires.placed c.requires.numbers c.requires.part in
    let leads = sym c.in_ok-leads_there.ensures ∙ c.if-not-branch.false in
    c.in_ok-push.ensures.items ∙ ap (λ k. old ++ k ∷ []) is ∙ sym (ap (λ (t : Bool). old ++ (if t then bits ∷ [] else [])) leads)
