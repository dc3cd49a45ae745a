use Rattle.std.proofs.Common.{◌≡◌, None, Bool, true, sym, subst, ap, ◌∙◌}
use Rattle.std.specs.Prelude.{if◌then◌else◌}
use Rattle.rb_image_text.specs.Places.{AreInPlace}
use Rattle.rb_image.specs.Parts.{bits_at}
use Rattle.rb_image.specs.Ways.{leads_below, refusal_of}
use Rattle.rb_image.specs.Orders.{spot_part}
use Rattle.rb_image.proofs.ways.refused_at.Goals as goal

pub refusal_of-requires-clause-placed : goal.refusal_of-requires-clause-placed
refusal_of-requires-clause-placed c = subst AreInPlace (sym c.as_slice.ensures) c.requires.placed

pub returns-then-branch : goal.returns-then-branch
returns-then-branch c =
    let m = c.args.image.now.blocks in
    let leaf = c.args.leaf.now in
    let s = spot_part c.args.spot.now in
    let bits = bits_at m c.args.words.now.root.items c.args.words.now.addresses.items s in
    let leads : leads_below leaf c.args.path.now s.part.kind ≡ true = sym c.in_ok-leads_below.ensures ∙ c.if-branch.true in
    c.refusal_of.ensures ∙ ap (λ xs. refusal_of xs leaf c.bits-bits.result s.part.kind) c.as_slice.ensures
    ∙ ap (λ k. refusal_of m leaf k s.part.kind) (c.bits-bits.ensures m leaf c.requires.placed c.requires.numbers c.requires.part)
    ∙ sym (ap (λ (t : Bool). if t then refusal_of m leaf bits s.part.kind else None) leads)
