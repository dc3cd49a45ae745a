use Rattle.std.proofs.Common.{sym, subst, ap, ◌∙◌}
use Rattle.rb_image_text.specs.Places.{AreInPlace}
use Rattle.rb_image.specs.Parts.{bits_at}
use Rattle.rb_image.specs.Orders.{spot_part}
use Rattle.rb_peek.specs.Paths.{is_there, part_fault}
use Rattle.rb_peek.specs.inner.Checking.{has_word}
use Rattle.rb_peek.proofs.CheckLemmas.{fault_skipped, fault_taken}
use Rattle.rb_peek.proofs.check.fault_at.Goals as goal

pub returns-then-not-has : goal.returns-then-not-has
returns-then-not-has c =
    let m = c.args.image.now.blocks in
    let leaf = c.args.leaf.now in
    let s = spot_part c.args.spot.now in
    let ats = c.args.words.now.addresses.items in
    let bits = bits_at m c.args.words.now.root.items ats s in
    let is = c.bits-bits.ensures m leaf c.requires.placed c.requires.numbers c.requires.part in
    let there = sym c.is_there.ensures ∙ c.if-not-is_there.false in
    let here = ap (λ k. has_word c.args.path.now k.base k.place) (sym is) ∙ sym c.has.ensures ∙ c.if-not-has.true in
    fault_skipped (is_there ats s.block) (has_word c.args.path.now bits.base bits.place) (part_fault m leaf bits s.part.kind) there here

pub part_fault-requires-clause-placed : goal.part_fault-requires-clause-placed
part_fault-requires-clause-placed c = subst AreInPlace (sym c.as_slice.ensures) c.requires.placed

pub returns : goal.returns
returns c =
    let m = c.args.image.now.blocks in
    let leaf = c.args.leaf.now in
    let s = spot_part c.args.spot.now in
    let ats = c.args.words.now.addresses.items in
    let bits = bits_at m c.args.words.now.root.items ats s in
    let is = c.bits-bits.ensures m leaf c.requires.placed c.requires.numbers c.requires.part in
    let there = sym c.is_there.ensures ∙ c.if-not-is_there.false in
    let here = ap (λ k. has_word c.args.path.now k.base k.place) (sym is) ∙ sym c.has.ensures ∙ c.if-not-has.false in
    c.part_fault.ensures ∙ ap (λ xs. part_fault xs leaf c.bits-bits.result s.part.kind) c.as_slice.ensures ∙ ap (λ k. part_fault m leaf k s.part.kind) is
    ∙ fault_taken (is_there ats s.block) (has_word c.args.path.now bits.base bits.place) (part_fault m leaf bits s.part.kind) there here
