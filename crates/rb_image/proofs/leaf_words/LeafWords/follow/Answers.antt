use Rattle.std.proofs.Common.{Ok, Err, sym, subst, ap, ◌∙◌}
use Rattle.std.specs.Prelude.{slice_index}
use Rattle.rb_image_text.specs.Places.{AreInPlace}
use Rattle.rb_image.specs.Parts.{bits_at, pointer_lead}
use Rattle.rb_image.specs.Orders.{spot_part}
use Rattle.rb_image.proofs.LeafWordLemmas.{follow_found, found_above}
use Rattle.rb_image.proofs.leaf_words.LeafWords.follow.Goals as goal

pub follow-requires-clause-placed : goal.follow-requires-clause-placed
follow-requires-clause-placed g c = subst AreInPlace (sym c.as_slice-in-Pointer.ensures) c.requires.placed

pub enter-requires-clause-found : goal.enter-requires-clause-found
enter-requires-clause-found g c =
    let m = c.args.image.now.blocks in
    let leaf = c.args.leaf.now in
    found_above m leaf c.requires.placed c.bits.result c.in-Pointer.align c.in-Pointer.block c.in-Ok.at
    (sym (sym c.in-Ok.is ∙ c.follow.ensures ∙ ap (λ xs. pointer_lead xs leaf c.bits.result c.in-Pointer.align c.in-Pointer.block) c.as_slice-in-Pointer.ensures))

pub returns-in-Err-clause-addresses : goal.returns-in-Err-clause-addresses
returns-in-Err-clause-addresses g c =
    let m = c.args.image.now.blocks in
    let leaf = c.args.leaf.now in
    let s = spot_part c.args.spot.now in
    let ats = c.args.self.now.addresses.items in
    let align = c.in-Pointer.align in
    let b = c.in-Pointer.block in
    follow_found m leaf ats (bits_at m c.args.self.now.root.items ats s) s.part.kind align b c.in-Pointer.is
    (ap (λ xs. slice_index xs b) (sym c.as_slice.ensures.value) ∙ sym c.address_at.ensures ∙ c.if-address_at-ne0.false) (Err c.in-Err.field-0)
    (sym c.in-Err.is ∙ c.follow.ensures ∙ ap (λ xs. pointer_lead xs leaf c.bits.result align b) c.as_slice-in-Pointer.ensures
    ∙ ap (λ k. pointer_lead m leaf k align b) (c.bits.ensures m leaf c.requires.placed c.requires.numbers c.requires.part))

pub returns-in-Ok-clause-addresses : goal.returns-in-Ok-clause-addresses
returns-in-Ok-clause-addresses g c =
    let m = c.args.image.now.blocks in
    let leaf = c.args.leaf.now in
    let s = spot_part c.args.spot.now in
    let ats = c.args.self.now.addresses.items in
    let align = c.in-Pointer.align in
    let b = c.in-Pointer.block in
    c.enter.ensures.address
    ∙ follow_found m leaf ats (bits_at m c.args.self.now.root.items ats s) s.part.kind align b c.in-Pointer.is
    (ap (λ xs. slice_index xs b) (sym c.as_slice.ensures.value) ∙ sym c.address_at.ensures ∙ c.if-address_at-ne0.false) (Ok c.in-Ok.at)
    (sym c.in-Ok.is ∙ c.follow.ensures ∙ ap (λ xs. pointer_lead xs leaf c.bits.result align b) c.as_slice-in-Pointer.ensures
    ∙ ap (λ k. pointer_lead m leaf k align b) (c.bits.ensures m leaf c.requires.placed c.requires.numbers c.requires.part))
