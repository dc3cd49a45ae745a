use Rattle.std.proofs.Common.{Err, inl, refl, sym, subst}
use Rattle.rb_core.specs.declared.value.Value.{Value}
use Rattle.rb_coding.specs.Decoding.{AreOf, IsDecoded}
use Rattle.rb_coding.specs.declared.fault.DecodeFault.{DecodeFault}
use Rattle.rb_image_text.specs.Places.{AreInPlace}
use Rattle.rb_image.specs.Memories.{Stand}
use Rattle.rb_image.proofs.ReadLemmas.{stand_keeps_blocks, stands_for}
use Rattle.rb_image.proofs.value.value_of.Goals as goal

pub memory_of-requires-clause-placed : goal.memory_of-requires-clause-placed
memory_of-requires-clause-placed c = subst AreInPlace (sym c.as_slice.ensures) c.requires.placed

pub decode-requires-clause-represented : goal.decode-requires-clause-represented
decode-requires-clause-represented c =
    let p = c.args.agreed.now.covered.program in
    let image = c.args.image.now in
    let m = c.in_ok-memory.memory in
    let stand = subst (λ blocks. Stand blocks m) c.as_slice.ensures c.in_ok-memory.ensures.stand in
    let keeps = stand_keeps_blocks image.blocks m c.in_ok-memory.ensures.good stand in
    let v = c.images_have_values.ensures image c.args.ty c.requires.declared c.requires.sound m keeps in
    subst (λ words. (v : Value) × AreOf p m c.args.ty words v) (sym c.as_slice-2.ensures) v

pub returns-in-Ok : goal.returns-in-Ok
returns-in-Ok c = λ v is.
    let p = c.args.agreed.now.covered.program in
    let image = c.args.image.now in
    let m = c.in_ok-memory.memory in
    let stand = subst (λ blocks. Stand blocks m) c.as_slice.ensures c.in_ok-memory.ensures.stand in
    let there = stands_for p image c.args.ty c.requires.placed c.requires.sized m stand v is in
    c.in-Ok.ensures v (subst (λ words. AreOf p m c.args.ty words v) (sym c.as_slice-2.ensures) there)

pub returns-in-Err-TooLarge : goal.returns-in-Err-TooLarge
returns-in-Err-TooLarge c = λ v is.
    let p = c.args.agreed.now.covered.program in
    let image = c.args.image.now in
    let m = c.in_ok-memory.memory in
    let stand = subst (λ blocks. Stand blocks m) c.as_slice.ensures c.in_ok-memory.ensures.stand in
    let there = stands_for p image c.args.ty c.requires.placed c.requires.sized m stand v is in
    let decoded = c.in-Err-TooLarge.ensures v (subst (λ words. AreOf p m c.args.ty words v) (sym c.as_slice-2.ensures) there) in
    inl (refl, subst (λ (fault : DecodeFault). IsDecoded v c.args.limit (Err fault)) c.in-Err-TooLarge.field-0-is decoded)
