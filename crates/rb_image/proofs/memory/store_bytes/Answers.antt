use Rattle.std.proofs.Common.{◌≡◌, Some, sym, ap, ◌∙◌, arith}
use Rattle.std.specs.Prelude.{slice_get}
use Rattle.std.proofs.lemmas.Option.{slice_get-get_or}
use Rattle.rb_image.proofs.FillLemmas.{never_astray, stored_more}
use Rattle.rb_image.proofs.memory.store_bytes.Goals as goal

pub unreachable-requires : goal.unreachable-requires
unreachable-requires c =
    never_astray c.args.memory.now c.args.at c.args.bytes.now c.requires.placed c.loop-i.memory c.loop-i.i c.loop-i.invariant c.store.new.self c.from.result c.in-Err.field-0
    c.loop-i-test.true c.in-Err.ensures.value

pub loop-i-preserved : goal.loop-i-preserved
loop-i-preserved c =
    let bytes = c.args.bytes.now in
    let small = c.type_inv.bytes c.loop-i.i in
    let same = c.from.ensures in
    let is : slice_get bytes c.loop-i.i ≡ Some c.from.result = slice_get-get_or bytes c.loop-i.i 0 c.loop-i-test.true ∙ ap Some (sym c.from.ensures) in
    stored_more c.args.memory.now c.args.at bytes c.requires.placed c.loop-i.memory c.loop-i.i c.loop-i.invariant c.store.new.self c.from.result is (omega (arith, small, same)) c.in-Ok.ensures.value
