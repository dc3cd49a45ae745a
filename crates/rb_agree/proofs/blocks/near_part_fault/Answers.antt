use Rattle.std.proofs.Common.{length, inl, refl}
use Rattle.std.proofs.lemmas.Option.{slice_get_read}
use Rattle.rb_agree.proofs.Reaching.{near-block}
use Rattle.rb_agree.proofs.blocks.near_part_fault.Goals as goal

pub returns-in-Some : goal.returns-in-Some
returns-in-Some c = inl c.in-Some.ensures

pub returns : goal.returns
returns c =
    let blocks = c.args.blocks.now in
    let block = c.in_ok-block.block.now in
    let at = slice_get_read blocks (length blocks) _ block refl c.in_ok-block.ensures.lookup.3.0 c.in_ok-block.ensures.lookup.1 in
    near-block blocks c.args.part.now _ block c.as_slice.result.now c.length_fault.result at c.as_slice.ensures c.length_fault.ensures
