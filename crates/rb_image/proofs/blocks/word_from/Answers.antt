use Rattle.std.proofs.Common.{◌≡◌, ◌+◌, ◌/◌, nat_le, length, true}
use Rattle.rb_image.specs.Blocks.{is_width}
use Rattle.rb_image.proofs.BlockLemmas.{word_found}
use Rattle.rb_image.proofs.blocks.word_from.Goals as goal

pub returns : goal.returns
returns c =
    let b = c.args.block.now in
    let wide : is_width c.args.width ≡ true = cc (c.is_width.ensures, c.if-not-is_width.false) in
    let inside : nat_le (c.args.byte + c.args.width / 8) (length c.as_slice-bytes.result.now) ≡ true = cc (c.lies_within.ensures, c.if-not-lies_within.false) in
    let within : nat_le (c.args.byte + c.args.width / 8) (length b.bytes) ≡ true = rw c.as_slice-bytes.ensures at inside in
    word_found b c.args.byte c.args.width c.load_le.result wide within (rw c.as_slice-bytes.ensures at c.load_le.ensures.value)
