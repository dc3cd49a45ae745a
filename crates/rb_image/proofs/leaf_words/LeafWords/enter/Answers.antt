use Rattle.std.proofs.Common.{◌<◌, length, sym, subst, ap, ◌∙◌, arith}
use Rattle.std.specs.Option.{option_copied}
use Rattle.rb_layout.specs.Readable.{AreShort}
use Rattle.rb_image.specs.LeafWords.{numbers_at}
use Rattle.rb_image.proofs.LeafWordLemmas.{entered, unread_entered, unread_set}
use Rattle.rb_image.proofs.OrderLemmas.{block_short}
use Rattle.rb_image.proofs.leaf_words.LeafWords.enter.Goals as goal

pub returns-in_default-clause-once : goal.returns-in_default-clause-once
returns-in_default-clause-once g c =
    let le = unread_set c.args.leaf.now.blocks c.args.self.now.addresses.items c.args.block c.args.address c.requires.unknown in omega (arith, le)

pub read_numbers-requires-clause-short : goal.read_numbers-requires-clause-short
read_numbers-requires-clause-short g c =
    let is = sym c.get.ensures.value ∙ ap option_copied c.in-Some.is in
    subst AreShort (sym c.as_slice.ensures) (block_short c.args.leaf.now c.args.block c.in-Some.found.now c.requires.readable is)

pub returns-in_err-numbers-clause-once : goal.returns-in_err-numbers-clause-once
returns-in_err-numbers-clause-once g c =
    let is = sym c.get.ensures.value ∙ ap option_copied c.in-Some.is in
    let few = c.if-block-len.false in
    let count = c.len.ensures in
    let within : c.args.block < length c.args.self.now.addresses.items = omega (arith, few, count) in
    let e = unread_entered c.args.leaf.now.blocks c.args.self.now.addresses.items c.args.block c.args.address c.in-Some.found.now within c.requires.unknown c.requires.found is in
    let most = c.read_numbers.ensures.most in
    let same = ap length c.as_slice.ensures in
    omega (arith, e, most, same)

pub returns-clause-numbers : goal.returns-clause-numbers
returns-clause-numbers g c =
    let m = c.args.image.now.blocks in
    let is = sym c.get.ensures.value ∙ ap option_copied c.in-Some.is in
    let few = c.if-block-len.false in
    let count = c.len.ensures in
    let within : c.args.block < length c.args.self.now.addresses.items = omega (arith, few, count) in
    entered m c.args.leaf.now c.args.self.now.addresses.items c.args.self.now.blocks.items c.requires.numbers c.args.block c.args.address within
    c.in-Some.found.now c.in_ok-numbers.numbers c.requires.found is (c.in_ok-numbers.ensures.numbers ∙ ap (numbers_at m c.args.address 0) c.as_slice.ensures)

pub returns-clause-once : goal.returns-clause-once
returns-clause-once g c =
    let is = sym c.get.ensures.value ∙ ap option_copied c.in-Some.is in
    let few = c.if-block-len.false in
    let count = c.len.ensures in
    let within : c.args.block < length c.args.self.now.addresses.items = omega (arith, few, count) in
    let e = unread_entered c.args.leaf.now.blocks c.args.self.now.addresses.items c.args.block c.args.address c.in-Some.found.now within c.requires.unknown c.requires.found is in
    let most = c.read_numbers.ensures.most in
    let same = ap length c.as_slice.ensures in
    omega (arith, e, most, same)
