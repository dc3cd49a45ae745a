use Rattle.std.proofs.Common.{◌∙◌, sym, ap}
use Rattle.rb_layout.specs.Locations.{constant_bits}
use Rattle.rb_layout.proofs.Ends.{found-at, known-found}
use Rattle.rb_layout.proofs.known.known_bits.Goals as goal

pub constant_bits-requires : goal.constant_bits-requires
constant_bits-requires c = (found-at c.args.leaf.now c.args.loc.now c.in-Some.end c.requires c.in-Some.ensures).range

pub returns-in-None-flat_at : goal.returns-in-None-flat_at
returns-in-None-flat_at c =
    let found = found-at c.args.leaf.now c.args.loc.now c.in-Some.end c.requires c.in-Some.ensures in
    let none = c.in-None-flat_at.ensures ∙ found.is_word in cc

pub returns-in-Some-flat_at : goal.returns-in-Some-flat_at
returns-in-Some-flat_at c =
    let found = found-at c.args.leaf.now c.args.loc.now c.in-Some.end c.requires c.in-Some.ensures in
    c.constant_bits.ensures ∙ ap (λ ps. constant_bits ps c.in-Some.end.o c.in-Some.end.l) c.as_slice.ensures
    ∙ known-found c.args.leaf.now c.args.loc.now c.in-Some.end c.in-Some-flat_at.word.now found (sym c.in-Some-flat_at.ensures)
