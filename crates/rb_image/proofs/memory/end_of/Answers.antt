use Rattle.std.proofs.Common.{◌-◌, length, refl, sym, ap, ◌∙◌, arith}
use Rattle.std.specs.Option.{option_copied}
use Rattle.rb_image.proofs.AscendingBlocks.{end_last}
use Rattle.rb_image.proofs.memory.end_of.Goals as goal

pub returns-in-Some-clause-each : goal.returns-in-Some-clause-each
returns-in-Some-clause-each c = λ k b at.
    let blocks = c.args.blocks.now in
    let is = sym c.last.ensures.value ∙ ap option_copied c.in-Some.is in
    let within = end_last blocks c.requires.placed (length blocks - 1) c.in-Some.block.now refl is k b at in
    let size = c.len.ensures in
    omega (arith, within, size)
