use Rattle.std.proofs.Common.{◌≡◌, ◌≤◌, false, nat_lt, sym, ◌∙◌, arith}
use Rattle.std.proofs.lemmas.Grind.{common_steps}
use Rattle.rb_check.proofs.BelowLemmas.{none-stands}
use Rattle.rb_check.proofs.pattern.stands_below.Goals as goal

pub returns-else-from-above : goal.returns-else-from-above
returns-else-from-above c =
    let low : nat_lt c.from.result c.args.above ≡ false = grind (arith, common_steps, c.if-from-above.false) in
    let above : c.args.above ≤ c.args.var = omega (arith, c.if-from-above.false, c.from.ensures) in
    low ∙ sym (none-stands c.args.above c.args.var c.args.params.now c.requires above)
