use Rattle.std.proofs.Common.{ℕ, set, get_or, ap, ◌∙◌}
use Rattle.rb_machine.proofs.Turns.{fill_more}
use Rattle.rb_machine.proofs.calls.fill.Goals as goal

pub loop-k-preserved : goal.loop-k-preserved
loop-k-preserved c =
    let f = λ (a : ℕ). get_or c.args.slots.now a 0 in
    ap (λ ws. set ws c.loop-k.k (f (get_or c.args.froms.now c.loop-k.k 0))) c.loop-k.invariant
    ∙ fill_more f c.args.froms.now c.args.words.now c.loop-k.k c.requires.long c.loop-k-test.true
