use Rattle.rb_machine.proofs.Turns.{put_none}
use Rattle.std.proofs.Common.{sym, ◌∙◌, get_or}
use Rattle.rb_machine.proofs.calls.put_back.Goals as goal

pub returns-then-k-froms : goal.returns-then-k-froms
returns-then-k-froms c =
    sym (c.loop-k.invariant ∙ put_none (λ a. get_or c.args.words.now a 0) c.loop-k.slots c.args.dests.now c.args.froms.now c.loop-k.k c.if-k-froms.true)
