use Rattle.std.proofs.Common.{◌∙◌}
use Rattle.std.proofs.lemmas.Result.{IfOk-weaker}
use Rattle.rb_auto.proofs.Settling.{all-settled}
use Rattle.rb_auto.proofs.rooms.find_rooms.Goals as goal

pub returns : goal.returns
returns c =
    IfOk-weaker c.all_settled.result _ _
    (λ rooms is. all-settled c.args.program.now c.args.kinds.now c.settle.new.settled rooms (c.in_ok-settle.ensures c.args.kinds.now c.in_ok-settled.ensures) (is ∙ c.as_slice.ensures))
    c.all_settled.ensures
