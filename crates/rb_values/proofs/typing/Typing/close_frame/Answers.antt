use Rattle.std.proofs.Common.{◌≡◌, length, arith}
use Rattle.rb_values.proofs.TypingLemmas.{closed-none, closed-built}
use Rattle.rb_values.proofs.typing.Typing.close_frame.Goals as goal

pub returns-in-None : goal.returns-in-None
returns-in-None c root o os is h = closed-none c.args.types.now root o os c.args.frame is _ _ _ _ h c.in-None.ensures

pub returns : goal.returns
returns c root o os is h =
    let l : length c.in-Some.fields.now ≡ c.args.frame.next = omega (arith, c.if-fields-frame.false) in
    closed-built c.args.types.now root o os c.args.frame is _ _ _ _ h c.in-Some.fields.now c.in-Some.ensures l c.con_number.result c.least-count.result c.build.new.self
    c.in-None-fault.is c.con_number.ensures (λ q. c.least-count.ensures.same (omega (arith, q, c.len.ensures))) c.in_ok-build.ensures
