use Rattle.std.proofs.Common.{arith}
use Rattle.rb_values.proofs.TypingLemmas.{close-next}
use Rattle.rb_values.proofs.typing.Typing.close.Goals as goal

pub returns-in_ok-close_frame : goal.returns-in_ok-close_frame
returns-in_ok-close_frame c root t os next e h =
    close-next c.args.types.now root t os next e _ _ _ _ h c.pop.new.self.items c.in-Some.frame c.in-Some.ensures.items
    c.in-Some-checked_add.next (omega (arith, c.in-Some-checked_add.ensures)) _ _ _ _ (λ o os' is k. c.in_ok-close_frame.ensures root o os' is k)
