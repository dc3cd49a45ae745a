use Rattle.std.proofs.Common.{arith}
use Rattle.rb_values.proofs.TypingLemmas.{comma-next}
use Rattle.rb_values.proofs.typing.Typing.comma.Goals as goal

pub returns-in_ok-push : goal.returns-in_ok-push
returns-in_ok-push c types root t os next e h =
    comma-next types root t os next e _ _ _ _ h c.pop.new.self.items c.in-Some.frame c.in-Some.ensures.items
    c.in-Some-checked_add.next (omega (arith, c.in-Some-checked_add.ensures)) c.push.new.self.items c.in_ok-push.ensures.items
