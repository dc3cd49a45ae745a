use Rattle.std.proofs.Common.{◌∙◌, arith}
use Rattle.rb_values.proofs.TypingLemmas.{expected-none, expected-last}
use Rattle.rb_values.proofs.typing.Typing.expected.Goals as goal

pub returns-then-count-eq0 : goal.returns-then-count-eq0
returns-then-count-eq0 c os e = expected-none c.args.types.now c.args.root os c.args.self.now.frames.items e (omega (arith, c.if-count-eq0.true))

pub returns : goal.returns
returns c os e =
    c.field_at.ensures ∙ expected-last c.args.types.now c.args.root os c.args.self.now.frames.items c.index-frame.result.now _ e (omega (arith, c.if-count-eq0.false)) c.index-frame.ensures
