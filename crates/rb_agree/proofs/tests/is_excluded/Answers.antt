use Rattle.std.proofs.Common.{refl, subst}
use Rattle.rb_agree.specs.inner.Tests.{IsAnother}
use Rattle.rb_agree.proofs.Apart.{another-excluded}
use Rattle.rb_agree.proofs.tests.is_excluded.Goals as goal

pub returns-then-is_another : goal.returns-then-is_another
returns-then-is_another c = (
  λ on. another-excluded c.args.types.now c.args.layouts.now c.args.leaf.now c.args.loc.now c.args.number c.args.literal c.requires.number
      (subst (λ l. IsAnother c.args.number l c.args.literal) c.length_of.ensures (c.if-is_another.ensures.0 refl)),
  λ ex. refl,
)
