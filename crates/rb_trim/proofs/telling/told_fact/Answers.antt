use Rattle.std.proofs.Common.{subst, sym}
use Rattle.std.specs.Prelude.{IfSome}
use Rattle.rb_target.specs.declared.instr.Instr.{Instr}
use Rattle.rb_trim.specs.declared.fact.Fact.{Fact}
use Rattle.rb_trim.specs.inner.Following.{IsTold}
use Rattle.rb_trim.proofs.telling.told_fact.Goals as goal

pub returns-in-Put : goal.returns-in-Put
returns-in-Put c =
    subst (λ (i : Instr). IfSome c.told_put.result (λ (fact : Fact). IsTold c.args.facts.now i fact)) (sym c.in-Put.is) c.told_put.ensures
