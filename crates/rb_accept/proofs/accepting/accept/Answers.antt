use Rattle.std.proofs.Common.{sym, subst}
use Rattle.rb_core.specs.declared.program.Program.{Program}
use Rattle.rb_accept.specs.Accepting.{IsNamedWith, completed_as}
use Rattle.rb_accept.proofs.accepting.accept.Goals as goal

pub ascribe-requires-clause-named : goal.ascribe-requires-clause-named
ascribe-requires-clause-named c = (c.in_ok-completed.completed.refused, c.in_ok-completed.ensures.named)

pub annotate-requires-clause-named : goal.annotate-requires-clause-named
annotate-requires-clause-named c =
    let refused = c.in_ok-completed.completed.refused in (
      refused,
      subst (λ (p : Program). IsNamedWith c.args.bytes.now c.as_slice-tokens.result.now (completed_as p refused)) (sym c.in_ok-typed.ensures.same)
          c.in_ok-completed.ensures.named,
    )
