-- What the file shows of the values of expressions, before any code runs: a pattern that the value matches, with the
-- constructors that are written in the expression. A wildcard shows nothing.
use Rattle.rb_core.specs.declared.pattern.Pat.{Pat, Wild, Con}
use Rattle.rb_core.specs.declared.expression.Expr.{Expr}
use Rattle.rb_core.specs.declared.expression.Expr.TheOpen as E
use Rattle.rb_core.specs.declared.expression.Expr.TheOpen.{Expr-F}
use Rattle.rb_core.specs.declared.expression.Expr.TheFolds.{fold-Expr}
use Rattle.rb_core.specs.declared.expression.Clause.{Clause-F}

-- what an expression shows, from what its parts show: a construction its constructor over them, any other nothing
abbrev pub shown_step : Expr-F Pat Pat → Pat
shown_step (E.Num at n) = Wild 0
shown_step (E.Var at x) = Wild 0
shown_step (E.Call at g ps) = Wild 0
shown_step (E.Build at c ps) = Con at c ps
shown_step (E.Binary at op p q) = Wild 0
shown_step (E.To at bits p) = Wild 0
shown_step (E.Let at x t p q) = Wild 0
shown_step (E.Match at p qs) = Wild 0

-- what a clause's body shows, where that is given
abbrev pub shown_body : Clause-F Pat Pat → Pat
shown_body c = c.body

-- a construction shows its constructor and what its arguments show, and no other expression shows anything
abbrev pub shown_of : Expr → Pat
shown_of = fold-Expr Pat Pat shown_step shown_body
