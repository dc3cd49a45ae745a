use Rattle.std.proofs.Common.{◌≡◌, ◌+◌, ◌*◌, take, map}
use denote.Param.Weighed.{most}
use Rattle.rb_core.specs.declared.expression.Expr.{size-Expr}
use Rattle.rb_compile.specs.inner.Shown.{shown_of}
use Rattle.rb_compile.proofs.shown.+showing.Given as goal

abbrev pub invariant-shown_patterns-loop-expr : goal.invariant-shown_patterns-loop-expr
invariant-shown_patterns-loop-expr l = l.pats ≡ map shown_of (take l.expr-index l.exprs)

abbrev pub decreases-shown_pattern : goal.decreases-shown_pattern
decreases-shown_pattern l = 2 * size-Expr l.expr.now

abbrev pub decreases-shown_patterns : goal.decreases-shown_patterns
decreases-shown_patterns l = 2 * most size-Expr l.exprs.now + 1
