-- Expressions and programs whose numbers have at most 64 bits, as any `u64` has.
use Rattle.std.specs.Prelude.{◌≡◌, ◌^◌, map, Bool, true, ◌&&◌, nat_lt}
use Rattle.std.specs.List.{list_all}
use Rattle.rb_core.specs.declared.program.Fun.{Fun}
use Rattle.rb_core.specs.declared.program.Program.{Program}
use Rattle.rb_core.specs.declared.expression.Expr.{Expr}
use Rattle.rb_core.specs.declared.expression.Expr.TheOpen as E
use Rattle.rb_core.specs.declared.expression.Expr.TheOpen.{Expr-F}
use Rattle.rb_core.specs.declared.expression.Expr.TheFolds.{fold-Expr}
use Rattle.rb_core.specs.declared.expression.Clause.{Clause-F}

-- one level of `has_words`: a number has at most 64 bits, and any other expression asks that of its parts
abbrev pub words_step : Expr-F Bool Bool → Bool
words_step (E.Num at n) = nat_lt n (2 ^ 64)
words_step (E.Var at x) = true
words_step (E.Call at g es) = list_all (λ b. b) es
words_step (E.Build at c es) = list_all (λ b. b) es
words_step (E.Binary at op a b) = a && b
words_step (E.To at bits a) = a
words_step (E.Let at x t a b) = a && b
words_step (E.Match at e cs) = e && list_all (λ b. b) cs

-- one level of a clause, in a match: its body is asked, and its pattern is not
abbrev pub words_clause : Clause-F Bool Bool → Bool
words_clause c = c.body

-- each number in an expression, patterns apart, has at most 64 bits
abbrev pub has_words : Expr → Bool
has_words = fold-Expr Bool Bool words_step words_clause

-- each number in the body of a function, patterns apart, has at most 64 bits
abbrev pub body_has_words : Fun → Bool
body_has_words f = has_words f.body

-- each number in the functions of a program, patterns apart, has at most 64 bits
abbrev pub HasWords : Program → Type 0
HasWords p = list_all (λ b. b) (map body_has_words p.funs) ≡ true
