use Rattle.std.proofs.Common.{◌≡◌, drop, map}
use Rattle.std.specs.List.{list_all}
use Rattle.rb_sound.specs.Words.{has_words}
use Rattle.rb_sound.specs.inner.Words.{clause_has_words}
use Rattle.rb_sound.proofs.numbers.+seeing.Given as goal

abbrev pub invariant-see_expressions-loop-expr : goal.invariant-see_expressions-loop-expr
invariant-see_expressions-loop-expr l = list_all (λ b. b) (map has_words (drop l.expr-index l.exprs)) ≡ list_all (λ b. b) (map has_words l.exprs)

abbrev pub invariant-see_clauses-loop-clause : goal.invariant-see_clauses-loop-clause
invariant-see_clauses-loop-clause l = list_all (λ b. b) (map clause_has_words (drop l.clause-index l.clauses)) ≡ list_all (λ b. b) (map clause_has_words l.clauses)
