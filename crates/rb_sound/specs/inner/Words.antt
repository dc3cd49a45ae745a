-- Clauses whose numbers have at most 64 bits, as any `u64` has.
use Rattle.std.specs.Prelude.{Bool}
use Rattle.rb_core.specs.declared.expression.Expr.TheFolds.{fold-Clause}
use Rattle.rb_core.specs.declared.expression.Clause.{Clause}
use Rattle.rb_sound.specs.Words.{words_step, words_clause}

-- each number in the body of a clause, patterns apart, has at most 64 bits
abbrev pub clause_has_words : Clause → Bool
clause_has_words = fold-Clause Bool Bool words_step words_clause
