-- The clauses of a match: the pattern of one, the type that is wanted of one by its number, and what it is
-- for a pattern to be typed. Clauses are numbered from 0 in the order of the match.
use Rattle.std.specs.Prelude.{◌≡◌, ℕ, zero, suc, Option, Ok, List}
use Rattle.rb_core.specs.declared.types.Ty.{Ty}
use Rattle.rb_core.specs.declared.types.DataDecl.{DataDecl}
use Rattle.rb_core.specs.declared.typing.Binder.{Binder}
use Rattle.rb_core.specs.declared.pattern.Pat.{Pat}
use Rattle.rb_core.specs.declared.expression.Clause.{Clause}
use Rattle.rb_core.specs.Typing.{pattern_binders}

-- the pattern of a clause
abbrev pub pat_of : Clause → Pat
pat_of c = c.pat

-- what is wanted of the body of the clause with this number, a type or nothing: of clause 0 the first of the
-- two, of each other clause the second
abbrev pub wanted_of : ℕ → Option Ty → Option Ty → Option Ty
wanted_of zero wanted others = wanted
wanted_of (suc k) wanted others = others

-- a pattern p is typed at type s, in a program with these data types: typing finds no fault in it, and gives
-- the list `bs` of what it binds
abbrev pub PatternIsTyped : List DataDecl → Ty → Pat → Type 0
PatternIsTyped types s p = (bs : List Binder) × (pattern_binders types p s ≡ Ok bs)
