-- How the checker goes over the matches of a program. A site is a match with its token, its scrutinee's type and its
-- clauses' patterns.
use Rattle.std.specs.Prelude.{◌≡◌, ◌<◌, ◌^◌, List, [], ◌∷◌, ◌++◌, length}
use Rattle.std.specs.List.{flat_map}
use Rattle.rb_core.specs.declared.types.Ty.{Ty}
use Rattle.rb_core.specs.declared.types.DataDecl.{DataDecl}
use Rattle.rb_core.specs.declared.typing.Binder.{Binder}
use Rattle.rb_core.specs.declared.expression.Clause.{Clause}
use Rattle.rb_core.specs.declared.expression.Expr.{Expr}
use Rattle.rb_core.specs.declared.site.Site.{Site}
use Rattle.rb_core.specs.declared.program.Fun.{Fun}
use Rattle.rb_core.specs.declared.program.Note.{Note}
use Rattle.rb_core.specs.Coverage.{AreExhaustive, AreNotes, AreSiteNotes, sites}
use Rattle.rb_core.specs.Inference.{binders}
use Rattle.rb_core.specs.Matching.{IsExhaustive}
use Rattle.rb_matrix.specs.Search.{IsTypeIn}

-- The matches ---------------------------------------------------------------------------------

-- the matches in arguments, from the first argument to the last, all within one scope
abbrev pub argument_sites : List DataDecl → List Fun → List Binder → List Expr → List Site
argument_sites types funs scope = flat_map (λ (e : Expr). sites types funs e scope)

-- the matches in the body of a clause, within what its pattern binds at the scrutinee's type t
abbrev pub body_sites : List DataDecl → List Fun → Ty → List Binder → Clause → List Site
body_sites types funs t scope c = sites types funs c.body (scope ++ binders types c.pat t)

-- a match whose scrutinee has a type of the program, and whose clauses 32 bits number
pub record IsNumberedSite (types : List DataDecl) (s : Site) : Type 0 where
  pub ty : IsTypeIn types s.scrutinee
  pub short : length s.patterns < 2 ^ 32

-- each of these matches has a scrutinee of a type of the program, and clauses that 32 bits number
abbrev pub AreNumberedSites : List DataDecl → List Site → Type 0
AreNumberedSites types [] = Unit {0}
AreNumberedSites types (s ∷ ss) = IsNumberedSite types s × AreNumberedSites types ss

-- Answers -------------------------------------------------------------------------------------

-- a match is exhaustive, and the notes on its clauses that no value reaches are added behind the old ones
pub record IsSiteCovered (types : List DataDecl) (s : Site) (old new : List Note) : Type 0 where
  pub exhaustive : IsExhaustive types s.scrutinee s.patterns
  pub here : List Note
  pub added : new ≡ old ++ here
  pub exact : AreSiteNotes types s here

-- all these matches are exhaustive, and the notes are those on their clauses that no value reaches
pub record AreCovered (types : List DataDecl) (ss : List Site) (notes : List Note) : Type 0 where
  pub exhaustive : AreExhaustive types ss
  pub exact : AreNotes types ss notes
