-- Which match a program is refused for: the first that is not exhaustive. A site is a match with its token, its
-- scrutinee's type and its clauses' patterns.
use Rattle.std.specs.Prelude.{◌≡◌, List, ◌∷◌, ◌++◌}
use Rattle.rb_core.specs.declared.types.DataDecl.{DataDecl}
use Rattle.rb_core.specs.declared.site.Site.{Site}
use Rattle.rb_core.specs.declared.program.Program.{Program}
use Rattle.rb_core.specs.Coverage.{AreExhaustive, sites_of}
use Rattle.rb_matrix.specs.Exhaust.{IsMissing}
use Rattle.rb_check.specs.declared.coverage.CoverFault.{CoverFault}
use Rattle.rb_check.specs.declared.coverage.CoverFault.TheVariants.{Missing, Memory}

-- a match is not exhaustive: it has this token, and the pattern has a value of its scrutinee's type,
-- and none that a clause matches; want of memory says nothing of it
abbrev pub IsSiteRefused : List DataDecl → Site → CoverFault → Type 0
IsSiteRefused types s (Missing at q) = (s.at ≡ at) × IsMissing types s.scrutinee s.patterns q
IsSiteRefused types s Memory = Unit {0}

-- the first match that is not exhaustive: those before it are
pub record IsFirstRefused (types : List DataDecl) (ss : List Site) (fault : CoverFault) : Type 0 where
  pub before : List Site
  pub site : Site
  pub after : List Site
  pub order : ss ≡ before ++ site ∷ after
  pub exhaustive : AreExhaustive types before
  pub refused : IsSiteRefused types site fault

-- a fault that may be answered for matches: the first of them that is not exhaustive, or want
-- of memory, which says nothing of them
abbrev pub AreRefused : List DataDecl → List Site → CoverFault → Type 0
AreRefused types ss (Missing at q) = IsFirstRefused types ss (Missing at q)
AreRefused types ss Memory = Unit {0}

-- a fault that may be answered for a program: its first match, in the file's order, that is not exhaustive; or want
-- of memory, which says nothing of it
abbrev pub IsCoverFault : Program → CoverFault → Type 0
IsCoverFault p = AreRefused p.types (sites_of p)
