-- The plan of a program whose layouts agree: the program, its layouts, and what each match may cost. Matches are
-- named by the number of their function and by their token: the number of the token at which the match stands in the
-- file. A site is a match with its token, the type of its scrutinee, the value that is matched, and its patterns. A
-- bound is a number of switches: the most that code may do to choose a clause of the match and to bind the variables
-- of its pattern. `agreed` is a program with layouts that agree with its types.
use Rattle.std.specs.Prelude.{ℕ, ◌==◌, List, [], ◌∷◌, Option, Some, None, slice_get, if◌then◌else◌}
use Rattle.rb_core.specs.declared.site.Site.{Site}
use Rattle.rb_core.specs.declared.program.Fun.{Fun}
use Rattle.rb_core.specs.declared.program.Program.{Program}
use Rattle.rb_core.specs.Coverage.{function_sites}
use Rattle.rb_layout.specs.declared.agreed.LaidOut.{LaidOut}
use Rattle.rb_layout.specs.declared.layout.Layout.{Layout}
use Rattle.rb_fragment.specs.Plan.{Plan}
use Rattle.rb_match.specs.Bounding.{bound_of}

-- the first match of the list that stands at a token; None where none does
abbrev pub site_at : ℕ → List Site → Option Site
site_at at [] = None
site_at at (s ∷ ss) = if s.at == at then Some s else site_at at ss

-- the matches of a function, in their order; none where there is no such function
abbrev pub sites_in : Program → Option Fun → List Site
sites_in p None = []
sites_in p (Some f) = function_sites p.types p.funs f

-- the switches that a match of the program may cost under these layouts; 0 where there is no such match
abbrev pub bound_at : Program → List Layout → Option Site → ℕ
bound_at p layouts None = 0
bound_at p layouts (Some s) = bound_of p.types layouts s.scrutinee s.patterns

-- the switches that the match at a token of function f may cost; 0 where there is no function f, or no match there
abbrev pub match_bound : Program → List Layout → ℕ → ℕ → ℕ
match_bound p layouts f at = bound_at p layouts (site_at at (sites_in p (slice_get p.funs f)))

-- the program, its layouts, and the bound of each match
abbrev pub plan_of : LaidOut → Plan
plan_of agreed = record {
  program = agreed.covered.program;
  layouts = agreed.layouts;
  bound = match_bound agreed.covered.program agreed.layouts;
}
