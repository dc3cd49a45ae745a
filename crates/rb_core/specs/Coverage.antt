-- Coverage: every match is exhaustive, which is that each value of its scrutinee's type has a clause, and
-- notes name the clauses that no value reaches. A value reaches the first clause whose pattern matches it,
-- and no other. Clauses are numbered from 0 in the order of their match. A site is a match as coverage sees
-- it: its token number, its scrutinee's type and its clauses' patterns. A scope is a list of binders,
-- variables with their types, from the outermost to the innermost. In one layer of an expression, an
-- `Expr-F`, the parts stand with their sites. The arguments `types` and `funs` are the data types and the
-- functions of the program.
use Rattle.std.specs.Prelude.{◌≡◌, ℕ, ◌<◌, ◌↔◌, List, [], ◌∷◌, ◌++◌, map, length, None, Contains}
use Rattle.std.specs.List.{flat_map}
use Rattle.std.specs.List.Sorted.{IsStrictlyIncreasing}
use Rattle.rb_core.specs.declared.types.Ty.{Ty}
use Rattle.rb_core.specs.declared.types.DataDecl.{DataDecl}
use Rattle.rb_core.specs.declared.pattern.Pat.{Pat}
use Rattle.rb_core.specs.declared.site.Site.{Site}
use Rattle.rb_core.specs.declared.program.Fun.{Fun}
use Rattle.rb_core.specs.declared.program.Note.{Note}
use Rattle.rb_core.specs.declared.program.Program.{Program}
use Rattle.rb_core.specs.declared.typing.Binder.{Binder}
use Rattle.rb_core.specs.declared.expression.Expr.{Expr}
use Rattle.rb_core.specs.declared.expression.Expr.TheOpen as E
use Rattle.rb_core.specs.declared.expression.Expr.TheOpen.{Expr-F}
use Rattle.rb_core.specs.declared.expression.Expr.TheFolds.{para-Expr}
use Rattle.rb_core.specs.declared.expression.Clause.{Clause, Clause-F}
use Rattle.rb_core.specs.Typing.{binder_of}
use Rattle.rb_core.specs.Inference.{inferred_type, with_binder, binders}
use Rattle.rb_core.specs.Matching.{IsExhaustive, IsUnreached}

-- the sites in an expression, given the scope that it stands in
abbrev pub Sites : Type 0
Sites = List Binder → List Site

-- a part of an expression, with the sites in it
abbrev pub SitedPart : Type 0
SitedPart = Expr × Sites

-- a clause of a match, with the sites in its body
abbrev pub SitedBranch : Type 0
SitedBranch = Clause × Sites

-- the sites in a part that stands in this scope
abbrev pub part_sites : List Binder → SitedPart → List Site
part_sites scope part = part.1 scope

-- the sites in a clause's body, where the match stands in this scope and its scrutinee has type t: the body
-- stands in the scope with what the clause's pattern binds behind it
abbrev pub branch_sites : List DataDecl → Ty → List Binder → SitedBranch → List Site
branch_sites types t scope branch = branch.1 (scope ++ binders types branch.0.pat t)

-- the site of the match with this token number, a scrutinee of type t and these clauses, in their order
abbrev pub site_of : ℕ → Ty → List SitedBranch → Site
site_of at t branches =
    record { at = at; scrutinee = t; patterns = map (λ (branch : SitedBranch). branch.0.pat) branches }

-- the sites in one layer of an expression, from those in its parts, in the order of the text: a match comes
-- first, then what is in its scrutinee, then what is in its clauses' bodies
abbrev pub sites_step : List DataDecl → List Fun → Expr-F SitedPart SitedBranch → Sites
sites_step types funs (E.Num at n) scope = []
sites_step types funs (E.Var at x) scope = []
sites_step types funs (E.Call at g es) scope = flat_map (part_sites scope) es
sites_step types funs (E.Build at c es) scope = flat_map (part_sites scope) es
sites_step types funs (E.Binary at op a b) scope = a.1 scope ++ b.1 scope
sites_step types funs (E.To at bits a) scope = a.1 scope
sites_step types funs (E.Let at x t a b) scope = a.1 scope ++ b.1 (with_binder scope x t)
sites_step types funs (E.Match at e cs) scope =
    let t = inferred_type types funs e.0 None scope in
    site_of at t cs ∷ (e.1 scope ++ flat_map (branch_sites types t scope) cs)

-- the sites in one layer of a clause: those in its body
abbrev pub body_sites : Clause-F SitedPart SitedBranch → Sites
body_sites c = c.body.1

-- the sites in an expression that stands in a scope, in the order of the text
abbrev pub sites : List DataDecl → List Fun → Expr → Sites
sites types funs = para-Expr Sites Sites (sites_step types funs) body_sites

-- the sites in a function's body, whose scope is the function's parameters
abbrev pub function_sites : List DataDecl → List Fun → Fun → List Site
function_sites types funs f = sites types funs f.body (map binder_of f.params)

-- the sites in a program: those in its first function, then those in the second, and so on
abbrev pub sites_of : Program → List Site
sites_of p = flat_map (function_sites p.types p.funs) p.funs

-- each of these sites is exhaustive: each value of its scrutinee's type matches one of its patterns
abbrev pub AreExhaustive : List DataDecl → List Site → Type 0
AreExhaustive types [] = Unit {0}
AreExhaustive types (s ∷ ss) = IsExhaustive types s.scrutinee s.patterns × AreExhaustive types ss

-- `clauses` are the numbers, from 0 on, of exactly those of the patterns that no value of type t reaches,
-- each once and in ascending order
pub record AreUnreached (types : List DataDecl) (t : Ty) (patterns : List Pat) (clauses : List ℕ) : Type 0 where
  pub ascending : IsStrictlyIncreasing clauses
  pub exact : (i : ℕ) → Contains clauses i ↔ ((i < length patterns) × IsUnreached types t patterns i)

-- the note that in the match with this token number the clause with this number is unreached
abbrev pub note_at : ℕ → ℕ → Note
note_at at clause = record { at = at; clause = clause }

-- the notes on one site: one for each clause that no value reaches, in ascending order of the clauses'
-- numbers, and none where each clause is reached
pub record AreSiteNotes (types : List DataDecl) (s : Site) (notes : List Note) : Type 0 where
  pub clauses : List ℕ
  pub unreached : AreUnreached types s.scrutinee s.patterns clauses
  pub named : notes ≡ map (note_at s.at) clauses

-- the notes on several sites: those on the first, then those on the second, and so on; none where there is no
-- site
abbrev pub AreNotes : List DataDecl → List Site → List Note → Type 0
AreNotes types [] notes = notes ≡ []
AreNotes types (s ∷ ss) notes =
    (here : List Note) × (rest : List Note) × (notes ≡ here ++ rest) × AreSiteNotes types s here
    × AreNotes types ss rest

-- a program is covered, with these notes: each of its matches is exhaustive, and the notes name exactly the
-- clauses that no value reaches, in the order of the matches in the file
pub record IsCovered (p : Program) (notes : List Note) : Type 0 where
  pub exhaustive : AreExhaustive p.types (sites_of p)
  pub exact : AreNotes p.types (sites_of p) notes
