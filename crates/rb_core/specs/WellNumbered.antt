-- Well numbered programs: what numbering names leaves of a file, whether or not it is typed. Each number
-- names something of the program's own, each name is of its kind, each count is within its limit. Every typed
-- program is well numbered. A name is a list of bytes. A list is short where it has fewer than 2^32 members.
-- The arguments `types` and `funs` are the data types and the functions of the program. In one layer of a
-- pattern or an expression, what is asked of its parts stands in their places.
use Rattle.std.specs.Prelude.{◌≡◌, ℕ, List, [], ◌∷◌, ◌++◌, map, length, Bool, true, false, ◌&&◌, ◌==◌, not, nat_lt, nat_le, nat_eq, is_some}
use Rattle.std.specs.List.{list_any, list_all, flat_map}
use Rattle.std.specs.Str.{bytes_eq}
use Rattle.rb_core.specs.declared.types.Ty.{Ty}
use Rattle.rb_core.specs.declared.types.Ty.TheVariants.{Int, Named}
use Rattle.rb_core.specs.declared.types.ConRef.{ConRef}
use Rattle.rb_core.specs.declared.types.Con.{Con}
use Rattle.rb_core.specs.declared.types.DataDecl.{DataDecl}
use Rattle.rb_core.specs.declared.program.Param.{Param}
use Rattle.rb_core.specs.declared.program.Fun.{Fun}
use Rattle.rb_core.specs.declared.program.Program.{Program}
use Rattle.rb_core.specs.declared.pattern.Pat.{Pat}
use Rattle.rb_core.specs.declared.pattern.Pat.TheOpen as P
use Rattle.rb_core.specs.declared.pattern.Pat.TheOpen.{Pat-F}
use Rattle.rb_core.specs.declared.pattern.Pat.TheFolds.{fold-Pat}
use Rattle.rb_core.specs.declared.expression.Expr.{Expr}
use Rattle.rb_core.specs.declared.expression.Expr.TheOpen as E
use Rattle.rb_core.specs.declared.expression.Expr.TheOpen.{Expr-F}
use Rattle.rb_core.specs.declared.expression.Expr.TheFolds.{fold-Expr}
use Rattle.rb_core.specs.declared.expression.Clause.{Clause-F}
use Rattle.rb_core.specs.declared.layout_decl.LayoutDecl.{LayoutDecl}
use Rattle.rb_core.specs.Values.{fields_of}
use Rattle.rb_core.specs.Limits.{most_types, most_functions, most_constructors, most_fields, most_parameters, most_words}
use Rattle.rb_core.specs.Layouts.{provenances, is_short, is_short_layout}

-- no item of a list equals one after it, where `same` tells whether two are equal
abbrev pub is_distinct : {A : Type 0} → (A → A → Bool) → List A → Bool
is_distinct same [] = true
is_distinct same (x ∷ xs) = not (list_any (same x) xs) && is_distinct same xs

-- Names -------------------------------------------------------------------------------------

-- a byte or a number is from `first` to `last`, both included
abbrev pub is_between : ℕ → ℕ → ℕ → Bool
is_between first last byte = nat_le first byte && nat_le byte last

-- a byte is a capital letter, `A` to `Z`
abbrev pub is_capital : ℕ → Bool
is_capital = is_between 65 90

-- a byte is a small letter, `a` to `z`
abbrev pub is_small : ℕ → Bool
is_small = is_between 97 122

-- one of two holds at least
abbrev pub either : Bool → Bool → Bool
either true b = true
either false b = b

-- a byte is a letter, a digit or the underscore: what may stand in a name behind its first byte
abbrev pub is_word_byte : ℕ → Bool
is_word_byte byte = either (is_capital byte) (either (is_small byte) (either (is_between 48 57 byte) (byte == 95)))

-- the name of a type or a constructor: a capital, then letters, digits and underscores; no bytes are no name
abbrev pub is_upper : List ℕ → Bool
is_upper [] = false
is_upper (b ∷ bs) = is_capital b && list_all is_word_byte bs

-- the name of a function: a small letter, then letters, digits and underscores; no bytes are no name
abbrev pub is_lower : List ℕ → Bool
is_lower [] = false
is_lower (b ∷ bs) = is_small b && list_all is_word_byte bs

-- Types -------------------------------------------------------------------------------------

-- a type is one of the program: an integer type has 1 to 64 bits, and a data type has a number that is
-- declared
abbrev pub is_type : List DataDecl → Ty → Bool
is_type types (Int bits) = is_between 1 64 bits
is_type types (Named t) = nat_lt t (length types)

-- a constructor is one of the program: its type has one with its number
abbrev pub is_constructor : List DataDecl → ConRef → Bool
is_constructor types c = is_some (fields_of types c)

-- a declared constructor is well numbered: its name is of its kind, it has no more fields than the limit, and
-- each has a type of the program
abbrev pub con_is_numbered : List DataDecl → Con → Bool
con_is_numbered types c =
    is_upper c.name && (nat_le (length c.fields) most_fields && list_all (is_type types) c.fields)

-- a declared data type is well numbered: its name is of its kind, it has a constructor and no more than the
-- limit, and each is well numbered
abbrev pub type_is_numbered : List DataDecl → DataDecl → Bool
type_is_numbered types d =
    is_upper d.name && (is_between 1 most_constructors (length d.cons) && list_all (con_is_numbered types) d.cons)

-- the names of a data type's constructors, in their order
abbrev pub con_names : DataDecl → List (List ℕ)
con_names d = map (λ c. c.name) d.cons

-- Patterns ----------------------------------------------------------------------------------

-- whether one layer of a pattern is well numbered: a constructor is one of the program, and its list of
-- subpatterns is short, of which each is well numbered; whether there are as many as fields is typing's to ask
abbrev pub numbered_pattern_step : List DataDecl → Pat-F Bool → Bool
numbered_pattern_step types (P.Wild at) = true
numbered_pattern_step types (P.Var at x) = true
numbered_pattern_step types (P.Num at n) = true
numbered_pattern_step types (P.Con at c ps) = is_constructor types c && (is_short ps && list_all (λ p. p) ps)

-- a pattern is well numbered: each constructor in it is one of the program, and each list in it is short
abbrev pub pattern_is_numbered : List DataDecl → Pat → Bool
pattern_is_numbered types = fold-Pat Bool (numbered_pattern_step types)

-- the variables that one layer of a pattern binds, from those that its subpatterns bind
abbrev pub vars_step : Pat-F (List ℕ) → List ℕ
vars_step (P.Wild at) = []
vars_step (P.Var at x) = x ∷ []
vars_step (P.Num at n) = []
vars_step (P.Con at c xss) = flat_map (λ xs. xs) xss

-- the variables that a pattern binds, from left to right
abbrev pub vars_of : Pat → List ℕ
vars_of = fold-Pat (List ℕ) vars_step

-- a pattern below a provenance's root: whether it is a wildcard, and whether it is a provenance
pub record Below : Type 0 where
  pub wild : Bool
  pub provenance : Bool

-- a pattern may stand below a provenance's root: it is a wildcard or a provenance
abbrev pub may_be_below : Below → Bool
may_be_below b = either b.wild b.provenance

-- one layer of a pattern: whether it is a wildcard, and whether it is a provenance, from the same of its
-- subpatterns; a variable and a number are neither
abbrev pub below_step : Pat-F Below → Below
below_step (P.Wild at) = record { wild = true; provenance = false }
below_step (P.Var at x) = record { wild = false; provenance = false }
below_step (P.Num at n) = record { wild = false; provenance = false }
below_step (P.Con at c ps) = record { wild = false; provenance = list_all may_be_below ps }

-- a pattern is a provenance: a constructor whose subpatterns are wildcards or provenances
abbrev pub is_provenance : Pat → Bool
is_provenance p = (fold-Pat Below below_step p).provenance

-- Expressions -------------------------------------------------------------------------------

-- whether something is well numbered, given the variables that are bound round it
abbrev pub Within : Type 0
Within = List ℕ → Bool

-- each of several is well numbered within the variables xs
abbrev pub all_within : List Within → Within
all_within es xs = list_all (λ (e : Within). e xs) es

-- whether one layer of a clause is well numbered within the variables xs: its pattern is, and its body is
-- with what the pattern binds
abbrev pub numbered_clause_step : List DataDecl → Clause-F Within Within → Within
numbered_clause_step types c xs = pattern_is_numbered types c.pat && c.body (vars_of c.pat ++ xs)

-- whether one layer of an expression is well numbered within the variables xs: what it names is there, a
-- conversion is to 1 to 64 bits, a match has a clause, its lists are short, and its parts are well numbered
abbrev pub expression_step : List DataDecl → List Fun → Expr-F Within Within → Within
expression_step types funs (E.Num at n) xs = true
expression_step types funs (E.Var at x) xs = list_any (nat_eq x) xs
expression_step types funs (E.Call at g es) xs = nat_lt g (length funs) && (is_short es && all_within es xs)
expression_step types funs (E.Build at c es) xs = is_constructor types c && (is_short es && all_within es xs)
expression_step types funs (E.Binary at op a b) xs = a xs && b xs
expression_step types funs (E.To at bits a) xs = is_between 1 64 bits && a xs
expression_step types funs (E.Let at x ty a b) xs = is_type types ty && (a xs && b (x ∷ xs))
expression_step types funs (E.Match at e cs) xs = e xs && (nat_lt 0 (length cs) && (is_short cs && all_within cs xs))

-- an expression is well numbered within these variables: each function, constructor and type that it names is
-- one of the program, each variable one of these or bound round it in the expression, each conversion is to 1
-- to 64 bits, each match has a clause, and each list in it is short
abbrev pub expression_is_numbered : List DataDecl → List Fun → Expr → List ℕ → Bool
expression_is_numbered types funs = fold-Expr Within Within (expression_step types funs) (numbered_clause_step types)

-- the tokens of several lists, one list behind the other
abbrev pub all_tokens : List (List ℕ) → List ℕ
all_tokens = flat_map (λ ts. ts)

-- the token numbers of the matches in one layer of an expression, from those in its parts: a match comes
-- first, then what is in its scrutinee and its clauses
abbrev pub tokens_step : Expr-F (List ℕ) (List ℕ) → List ℕ
tokens_step (E.Num at n) = []
tokens_step (E.Var at x) = []
tokens_step (E.Call at g es) = all_tokens es
tokens_step (E.Build at c es) = all_tokens es
tokens_step (E.Binary at op a b) = a ++ b
tokens_step (E.To at bits a) = a
tokens_step (E.Let at x ty a b) = a ++ b
tokens_step (E.Match at e cs) = at ∷ (e ++ all_tokens cs)

-- the token numbers of the matches in one layer of a clause: those in its body
abbrev pub body_tokens : Clause-F (List ℕ) (List ℕ) → List ℕ
body_tokens c = c.body

-- the token numbers of an expression's matches, in the order of the text
abbrev pub match_tokens : Expr → List ℕ
match_tokens = fold-Expr (List ℕ) (List ℕ) tokens_step body_tokens

-- Programs ----------------------------------------------------------------------------------

-- a parameter is well numbered: its type is one of the program
abbrev pub param_is_numbered : List DataDecl → Param → Bool
param_is_numbered types p = is_type types p.ty

-- a function is well numbered: its name is of its kind, it has no more parameters than the limit, the types of
-- its parameters and of its result are types of the program, and its body is well numbered within its parameters
abbrev pub function_is_numbered : List DataDecl → List Fun → Fun → Bool
function_is_numbered types funs f =
    is_lower f.name && (nat_le (length f.params) most_parameters && (list_all (param_is_numbered types) f.params
    && (is_type types f.result && expression_is_numbered types funs f.body (map (λ p. p.var) f.params))))

-- a leaf's pattern is well numbered: it is a provenance, each constructor in it is one of the program, and each
-- list in it is short
abbrev pub provenance_is_numbered : List DataDecl → Pat → Bool
provenance_is_numbered types p = is_provenance p && pattern_is_numbered types p

-- a layout is well numbered: it is for a data type of the program, its shape has a word and no more than the
-- limit, the provenance of each leaf is well numbered, and its tree is short
abbrev pub layout_is_numbered : List DataDecl → LayoutDecl → Bool
layout_is_numbered types l =
    nat_lt l.ty (length types) && (is_between 1 most_words (length l.shape)
    && (list_all (provenance_is_numbered types) (provenances l.tree) && is_short_layout l.tree))

-- a program is well numbered: `main` is the number of a function, each data type, each layout and each function
-- is well numbered, the counts of data types and functions are within their limits, no two data types have one
-- name, nor two constructors of the whole program, nor two functions, no two layouts are for one data type, and
-- no two matches of the whole program have one token number
pub record IsWellNumbered (p : Program) : Type 0 where
  pub main : nat_lt p.main (length p.funs) ≡ true
  pub types : list_all (type_is_numbered p.types) p.types ≡ true
  pub layouts : list_all (layout_is_numbered p.types) p.layouts ≡ true
  pub functions : list_all (function_is_numbered p.types p.funs) p.funs ≡ true
  pub type_count : nat_le (length p.types) most_types ≡ true
  pub function_count : nat_le (length p.funs) most_functions ≡ true
  pub type_names : is_distinct bytes_eq (map (λ d. d.name) p.types) ≡ true
  pub con_names : is_distinct bytes_eq (flat_map con_names p.types) ≡ true
  pub function_names : is_distinct bytes_eq (map (λ f. f.name) p.funs) ≡ true
  pub layout_types : is_distinct nat_eq (map (λ l. l.ty) p.layouts) ≡ true
  pub match_tokens : is_distinct nat_eq (flat_map (λ f. match_tokens f.body) p.funs) ≡ true
