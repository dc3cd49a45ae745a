-- Numbering: the tree with each name's number in its place, or the first name that stands for nothing. Each form has
-- one equation, and its parts are numbered in the order in which they are written. A binder gives a variable its
-- number: variables of one name in a pattern are one, as are those in a parameter list; a `let` is one by itself. The
-- tables `t` say what the names of types, constructors and functions stand for, and a scope what those of variables
-- do. A provenance is the pattern of the values for which a leaf of a layout is. A place, often `at`, is the number
-- of a token in the file; it stays.
use Rattle.std.specs.Prelude.{ℕ, suc, ◌+◌, List, [], ◌∷◌, map, length, Option, Some, None, Result, Ok, Err}
use Rattle.rb_core.specs.declared.types.Ty.{Ty}
use Rattle.rb_core.specs.declared.types.Ty.TheVariants as core_ty
use Rattle.rb_core.specs.declared.types.Con.{Con}
use Rattle.rb_core.specs.declared.types.DataDecl.{DataDecl}
use Rattle.rb_core.specs.declared.pattern.Pat.{Pat}
use Rattle.rb_core.specs.declared.pattern.Pat as core_pat
use Rattle.rb_core.specs.declared.expression.Expr.{Expr}
use Rattle.rb_core.specs.declared.expression.Expr as core
use Rattle.rb_core.specs.declared.expression.Clause.{Clause}
use Rattle.rb_core.specs.declared.program.Param.{Param}
use Rattle.rb_core.specs.declared.program.Fun.{Fun}
use Rattle.rb_core.specs.declared.layout_decl.Arm.{Arm}
use Rattle.rb_core.specs.declared.layout_decl.LayTree.{LayTree}
use Rattle.rb_core.specs.declared.layout_decl.LayTree as core_tree
use Rattle.rb_core.specs.declared.layout_decl.LayoutDecl.{LayoutDecl}
use Rattle.rb_syntax.specs.declared.tree.NameTree.{NameTree}
use Rattle.rb_syntax.specs.declared.tree.TyTree.{TyTree}
use Rattle.rb_syntax.specs.declared.tree.TyTree.TheVariants as ty
use Rattle.rb_syntax.specs.declared.tree.ConTree.{ConTree}
use Rattle.rb_syntax.specs.declared.tree.TypeTree.{TypeTree}
use Rattle.rb_syntax.specs.declared.tree.PatTree.{PatTree}
use Rattle.rb_syntax.specs.declared.tree.PatTree.TheFolds.{fold-PatTree}
use Rattle.rb_syntax.specs.declared.tree.PatTree.TheOpen as pat
use Rattle.rb_syntax.specs.declared.tree.PatTree.TheOpen.{PatTree-F}
use Rattle.rb_syntax.specs.declared.tree.ExprTree.{ExprTree}
use Rattle.rb_syntax.specs.declared.tree.ExprTree.TheFolds.{fold-ExprTree}
use Rattle.rb_syntax.specs.declared.tree.ExprTree.TheOpen as expr
use Rattle.rb_syntax.specs.declared.tree.ExprTree.TheOpen.{ExprTree-F}
use Rattle.rb_syntax.specs.declared.tree.ClauseTree.{ClauseTree-F}
use Rattle.rb_syntax.specs.declared.tree.ParamTree.{ParamTree}
use Rattle.rb_syntax.specs.declared.tree.FunTree.{FunTree}
use Rattle.rb_syntax.specs.declared.tree.SplitTree.{SplitTree}
use Rattle.rb_syntax.specs.declared.tree.SplitTree.TheFolds.{fold-SplitTree}
use Rattle.rb_syntax.specs.declared.tree.SplitTree.TheOpen as split
use Rattle.rb_syntax.specs.declared.tree.SplitTree.TheOpen.{SplitTree-F}
use Rattle.rb_syntax.specs.declared.tree.ArmTree.{ArmTree-F}
use Rattle.rb_syntax.specs.declared.tree.LayoutTree.{LayoutTree}
use Rattle.rb_names.specs.declared.fault.NameFault.{NameFault}
use Rattle.rb_names.specs.declared.fault.NameFault.TheVariants.{Unknown}
use Rattle.rb_names.specs.declared.tables.Tables.{Tables}
use Rattle.rb_names.specs.Tables.{meaning}
use Rattle.rb_names.specs.Scopes.{Scope, inside, binders_of, param_binders}

-- what is found of a file or of a part of it, or else the first fault of a name in it
abbrev pub Resolved : Type 0 → Type 0
Resolved A = Result A NameFault

-- goes on with what was found; a fault stays the fault, and nothing behind it is looked at
abbrev pub and_then : {A B : Type 0} → Resolved A → (A → Resolved B) → Resolved B
and_then (Ok a) go = go a
and_then (Err fault) go = Err fault

-- all parts of a list, in their order, or the first fault among them
abbrev pub all_of : {A : Type 0} → List (Resolved A) → Resolved (List A)
all_of [] = Ok []
all_of (r ∷ rs) = and_then r (λ x. and_then (all_of rs) (λ xs. Ok (x ∷ xs)))

-- what a name was found to stand for; where nothing was found, the fault that it is unknown at its place
abbrev pub name_found : {A : Type 0} → NameTree → Option A → Resolved A
name_found name None = Err (Unknown name.text name.at)
name_found name (Some a) = Ok a

-- Types and patterns ------------------------------------------------------------------------

-- a written type: an integer type as it is, a data type by its number in the tables, or the fault of its name
abbrev pub numbered_type : Tables → TyTree → Resolved Ty
numbered_type t (ty.Int bits) = Ok (core_ty.Int bits)
numbered_type t (ty.Named name) = and_then (name_found name (meaning t.types name.text)) (λ n. Ok (core_ty.Named n))

-- a declared constructor under its name, with the types of its fields numbered, in their order
abbrev pub numbered_constructor : Tables → ConTree → Resolved Con
numbered_constructor t c =
    and_then (all_of (map (numbered_type t) c.fields)) (λ fields. Ok (record { name = c.name.text; fields = fields }))

-- a type declaration under its name, with its constructors numbered, in their order
abbrev pub numbered_data : Tables → TypeTree → Resolved DataDecl
numbered_data t d =
    and_then (all_of (map (numbered_constructor t) d.cons)) (λ cons. Ok (record { name = d.name.text; cons = cons }))

-- a pattern of one form, made of its fields as they were numbered: its constructor is looked up in the tables, its
-- variable in the scope, which is that inside the whole pattern's own binders
abbrev pub pattern_step : Tables → Scope → PatTree-F (Resolved Pat) → Resolved Pat
pattern_step t scope (pat.Wild at) = Ok (core_pat.Wild at)
pattern_step t scope (pat.Var at name) = and_then (name_found name (meaning scope name.text))
    (λ x. Ok (core_pat.Var at x))
pattern_step t scope (pat.Num at n) = Ok (core_pat.Num at n)
pattern_step t scope (pat.Con at name ps) =
    and_then (name_found name (meaning t.constructors name.text))
    (λ c. and_then (all_of ps) (λ qs. Ok (core_pat.Con at c qs)))

-- a pattern with its constructors' numbers from the tables and its variables' from the scope
abbrev pub numbered_pattern : Tables → Scope → PatTree → Resolved Pat
numbered_pattern t scope = fold-PatTree (Resolved Pat) (pattern_step t scope)

-- Expressions -------------------------------------------------------------------------------

-- a numbered part, and the number of the next binder in its function
pub record Numbered (A : Type 0) : Type 0 where
  pub what : A
  pub next : ℕ

-- how a part is numbered within a scope, where the next binder has this number
abbrev pub Numbering : Type 0 → Type 0
Numbering A = Scope → ℕ → Resolved (Numbered A)

-- the result of a part that is numbered as x, where `next` is the number of the next binder behind it
abbrev pub numbered_as : {A : Type 0} → A → ℕ → Resolved (Numbered A)
numbered_as x next = Ok (record { what = x; next = next })

-- parts numbered from left to right within one scope: the binders of each get the numbers next to those before it
abbrev pub in_turn : {A : Type 0} → List (Numbering A) → Numbering (List A)
in_turn [] scope next = numbered_as [] next
in_turn (p ∷ ps) scope next =
    and_then (p scope next) (λ x. and_then (in_turn ps scope x.next) (λ xs. numbered_as (x.what ∷ xs.what) xs.next))

-- a clause, where it is known how its body is numbered: inside its pattern's variables, which get the next numbers
abbrev pub clause_step : Tables → ClauseTree-F (Numbering Expr) (Numbering Clause) → Numbering Clause
clause_step t c scope next =
    let inner = inside (binders_of c.pat) next scope in
    and_then (numbered_pattern t inner c.pat) (λ p. and_then (c.body inner (next + length (binders_of c.pat))) (λ e.
    numbered_as (record { pat = p; body = e.what }) e.next))

-- An expression of one form, where it is known how its parts are numbered. The variable of a `let` gets its number
-- before those inside the bound expression, but is in scope in the body alone.
abbrev pub expr_step : Tables → ExprTree-F (Numbering Expr) (Numbering Clause) → Numbering Expr
expr_step t (expr.Num at n) scope next = numbered_as (core.Num at n) next
expr_step t (expr.Var at name) scope next =
    and_then (name_found name (meaning scope name.text)) (λ x. numbered_as (core.Var at x) next)
expr_step t (expr.Call at name es) scope next =
    and_then (name_found name (meaning t.functions name.text))
    (λ f. and_then (in_turn es scope next) (λ xs. numbered_as (core.Call at f xs.what) xs.next))
expr_step t (expr.Build at name es) scope next =
    and_then (name_found name (meaning t.constructors name.text))
    (λ c. and_then (in_turn es scope next) (λ xs. numbered_as (core.Build at c xs.what) xs.next))
expr_step t (expr.Binary at op a b) scope next =
    and_then (a scope next) (λ x. and_then (b scope x.next) (λ y. numbered_as (core.Binary at op x.what y.what) y.next))
expr_step t (expr.To at bits a) scope next = and_then (a scope next) (λ x. numbered_as (core.To at bits x.what) x.next)
expr_step t (expr.Let at name ty a b) scope next =
    and_then (numbered_type t ty) (λ u. and_then (a scope (suc next))
    (λ x. and_then (b ((name.text, next) ∷ scope) x.next) (λ y.
    numbered_as (core.Let at next u x.what y.what) y.next)))
expr_step t (expr.Match at e cs) scope next =
    and_then (e scope next) (λ x. and_then (in_turn cs scope x.next)
    (λ ds. numbered_as (core.Match at x.what ds.what) ds.next))

-- how an expression is numbered, with its types, functions and constructors by the tables
abbrev pub numbered_expression : Tables → ExprTree → Numbering Expr
numbered_expression t = fold-ExprTree (Numbering Expr) (Numbering Clause) (expr_step t) (clause_step t)

-- Functions and layouts ---------------------------------------------------------------------

-- a parameter, with its type numbered and its variable's number from the scope of all parameters
abbrev pub numbered_param : Tables → Scope → ParamTree → Resolved Param
numbered_param t scope p =
    and_then (numbered_type t p.ty) (λ u. and_then (name_found p.var (meaning scope p.var.text))
    (λ x. Ok (record { at = p.at; var = x; ty = u })))

-- a function, given the scope of its parameters and the number of the binder behind them
abbrev pub function_in_scope : Tables → Scope → ℕ → FunTree → Resolved Fun
function_in_scope t scope next f =
    and_then (all_of (map (numbered_param t scope) f.params)) (λ ps. and_then (numbered_type t f.result) (λ u.
    and_then (numbered_expression t f.body scope next) (λ e.
    Ok (record { name = f.name.text; params = ps; result = u; body = e.what }))))

-- a function: its parameters are its first binders, from number 0 on, and are the scope of its body
abbrev pub numbered_function : Tables → FunTree → Resolved Fun
numbered_function t f =
    function_in_scope t (inside (param_binders f.params) 0 []) (length (param_binders f.params)) f

-- the tree below the `else` of a split as it was numbered, or its fault; none where there is no `else`
abbrev pub numbered_else : Option (Resolved LayTree) → Resolved (Option LayTree)
numbered_else None = Ok None
numbered_else (Some r) = and_then r (λ t. Ok (Some t))

-- a layout's tree of one form, made of its arms and `else` as they were numbered; the scope of a leaf's provenance is
-- empty, since a provenance has no variables
abbrev pub split_step : Tables → SplitTree-F (Resolved LayTree) (Resolved Arm) → Resolved LayTree
split_step t (split.Split loc arms other) =
    and_then (all_of arms) (λ xs. and_then (numbered_else other) (λ o. Ok (core_tree.Split loc xs o)))
split_step t (split.Leaf at prov items) = and_then (numbered_pattern t [] prov) (λ p. Ok (core_tree.Leaf at p items))

-- an arm of a split, made of the tree below it as it was numbered; its literal stays
abbrev pub arm_step : ArmTree-F (Resolved LayTree) (Resolved Arm) → Resolved Arm
arm_step a = and_then a.under (λ u. Ok (record { literal = a.literal; under = u }))

-- a layout's tree of splits, with its leaves' provenances numbered
abbrev pub numbered_split : Tables → SplitTree → Resolved LayTree
numbered_split t = fold-SplitTree (Resolved LayTree) (Resolved Arm) (split_step t) arm_step

-- a written layout, with its type's number and its tree numbered
abbrev pub numbered_layout : Tables → LayoutTree → Resolved LayoutDecl
numbered_layout t l =
    and_then (name_found l.ty (meaning t.types l.ty.text)) (λ n. and_then (numbered_split t l.tree) (λ tree.
    Ok (record { at = l.at; ty = n; shape = l.shape; tree = tree })))
