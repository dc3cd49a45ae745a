-- Worked examples, which the check computes.
use Rattle.std.proofs.Common.{◌≡◌, ℕ, List, [], ◌∷◌, codes, Ok, Err, refl}
use Rattle.rb_core.specs.declared.expression.Op.TheVariants.{Add}
use Rattle.rb_core.specs.declared.types.Ty.TheVariants as core_ty
use Rattle.rb_core.specs.declared.expression.Expr as core
use Rattle.rb_syntax.specs.declared.tree.NameTree.{NameTree}
use Rattle.rb_syntax.specs.declared.tree.TyTree.TheVariants.{Int}
use Rattle.rb_syntax.specs.declared.tree.ClauseTree.{ClauseTree}
use Rattle.rb_syntax.specs.declared.tree.PatTree as pat
use Rattle.rb_syntax.specs.declared.tree.ExprTree.{ExprTree}
use Rattle.rb_syntax.specs.declared.tree.ExprTree as expr
use Rattle.rb_syntax.specs.declared.tree.FunTree.{FunTree}
use Rattle.rb_syntax.specs.declared.tree.ItemTree.{ItemTree}
use Rattle.rb_syntax.specs.declared.tree.ItemTree.TheVariants.{Types, Funs}
use Rattle.rb_names.specs.declared.fault.NameFault.TheVariants.{Twice, Unknown, NoMain}
use Rattle.rb_names.specs.declared.tables.Tables.{Tables}
use Rattle.rb_names.specs.Scopes.{binders_of}
use Rattle.rb_names.specs.Numbering.{numbered_expression}
use Rattle.rb_names.specs.Programs.{program_of}
use Rattle.rb_names.proofs.ExpressionEquations.{expression_rules}

abbrev named : ℕ → List ℕ → NameTree
named at text = record { at = at; text = text }

-- add(let x: u8 = x in x, x) within a parameter x: the inner x hides the outer one behind `in` alone
abbrev hiding : ExprTree
hiding = expr.Binary 10 Add
    (expr.Let 12 (named 13 (codes "x")) (Int 8) (expr.Var 17 (named 17 (codes "x"))) (expr.Var 19 (named 19 (codes "x"))))
    (expr.Var 21 (named 21 (codes "x")))

hiding-numbered : (t : Tables) → numbered_expression t hiding ((codes "x", 0) ∷ []) 1
    ≡ Ok (record { what = core.Binary 10 Add (core.Let 12 1 (core_ty.Int 8) (core.Var 17 0) (core.Var 19 1)) (core.Var 21 0); next = 2 })
hiding-numbered t = simp expression_rules

-- Two(a, a) => f(a): binders of one name in one pattern share a number
abbrev sharing : ClauseTree
sharing = record {
  pat = pat.Con 37 (named 37 (codes "Two")) (pat.Var 39 (named 39 (codes "a")) ∷ pat.Var 41 (named 41 (codes "a")) ∷ []);
  body = expr.Call 44 (named 44 (codes "f")) (expr.Var 46 (named 46 (codes "a")) ∷ []);
}

sharing-names : binders_of sharing.pat ≡ codes "a" ∷ []
sharing-names = simp expression_rules

-- y: a variable that nothing binds
unknown-variable : (t : Tables) → numbered_expression t (expr.Var 7 (named 7 (codes "y"))) ((codes "x", 0) ∷ []) 1 ≡ Err (Unknown (codes "y") 7)
unknown-variable t = simp expression_rules

abbrev constant : ℕ → ExprTree → FunTree
constant at body = record { name = named at (codes "main"); params = []; result = Int 8; body = body }

-- fun main(): u8 = y; fun main(): u8 = 0;
twice-first : program_of (record { items = Funs (constant 1 (expr.Var 7 (named 7 (codes "y")))) ∷ Funs (constant 10 (expr.Num 16 0)) ∷ [] }) ≡ Err (Twice (codes "main") 10)
twice-first = refl

-- type T = A; type S = A;
abbrev two_types : List ItemTree
two_types = Types (record { name = named 1 (codes "T"); cons = record { name = named 3 (codes "A"); fields = [] } ∷ [] })
    ∷ Types (record { name = named 6 (codes "S"); cons = record { name = named 8 (codes "A"); fields = [] } ∷ [] }) ∷ []

constructor-twice : program_of (record { items = two_types }) ≡ Err (Twice (codes "A") 8)
constructor-twice = refl

empty-file : program_of (record { items = [] }) ≡ Err NoMain
empty-file = refl
