-- Why an evaluation ends: a call has fewer calls left, and a part is smaller.
use Rattle.std.proofs.Common.{◌≡◌, ℕ, zero, suc, ◌+◌, ◌-◌, ◌*◌, ◌<◌, ◌≤◌, List, [], ◌∷◌, Some, arith}
use Rattle.std.specs.Prelude.{slice_get, length}
use Rattle.std.proofs.Common.{get_or}
use denote.Param.Weighed.{most}
use Rattle.rb_core.specs.declared.expression.Clause.{Clause, size-Clause}
use Rattle.std.proofs.Common.{rules}
use Rattle.std.proofs.Math.Nat.{mul-le-mul_right}
use Rattle.rb_core.specs.declared.expression.Clause as K
use Rattle.rb_core.specs.declared.expression.Expr as X
use Rattle.rb_core.specs.declared.expression.Expr.{size-Expr}
use Rattle.rb_core.specs.declared.program.Fun.{Fun}
use Rattle.rb_core.specs.declared.program.Program.{Program}

abbrev pub body_sizes : List Fun → ℕ
body_sizes [] = 0
body_sizes (f ∷ fs) = size-Expr f.body + body_sizes fs

-- what one call weighs, in a program whose bodies have these sizes
abbrev pub call_weight : Program → ℕ
call_weight p = 3 * body_sizes p.funs + 5

size_of_body : (fs : List Fun) (g : ℕ) (f : Fun) → Some f ≡ slice_get fs g → size-Expr f.body ≤ body_sizes fs
size_of_body [] g f e = cc
size_of_body (h ∷ fs) zero f e = let same : f ≡ h = cc in rw same (omega arith)
size_of_body (h ∷ fs) (suc g) f e = let below = size_of_body fs g f e in omega arith

pub body_falls : (p : Program) (g : ℕ) (f : Fun) (left : ℕ) → Some f ≡ slice_get p.funs g → 0 < left
    → (left - 1) * call_weight p + (3 * size-Expr f.body + 1) < left * call_weight p
body_falls p g f zero e lt = absurd (omega arith)
body_falls p g f (suc left) e lt =
    let le = size_of_body p.funs g f e in let one : suc left - 1 ≡ left = omega arith in rw one (omega arith)

body_in_clause : (c : Clause) → size-Expr c.body < size-Clause c
body_in_clause c = search (rules, X.the_lemmas, K.the_lemmas)

pub body_in_clauses : (cs : List Clause) (i : ℕ) (c : Clause) → i < length cs → c ≡ get_or cs i c → size-Expr c.body < most size-Clause cs
body_in_clauses [] i c lt e = absurd (omega arith)
body_in_clauses (d ∷ cs) zero c lt e = let same : c ≡ d = e in rw same (let own = body_in_clause d in omega arith)
body_in_clauses (d ∷ cs) (suc i) c lt e = let below = body_in_clauses cs i c (omega arith) e in omega arith

-- with no more calls left, something smaller weighs less
pub less_left : (weight left calls n m : ℕ) → left ≤ calls → n < m → left * weight + n < calls * weight + m
less_left weight left calls n m le lt = let below : left * weight ≤ calls * weight = mul-le-mul_right weight le in omega arith
