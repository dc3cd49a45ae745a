-- The matches of an expression at an example, computed.
use Rattle.std.proofs.Common.{◌≡◌, List, [], ◌∷◌}
use Rattle.rb_core.specs.declared.types.Ty.TheVariants.{Int, Named}
use Rattle.rb_core.specs.declared.types.ConRef.{ConRef}
use Rattle.rb_core.specs.declared.types.DataDecl.{DataDecl}
use Rattle.rb_core.specs.declared.typing.Binder.{Binder}
use Rattle.rb_core.specs.declared.pattern.Pat as Q
use Rattle.rb_core.specs.declared.expression.Expr as X
use Rattle.rb_core.specs.Coverage.{sites}
use Rattle.rb_core.proofs.CoverageForms.{site_rules}
use Rattle.rb_core.proofs.InferenceForms.{inferred-Var}
use Rattle.rb_core.proofs.InferenceAgreement.{binders-Var, binders-Wild, binders-Con}

abbrev l_of_list : List Binder
l_of_list = record { var = 0; ty = Named 1 } ∷ []

abbrev lists : List DataDecl
lists = record { name = []; cons = [] } ∷ record { name = []; cons = record { name = []; fields = [] } ∷ record { name = []; fields = Int 64 ∷ Named 1 ∷ [] } ∷ [] } ∷ []

abbrev cons : ConRef
cons = record { ty = 1; con = 1 }

-- match l { Cons(h, r) => match h { n => n }, m => l }: the inner match is at u64
matches_in_order : sites lists [] (X.Match 20 (X.Var 21 0)
    (record { pat = Q.Con 23 cons (Q.Var 25 1 ∷ Q.Var 27 2 ∷ []); body = X.Match 30 (X.Var 31 1) (record { pat = Q.Var 33 3; body = X.Var 35 3 } ∷ []) }
    ∷ record { pat = Q.Wild 38; body = X.Var 40 0 } ∷ [])) l_of_list
    ≡ record { at = 20; scrutinee = Named 1; patterns = Q.Con 23 cons (Q.Var 25 1 ∷ Q.Var 27 2 ∷ []) ∷ Q.Wild 38 ∷ [] }
    ∷ record { at = 30; scrutinee = Int 64; patterns = Q.Var 33 3 ∷ [] } ∷ []
matches_in_order = simp (site_rules, inferred-Var, binders-Var, binders-Wild, binders-Con)
