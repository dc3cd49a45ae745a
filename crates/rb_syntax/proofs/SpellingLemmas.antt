-- Spelling, form by form: how a tree is written, from how its parts are.
use Rattle.std.proofs.Common.{◌≡◌, ℕ, List, map, Some, None, ap}
use Rattle.rb_core.specs.declared.expression.Op.{Op}
use Rattle.rb_syntax.specs.declared.tree.NameTree.{NameTree}
use Rattle.rb_syntax.specs.declared.tree.TyTree.{TyTree}
use Rattle.rb_syntax.specs.declared.tree.PatTree.{PatTree}
use Rattle.rb_syntax.specs.declared.tree.PatTree as P
use Rattle.rb_syntax.specs.declared.tree.PatTree.TheOpen as pat
use Rattle.rb_syntax.specs.declared.tree.PatTree.TheFolds.{fold-roll-PatTree}
use Rattle.rb_syntax.specs.declared.tree.ClauseTree.{ClauseTree}
use Rattle.rb_syntax.specs.declared.tree.ExprTree.{ExprTree}
use Rattle.rb_syntax.specs.declared.tree.ExprTree as X
use Rattle.rb_syntax.specs.declared.tree.ExprTree.TheOpen as expr
use Rattle.rb_syntax.specs.declared.tree.ExprTree.TheFolds.{fold-roll-ExprTree, fold_out-ClauseTree}
use Rattle.rb_core.specs.declared.layout_decl.Loc.{Loc}
use Rattle.rb_core.specs.declared.layout_decl.LayItem.{LayItem}
use Rattle.rb_syntax.specs.declared.tree.SplitTree.{SplitTree}
use Rattle.rb_syntax.specs.declared.tree.SplitTree as S
use Rattle.rb_syntax.specs.declared.tree.SplitTree.TheOpen as split
use Rattle.rb_syntax.specs.declared.tree.SplitTree.TheFolds.{fold-roll-SplitTree, fold_out-ArmTree}
use Rattle.rb_syntax.specs.declared.tree.ArmTree.{ArmTree}
use Rattle.rb_syntax.specs.Written.{Written}
use Rattle.rb_syntax.specs.Spelling.{Deep, pat_step, pat_written, expr_step, clause_step, expr_written, clause_written, split_step, arm_step, split_written, arm_written}

pub pat-Wild : (at : ℕ) (l : ℕ) (rest : List Written) → pat_written (P.Wild at) l rest ≡ pat_step (pat.Wild at) l rest
unfolding P.roll-PatTree denote.Hole.Carrier.roll
pat-Wild at l rest = ap (λ (w : Deep). w l rest) (fold-roll-PatTree Deep pat_step (pat.Wild at))

pub pat-Var : (at : ℕ) (name : NameTree) (l : ℕ) (rest : List Written) → pat_written (P.Var at name) l rest ≡ pat_step (pat.Var at name) l rest
unfolding P.roll-PatTree denote.Hole.Carrier.roll
pat-Var at name l rest = ap (λ (w : Deep). w l rest) (fold-roll-PatTree Deep pat_step (pat.Var at name))

pub pat-Num : (at n : ℕ) (l : ℕ) (rest : List Written) → pat_written (P.Num at n) l rest ≡ pat_step (pat.Num at n) l rest
unfolding P.roll-PatTree denote.Hole.Carrier.roll
pat-Num at n l rest = ap (λ (w : Deep). w l rest) (fold-roll-PatTree Deep pat_step (pat.Num at n))

pub pat-Con : (at : ℕ) (name : NameTree) (ps : List PatTree) (l : ℕ) (rest : List Written) → pat_written (P.Con at name ps) l rest ≡ pat_step (pat.Con at name (map pat_written ps)) l rest
unfolding P.roll-PatTree denote.Hole.Carrier.roll
pat-Con at name ps l rest = ap (λ (w : Deep). w l rest) (fold-roll-PatTree Deep pat_step (pat.Con at name ps))

pub clause-is : (c : ClauseTree) (l : ℕ) (rest : List Written) → clause_written c l rest ≡ clause_step (record { pat = c.pat; body = expr_written c.body }) l rest
clause-is c l rest = ap (λ (w : Deep). w l rest) (fold_out-ClauseTree Deep Deep expr_step clause_step c)

pub expr-Num : (at n : ℕ) (l : ℕ) (rest : List Written) → expr_written (X.Num at n) l rest ≡ expr_step (expr.Num at n) l rest
unfolding X.roll-ExprTree denote.Hole.Carrier.roll
expr-Num at n l rest = ap (λ (w : Deep). w l rest) (fold-roll-ExprTree Deep Deep expr_step clause_step (expr.Num at n))

pub expr-Var : (at : ℕ) (name : NameTree) (l : ℕ) (rest : List Written) → expr_written (X.Var at name) l rest ≡ expr_step (expr.Var at name) l rest
unfolding X.roll-ExprTree denote.Hole.Carrier.roll
expr-Var at name l rest = ap (λ (w : Deep). w l rest) (fold-roll-ExprTree Deep Deep expr_step clause_step (expr.Var at name))

pub expr-Call : (at : ℕ) (name : NameTree) (es : List ExprTree) (l : ℕ) (rest : List Written) → expr_written (X.Call at name es) l rest ≡ expr_step (expr.Call at name (map expr_written es)) l rest
unfolding X.roll-ExprTree denote.Hole.Carrier.roll
expr-Call at name es l rest = ap (λ (w : Deep). w l rest) (fold-roll-ExprTree Deep Deep expr_step clause_step (expr.Call at name es))

pub expr-Build : (at : ℕ) (name : NameTree) (es : List ExprTree) (l : ℕ) (rest : List Written) → expr_written (X.Build at name es) l rest ≡ expr_step (expr.Build at name (map expr_written es)) l rest
unfolding X.roll-ExprTree denote.Hole.Carrier.roll
expr-Build at name es l rest = ap (λ (w : Deep). w l rest) (fold-roll-ExprTree Deep Deep expr_step clause_step (expr.Build at name es))

pub expr-Binary : (at : ℕ) (op : Op) (a b : ExprTree) (l : ℕ) (rest : List Written) → expr_written (X.Binary at op a b) l rest ≡ expr_step (expr.Binary at op (expr_written a) (expr_written b)) l rest
unfolding X.roll-ExprTree denote.Hole.Carrier.roll
expr-Binary at op a b l rest = ap (λ (w : Deep). w l rest) (fold-roll-ExprTree Deep Deep expr_step clause_step (expr.Binary at op a b))

pub expr-To : (at bits : ℕ) (a : ExprTree) (l : ℕ) (rest : List Written) → expr_written (X.To at bits a) l rest ≡ expr_step (expr.To at bits (expr_written a)) l rest
unfolding X.roll-ExprTree denote.Hole.Carrier.roll
expr-To at bits a l rest = ap (λ (w : Deep). w l rest) (fold-roll-ExprTree Deep Deep expr_step clause_step (expr.To at bits a))

pub expr-Let : (at : ℕ) (name : NameTree) (t : TyTree) (a b : ExprTree) (l : ℕ) (rest : List Written) → expr_written (X.Let at name t a b) l rest ≡ expr_step (expr.Let at name t (expr_written a) (expr_written b)) l rest
unfolding X.roll-ExprTree denote.Hole.Carrier.roll
expr-Let at name t a b l rest = ap (λ (w : Deep). w l rest) (fold-roll-ExprTree Deep Deep expr_step clause_step (expr.Let at name t a b))

pub expr-Match : (at : ℕ) (e : ExprTree) (cs : List ClauseTree) (l : ℕ) (rest : List Written) → expr_written (X.Match at e cs) l rest ≡ expr_step (expr.Match at (expr_written e) (map clause_written cs)) l rest
unfolding X.roll-ExprTree denote.Hole.Carrier.roll
expr-Match at e cs l rest = ap (λ (w : Deep). w l rest) (fold-roll-ExprTree Deep Deep expr_step clause_step (expr.Match at e cs))

pub arm-is : (a : ArmTree) (l : ℕ) (rest : List Written) → arm_written a l rest ≡ arm_step (record { literal = a.literal; under = split_written a.under }) l rest
arm-is a l rest = ap (λ (w : Deep). w l rest) (fold_out-ArmTree Deep Deep split_step arm_step a)

pub split-Leaf : (at : ℕ) (prov : PatTree) (items : List LayItem) (l : ℕ) (rest : List Written)
    → split_written (S.Leaf at prov items) l rest ≡ split_step (split.Leaf at prov items) l rest
unfolding S.roll-SplitTree denote.Hole.Carrier.roll
split-Leaf at prov items l rest = ap (λ (w : Deep). w l rest) (fold-roll-SplitTree Deep Deep split_step arm_step (split.Leaf at prov items))

pub split-None : (loc : Loc) (arms : List ArmTree) (l : ℕ) (rest : List Written)
    → split_written (S.Split loc arms None) l rest ≡ split_step (split.Split loc (map arm_written arms) None) l rest
unfolding S.roll-SplitTree denote.Hole.Carrier.roll
split-None loc arms l rest = ap (λ (w : Deep). w l rest) (fold-roll-SplitTree Deep Deep split_step arm_step (split.Split loc arms None))

pub split-Some : (loc : Loc) (arms : List ArmTree) (other : SplitTree) (l : ℕ) (rest : List Written)
    → split_written (S.Split loc arms (Some other)) l rest ≡ split_step (split.Split loc (map arm_written arms) (Some (split_written other))) l rest
unfolding S.roll-SplitTree denote.Hole.Carrier.roll
split-Some loc arms other l rest = ap (λ (w : Deep). w l rest) (fold-roll-SplitTree Deep Deep split_step arm_step (split.Split loc arms (Some other)))

pub ruleset split_rules = (arm-is, split-Leaf, split-None, split-Some)

pub ruleset expr_rules = (pat-Wild, pat-Var, pat-Num, pat-Con, clause-is, expr-Num, expr-Var, expr-Call, expr-Build, expr-Binary, expr-To, expr-Let, expr-Match)
