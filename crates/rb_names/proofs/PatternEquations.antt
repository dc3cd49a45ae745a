-- Patterns, form by form.
use Rattle.std.proofs.Common.{◌≡◌, ℕ, List, map}
use Rattle.rb_core.specs.declared.pattern.Pat.{Pat}
use Rattle.rb_syntax.specs.declared.tree.NameTree.{NameTree}
use Rattle.rb_syntax.specs.declared.tree.PatTree.{PatTree}
use Rattle.rb_syntax.specs.declared.tree.PatTree as P
use Rattle.rb_syntax.specs.declared.tree.PatTree.TheOpen as pat
use Rattle.rb_syntax.specs.declared.tree.PatTree.TheFolds.{fold-roll-PatTree}
use Rattle.rb_names.specs.declared.tables.Tables.{Tables}
use Rattle.rb_names.specs.Tables.{Name}
use Rattle.rb_names.specs.Scopes.{Scope, names_step, names_in}
use Rattle.rb_names.specs.Numbering.{Resolved, pattern_step, numbered_pattern}

pub names-Wild : (at : ℕ) → names_in (P.Wild at) ≡ names_step (pat.Wild at)
unfolding P.roll-PatTree denote.Hole.Carrier.roll
names-Wild at = fold-roll-PatTree (List Name) names_step (pat.Wild at)

pub names-Var : (at : ℕ) (name : NameTree) → names_in (P.Var at name) ≡ names_step (pat.Var at name)
unfolding P.roll-PatTree denote.Hole.Carrier.roll
names-Var at name = fold-roll-PatTree (List Name) names_step (pat.Var at name)

pub names-Num : (at n : ℕ) → names_in (P.Num at n) ≡ names_step (pat.Num at n)
unfolding P.roll-PatTree denote.Hole.Carrier.roll
names-Num at n = fold-roll-PatTree (List Name) names_step (pat.Num at n)

pub names-Con : (at : ℕ) (name : NameTree) (ps : List PatTree) → names_in (P.Con at name ps) ≡ names_step (pat.Con at name (map names_in ps))
unfolding P.roll-PatTree denote.Hole.Carrier.roll
names-Con at name ps = fold-roll-PatTree (List Name) names_step (pat.Con at name ps)

module _ (t : Tables) (scope : Scope) where
  pub pattern-Wild : (at : ℕ) → numbered_pattern t scope (P.Wild at) ≡ pattern_step t scope (pat.Wild at)
  unfolding P.roll-PatTree denote.Hole.Carrier.roll
  pattern-Wild at = fold-roll-PatTree (Resolved Pat) (pattern_step t scope) (pat.Wild at)

  pub pattern-Var : (at : ℕ) (name : NameTree) → numbered_pattern t scope (P.Var at name) ≡ pattern_step t scope (pat.Var at name)
  unfolding P.roll-PatTree denote.Hole.Carrier.roll
  pattern-Var at name = fold-roll-PatTree (Resolved Pat) (pattern_step t scope) (pat.Var at name)

  pub pattern-Num : (at n : ℕ) → numbered_pattern t scope (P.Num at n) ≡ pattern_step t scope (pat.Num at n)
  unfolding P.roll-PatTree denote.Hole.Carrier.roll
  pattern-Num at n = fold-roll-PatTree (Resolved Pat) (pattern_step t scope) (pat.Num at n)

  pub pattern-Con : (at : ℕ) (name : NameTree) (ps : List PatTree) → numbered_pattern t scope (P.Con at name ps) ≡ pattern_step t scope (pat.Con at name (map (numbered_pattern t scope) ps))
  unfolding P.roll-PatTree denote.Hole.Carrier.roll
  pattern-Con at name ps = fold-roll-PatTree (Resolved Pat) (pattern_step t scope) (pat.Con at name ps)
