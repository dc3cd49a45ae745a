-- Matching, form by form: what a pattern matches and binds, from what its subpatterns do.
use Rattle.std.proofs.Common.{◌≡◌, ℕ, List, Bool, map, ap}
use Rattle.rb_core.specs.declared.value.Value.{Value}
use Rattle.rb_core.specs.declared.types.ConRef.{ConRef}
use Rattle.rb_core.specs.declared.binding.Binding.{Binding}
use Rattle.rb_core.specs.declared.pattern.Pat.{Pat}
use Rattle.rb_core.specs.declared.pattern.Pat as Q
use Rattle.rb_core.specs.declared.pattern.Pat.TheOpen as P
use Rattle.rb_core.specs.Matching.{matches_of, matches_step, bindings, bindings_step}
use Rattle.rb_core.proofs.PatternLaws.{fold-Wild, fold-Var, fold-Num, fold-Con}

module _ (v : Value) where
  abbrev tested : (Value → Bool) → Bool
  tested m = m v

  pub matches-Wild : (at : ℕ) → matches_of (Q.Wild at) v ≡ matches_step (P.Wild at) v
  matches-Wild at = ap tested (fold-Wild (Value → Bool) matches_step at)

  pub matches-Var : (at x : ℕ) → matches_of (Q.Var at x) v ≡ matches_step (P.Var at x) v
  matches-Var at x = ap tested (fold-Var (Value → Bool) matches_step at x)

  pub matches-Num : (at n : ℕ) → matches_of (Q.Num at n) v ≡ matches_step (P.Num at n) v
  matches-Num at n = ap tested (fold-Num (Value → Bool) matches_step at n)

  pub matches-Con : (at : ℕ) (c : ConRef) (ps : List Pat) → matches_of (Q.Con at c ps) v ≡ matches_step (P.Con at c (map matches_of ps)) v
  matches-Con at c ps = ap tested (fold-Con (Value → Bool) matches_step at c ps)

  abbrev bound : (Value → List Binding) → List Binding
  bound b = b v

  pub bindings-Wild : (at : ℕ) → bindings (Q.Wild at) v ≡ bindings_step (P.Wild at) v
  bindings-Wild at = ap bound (fold-Wild (Value → List Binding) bindings_step at)

  pub bindings-Var : (at x : ℕ) → bindings (Q.Var at x) v ≡ bindings_step (P.Var at x) v
  bindings-Var at x = ap bound (fold-Var (Value → List Binding) bindings_step at x)

  pub bindings-Num : (at n : ℕ) → bindings (Q.Num at n) v ≡ bindings_step (P.Num at n) v
  bindings-Num at n = ap bound (fold-Num (Value → List Binding) bindings_step at n)

  pub bindings-Con : (at : ℕ) (c : ConRef) (ps : List Pat) → bindings (Q.Con at c ps) v ≡ bindings_step (P.Con at c (map bindings ps)) v
  bindings-Con at c ps = ap bound (fold-Con (Value → List Binding) bindings_step at c ps)

pub ruleset matching_rules = (matches-Wild, matches-Var, matches-Num, matches-Con, bindings-Wild, bindings-Var, bindings-Num, bindings-Con)
