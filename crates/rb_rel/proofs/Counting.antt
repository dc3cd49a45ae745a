-- The numbers of switches, form by form.
use Rattle.std.proofs.Common.{◌≡◌, ℕ, map, List, Some, None}
use Rattle.rb_core.specs.declared.layout_decl.Loc.{Loc}
use Rattle.rb_core.specs.declared.types.ConRef.{ConRef}
use Rattle.rb_core.specs.declared.pattern.Pat.{Pat, Wild, Con}
use Rattle.rb_core.specs.declared.pattern.Pat.TheOpen as P
use Rattle.rb_core.proofs.PatternLaws as Q
use Rattle.rb_layout.specs.declared.layout.FlatTree.{FlatTree, Split, Leaf}
use Rattle.rb_layout.specs.declared.layout.FlatTree.TheOpen as T
use Rattle.rb_layout.specs.declared.layout.FlatTree.TheFolds.{fold-FlatArm, fold-roll-FlatArm}
use Rattle.rb_layout.specs.declared.layout.FlatArm.{FlatArm}
use Rattle.rb_layout.proofs.FlatForms as F
use Rattle.rb_rel.specs.Switches.{HeadAt, heads_step, heads_of, nesting_step, nesting_arm, nesting}

pub heads-Wild : (at : ℕ) → heads_of (Wild at) ≡ heads_step (P.Wild at)
heads-Wild at = Q.fold-Wild (List HeadAt) heads_step at

pub heads-Con : (at : ℕ) (c : ConRef) (ps : List Pat) → heads_of (Con at c ps) ≡ heads_step (P.Con at c (map heads_of ps))
heads-Con at c ps = Q.fold-Con (List HeadAt) heads_step at c ps

abbrev under : FlatArm → ℕ
under = fold-FlatArm ℕ ℕ nesting_step nesting_arm

pub nesting-arm : (literal : ℕ) (tree : FlatTree) → under (record { literal = literal; under = tree }) ≡ nesting tree
unfolding denote.Hole.Carrier.roll
nesting-arm literal tree = fold-roll-FlatArm ℕ ℕ nesting_step nesting_arm (record { literal = literal; under = tree })

pub nesting-Leaf : (n : ℕ) → nesting (Leaf n) ≡ 0
nesting-Leaf n = F.fold-Leaf ℕ ℕ nesting_step nesting_arm n

pub nesting-Split : (loc : Loc) (arms : List FlatArm) → nesting (Split loc arms None) ≡ nesting_step (T.Split loc (map under arms) None)
nesting-Split loc arms = F.fold-Split ℕ ℕ nesting_step nesting_arm loc arms

pub nesting-else : (loc : Loc) (arms : List FlatArm) (other : FlatTree) → nesting (Split loc arms (Some other)) ≡ nesting_step (T.Split loc (map under arms) (Some (nesting other)))
nesting-else loc arms other = F.fold-Split-else ℕ ℕ nesting_step nesting_arm loc arms other

pub ruleset switch_rules = (heads-Wild, heads-Con, nesting-arm, nesting-Leaf, nesting-Split, nesting-else)
