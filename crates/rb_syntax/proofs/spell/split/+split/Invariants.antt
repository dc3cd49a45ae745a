use Rattle.std.proofs.Common.{◌≡◌, ◌+◌, ◌*◌, ℕ, List, map, drop, reverse}
use denote.Param.Weighed.{most}
use Rattle.rb_syntax.specs.declared.tree.SplitTree.{size-SplitTree}
use Rattle.rb_syntax.specs.declared.tree.ArmTree.{size-ArmTree}
use Rattle.rb_syntax.specs.Written.{Written, tokens_in, each}
use Rattle.rb_syntax.specs.Spelling.{arm_written, at_level}
use Rattle.rb_syntax.proofs.spell.split.+split.Given as goal

abbrev pub decreases-put_split : goal.decreases-put_split
decreases-put_split l = 4 * size-SplitTree l.tree.now + 1

abbrev pub decreases-put_else : goal.decreases-put_else
decreases-put_else l = 4 * size-SplitTree l.tree.now + 2

abbrev pub decreases-put_arms : goal.decreases-put_arms
decreases-put_arms l = 4 * most size-ArmTree l.arms.now + 2

abbrev pub decreases-put_arm : goal.decreases-put_arm
decreases-put_arm l = 4 * size-ArmTree l.arm.now + 1

-- the arms from i on are written
abbrev pub invariant-put_arms-loop-i : goal.invariant-put_arms-loop-i
invariant-put_arms-loop-i l = (level : ℕ) (rest : List Written) → reverse l.initial.out.items ≡ tokens_in rest
    → reverse l.out.items ≡ tokens_in (each (at_level level (map arm_written (drop l.i l.arms))) rest)
