use Rattle.std.proofs.Common.{◌≡◌, ◌∷◌, ◌∙◌, ◌-◌, suc, List, map, drop, arith, ap}
use Rattle.rb_syntax.specs.declared.tree.ArmTree.{ArmTree}
use Rattle.rb_syntax.specs.declared.token.Symbol.TheVariants as symbol
use Rattle.rb_syntax.specs.declared.tree.SplitTree.{SplitTree}
use Rattle.rb_syntax.specs.declared.tree.SplitTree.TheOpen as split
use Rattle.rb_syntax.specs.Written.{tokens_in, each}
use Rattle.rb_syntax.specs.Spelling.{loc_written, split_step, split_written, arm_written, at_level, sym}
use Rattle.rb_syntax.proofs.SpellingLemmas.{arm-is, split-Leaf}
use Rattle.rb_syntax.proofs.ListLemmas.{part-left}
use Rattle.rb_syntax.proofs.spell.split.+split.Goals as goal

pub put_split-returns-in_ok-put_leaf-in-Leaf : goal.put_split-returns-in_ok-put_leaf-in-Leaf
put_split-returns-in_ok-put_leaf-in-Leaf t c l rest h =
    let e : split_written c.args.tree.now l rest ≡ split_step (split.Leaf c.in-Leaf.field-0 c.in-Leaf.prov c.in-Leaf.items) l rest =
    ap (λ (tree : SplitTree). split_written tree l rest) c.in-Leaf.is ∙ split-Leaf c.in-Leaf.field-0 c.in-Leaf.prov c.in-Leaf.items l rest in
    rw e (rw (← c.as_slice-in-Leaf.ensures) (c.in_ok-put_leaf-in-Leaf.ensures (suc l) rest h))

pub put_else-returns : goal.put_else-returns
put_else-returns t c l rest h =
    let closed = sym symbol.CloseBrace ∷ rest in
    let tree = split_written c.args.tree.now l closed in
    c.in_ok-put_word.ensures (sym symbol.FatArrow ∷ tree) (c.in_ok-put_symbol-2.ensures tree
    (c.in_ok-put_split.ensures l closed (c.in_ok-put_symbol.ensures rest h)))

pub put_arms-loop-i-preserved : goal.put_arms-loop-i-preserved
put_arms-loop-i-preserved t c l rest h =
    let next : c.loop-i.i ≡ suc (c.loop-i.i - 1) = omega arith in
    c.in_ok-put_arm.ensures l (each (at_level l (map arm_written (drop c.loop-i.i c.args.arms.now))) rest) (c.loop-i.invariant l rest h)
    ∙ ap (λ (arms : List ArmTree). tokens_in (each (at_level l (map arm_written arms)) rest))
    (part-left c.args.arms.now (c.loop-i.i - 1) c.loop-i.i c.index-arms-i.result next (omega arith) c.index-arms-i.is)

pub put_arms-returns : goal.put_arms-returns
put_arms-returns t c l rest h =
    let z : c.loop-i.i ≡ 0 = omega arith in
    let arms = each (at_level l (map arm_written (drop c.loop-i.i c.args.arms.now))) rest in
    let all = c.in_ok-put_word.ensures (loc_written c.args.loc.now (sym symbol.OpenBrace ∷ arms))
    (c.in_ok-put_loc.ensures (sym symbol.OpenBrace ∷ arms) (c.in_ok-put_symbol.ensures arms (c.loop-i.invariant l rest h))) in
    rw z at all

pub put_arm-returns : goal.put_arm-returns
put_arm-returns t c l rest h =
    let under = split_written c.args.arm.now.under l rest in
    let all = c.in_ok-put_num.ensures (sym symbol.FatArrow ∷ under) (c.in_ok-put_symbol.ensures under (c.in_ok-put_split.ensures l rest h)) in
    rw (arm-is c.args.arm.now l rest) all
