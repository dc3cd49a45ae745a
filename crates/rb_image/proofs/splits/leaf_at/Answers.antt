use Rattle.std.proofs.Common.{Some, None, sym, ap, ◌∙◌}
use Rattle.std.specs.Option.{option_copied}
use Rattle.rb_coding.specs.Arms.{under_number}
use Rattle.rb_coding.proofs.SplitLemmas.{fewer}
use Rattle.rb_image.specs.Splits.{range_at}
use Rattle.rb_image.proofs.WalkLemmas.{leaf_walk, split_turn}
use Rattle.rb_image.proofs.splits.leaf_at.Goals as goal

pub returns-in-Leaf : goal.returns-in-Leaf
returns-in-Leaf c = sym (c.loop-tree.invariant ∙ leaf_walk c.loop-tree.tree.now _ c.args.memory.now c.args.words.now c.in-Leaf.is)

pub loop-tree-smaller : goal.loop-tree-smaller
loop-tree-smaller c =
    let n = c.in_ok-range-in-Split.range.number in
    let under = ap option_copied (sym c.in-Some.is) ∙ c.under.ensures ∙ ap (λ arms. under_number arms c.in-Split.other n) c.as_slice.ensures in
    fewer c.loop-tree.tree.now c.in-Split.loc c.in-Split.arms c.in-Split.other n c.in-Some.next.now c.in-Split.is under

pub loop-tree-preserved : goal.loop-tree-preserved
loop-tree-preserved c =
    let range = c.in_ok-range-in-Split.range in
    let under = ap option_copied (sym c.in-Some.is) ∙ c.under.ensures ∙ ap (λ arms. under_number arms c.in-Split.other range.number) c.as_slice.ensures in
    c.loop-tree.invariant ∙ split_turn c.loop-tree.tree.now c.in-Split.loc c.in-Split.arms c.in-Split.other c.args.memory.now c.args.words.now range (Some c.in-Some.next.now) c.in-Split.is
    (sym {b = range_at c.args.memory.now c.args.words.now c.in-Split.loc} c.in_ok-range-in-Split.ensures) under

pub returns-in-None : goal.returns-in-None
returns-in-None c =
    let range = c.in_ok-range-in-Split.range in
    let under = ap option_copied (sym c.in-None.is) ∙ c.under.ensures ∙ ap (λ arms. under_number arms c.in-Split.other range.number) c.as_slice.ensures in
    sym (c.loop-tree.invariant ∙ split_turn c.loop-tree.tree.now c.in-Split.loc c.in-Split.arms c.in-Split.other c.args.memory.now c.args.words.now range None c.in-Split.is
    (sym {b = range_at c.args.memory.now c.args.words.now c.in-Split.loc} c.in_ok-range-in-Split.ensures) under)
