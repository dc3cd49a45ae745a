use Rattle.std.proofs.Common.{Some, None, map, sym, ap, ◌∙◌, arith}
use Rattle.std.specs.Option.{option_copied}
use Rattle.rb_coding.specs.Arms.{under_number}
use Rattle.rb_coding.proofs.SplitLemmas.{fewer}
use Rattle.rb_image.specs.Sites.{kept_of}
use Rattle.rb_image.proofs.TreeSpans.{span_below, span_here}
use Rattle.rb_image.proofs.WalkLemmas.{split_turn}
use Rattle.rb_image.proofs.leaf.read_leaf.Goals as goal

pub returns-in-None-clause-leaf : goal.returns-in-None-clause-leaf
returns-in-None-clause-leaf g c =
    let range = c.in_ok-range-in-Split.range in
    let words = map (kept_of c.args.image.now) c.args.sites.now in
    let under = ap option_copied (sym c.in-None.is) ∙ c.under.ensures ∙ ap (λ arms. under_number arms c.in-Split.other range.number) c.as_slice.ensures in
    sym (c.loop-tree.invariant.leaf ∙ split_turn c.loop-tree.tree.now c.in-Split.loc c.in-Split.arms c.in-Split.other c.args.image.now.blocks words range None c.in-Split.is
    (sym c.in_ok-range-in-Split.ensures.bits) under)

pub returns-in-None-clause-most : goal.returns-in-None-clause-most
returns-in-None-clause-most g c =
    let here = span_here c.loop-tree.tree.now c.in-Split.loc c.in-Split.arms c.in-Split.other c.in-Split.is in
    let most = c.loop-tree.invariant.most in
    let read = c.read_range.ensures.most in
    omega (arith, here, most, read)

pub loop-tree-smaller : goal.loop-tree-smaller
loop-tree-smaller g c =
    let n = c.in_ok-range-in-Split.range.number in
    let under = ap option_copied (sym c.in-Some.is) ∙ c.under.ensures ∙ ap (λ arms. under_number arms c.in-Split.other n) c.as_slice.ensures in
    fewer c.loop-tree.tree.now c.in-Split.loc c.in-Split.arms c.in-Split.other n c.in-Some.next.now c.in-Split.is under

pub loop-tree-preserved : goal.loop-tree-preserved
loop-tree-preserved g c =
    let range = c.in_ok-range-in-Split.range in
    let words = map (kept_of c.args.image.now) c.args.sites.now in
    let under = ap option_copied (sym c.in-Some.is) ∙ c.under.ensures ∙ ap (λ arms. under_number arms c.in-Split.other range.number) c.as_slice.ensures in
    let below = span_below c.loop-tree.tree.now c.in-Split.loc c.in-Split.arms c.in-Split.other range.number c.in-Some.next.now c.in-Split.is under in
    let least = c.loop-tree.invariant.least in
    let most = c.loop-tree.invariant.most in
    let read_least = c.read_range.ensures.least in
    let read_most = c.read_range.ensures.most in
    record {
      leaf = c.loop-tree.invariant.leaf ∙ split_turn c.loop-tree.tree.now c.in-Split.loc c.in-Split.arms c.in-Split.other c.args.image.now.blocks words range (Some c.in-Some.next.now) c.in-Split.is
          (sym c.in_ok-range-in-Split.ensures.bits) under;
      least = omega (arith, least, read_least);
      most = omega (arith, below, most, read_most);
    }
