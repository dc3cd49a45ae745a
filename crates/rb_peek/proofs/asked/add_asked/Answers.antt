use Rattle.std.proofs.Common.{◌++◌, Some, None, sym, ap, ◌∙◌, append-nil}
use Rattle.std.specs.Option.{option_copied}
use Rattle.rb_coding.specs.Arms.{under_number}
use Rattle.rb_coding.proofs.SplitLemmas.{fewer}
use Rattle.rb_peek.specs.Asked.{asked_by}
use Rattle.rb_peek.proofs.AskedLemmas.{turn_asked, turn_stopped}
use Rattle.rb_peek.proofs.asked.add_asked.Goals as goal

pub returns-in-None : goal.returns-in-None
returns-in-None c =
    turn_stopped c.loop-tree.tree.now c.in-Split.loc c.in-Split.arms c.in-Split.other c.args.memory.now c.args.words.now c.in-Split.is c.loop-tree.found.items c.add_ranges.new.found.items
    (c.args.found.now.items ++ asked_by c.args.tree.now c.args.memory.now c.args.words.now) c.in_ok-add_ranges-in-Split.ensures.added c.loop-tree.invariant
    c.in_ok-add_ranges-in-Split.field-0 c.in_ok-add_ranges-in-Split.ensures.range c.in-None.is

pub returns-in-None-under : goal.returns-in-None-under
returns-in-None-under c =
    let range = c.in-Some.range in
    let under = ap option_copied (sym c.in-None-under.is) ∙ c.under.ensures ∙ ap (λ arms. under_number arms c.in-Split.other range.number) c.as_slice.ensures in
    sym (append-nil c.add_ranges.new.found.items)
    ∙ turn_asked c.loop-tree.tree.now c.in-Split.loc c.in-Split.arms c.in-Split.other c.args.memory.now c.args.words.now c.in-Split.is c.loop-tree.found.items c.add_ranges.new.found.items
    (c.args.found.now.items ++ asked_by c.args.tree.now c.args.memory.now c.args.words.now) c.in_ok-add_ranges-in-Split.ensures.added c.loop-tree.invariant
    c.in_ok-add_ranges-in-Split.field-0 range None c.in_ok-add_ranges-in-Split.ensures.range c.in-Some.is under

pub loop-tree-smaller : goal.loop-tree-smaller
loop-tree-smaller c =
    let n = c.in-Some.range.number in
    let under = ap option_copied (sym c.in-Some-under.is) ∙ c.under.ensures ∙ ap (λ arms. under_number arms c.in-Split.other n) c.as_slice.ensures in
    fewer c.loop-tree.tree.now c.in-Split.loc c.in-Split.arms c.in-Split.other n c.in-Some-under.next.now c.in-Split.is under

pub loop-tree-preserved : goal.loop-tree-preserved
loop-tree-preserved c =
    let range = c.in-Some.range in
    let under = ap option_copied (sym c.in-Some-under.is) ∙ c.under.ensures ∙ ap (λ arms. under_number arms c.in-Split.other range.number) c.as_slice.ensures in
    turn_asked c.loop-tree.tree.now c.in-Split.loc c.in-Split.arms c.in-Split.other c.args.memory.now c.args.words.now c.in-Split.is c.loop-tree.found.items c.add_ranges.new.found.items
    (c.args.found.now.items ++ asked_by c.args.tree.now c.args.memory.now c.args.words.now) c.in_ok-add_ranges-in-Split.ensures.added c.loop-tree.invariant
    c.in_ok-add_ranges-in-Split.field-0 range (Some c.in-Some-under.next.now) c.in_ok-add_ranges-in-Split.ensures.range c.in-Some.is under
