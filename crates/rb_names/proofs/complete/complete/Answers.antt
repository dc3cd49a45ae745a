use Rattle.std.proofs.Common.{IfOk, ◌∙◌}
use Rattle.rb_names.specs.Completing.{IsCompleted}
use Rattle.rb_names.proofs.CompletingLemmas.{answer-completed, answer-well, answer-whole}
use Rattle.rb_names.proofs.complete.complete.Goals as goal

pub returns-clause-whole : goal.returns-clause-whole
returns-clause-whole c =
    let done : IfOk c.with_derived.result (IsCompleted c.args.tree.now c.args.program) =
    answer-completed c.args.tree.now c.args.program c.with_derived.result c.as_slice.result.now c.as_slice-2.result.now c.in_ok-derived.derived
    (c.as_slice.ensures ∙ c.in_ok-kinds.ensures) (c.as_slice-2.ensures ∙ c.in_ok-types.ensures) c.in_ok-derived.ensures c.with_derived.ensures in
    answer-whole c.args.tree.now c.args.program c.requires.named c.with_derived.result done

pub returns-clause-well : goal.returns-clause-well
returns-clause-well c =
    let done : IfOk c.with_derived.result (IsCompleted c.args.tree.now c.args.program) =
    answer-completed c.args.tree.now c.args.program c.with_derived.result c.as_slice.result.now c.as_slice-2.result.now c.in_ok-derived.derived
    (c.as_slice.ensures ∙ c.in_ok-kinds.ensures) (c.as_slice-2.ensures ∙ c.in_ok-types.ensures) c.in_ok-derived.ensures c.with_derived.ensures in
    answer-well c.args.tree.now c.args.program c.requires.named c.with_derived.result done
