use Rattle.std.proofs.Common.{sym, ap, ◌∙◌, List}
use Rattle.std.specs.Prelude.{slice_get}
use Rattle.std.proofs.lemmas.Option.{slice_get-get_or}
use Rattle.rb_core.specs.declared.layout_decl.Step.{Step}
use Rattle.rb_coding.proofs.SplitLemmas.{step_loads, small_load}
use Rattle.rb_coding.proofs.splits.read_loc.Goals as goal

pub overflow_mul-base : goal.overflow_mul-base
overflow_mul-base g c =
    let m = g.M.ByteMemory.memory c.args.memory.now in
    let r = c.requires.reads in
    let s = step_loads m c.args.loc.now.steps c.as_slice-step-items.result.now c.loop-step.step-index (record { align = 0; byte = 0; width = 0; o = 0; l = 0 }) c.loop-step.word c.loop-step.o c.loop-step.l r.0 c.take_from.result
    c.as_slice-step-items.ensures c.loop-step-test.true c.take_from.ensures (sym c.loop-step.invariant ∙ r.1.is_read) in
    small_load m c.requires.good _ _ _ s.0 s.1

pub load-requires-clause-width : goal.load-requires-clause-width
load-requires-clause-width g c =
    c.requires.reads.1.widths c.loop-step.step-index _
    (ap (λ (xs : List Step). slice_get xs c.loop-step.step-index) (sym c.as_slice-step-items.ensures)
    ∙ slice_get-get_or c.as_slice-step-items.result.now c.loop-step.step-index (record { align = 0; byte = 0; width = 0; o = 0; l = 0 }) c.loop-step-test.true)
