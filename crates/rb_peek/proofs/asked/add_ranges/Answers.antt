use Rattle.std.proofs.Common.{◌≡◌, [], ◌∷◌, ◌++◌, length, refl, sym, ap, ◌∙◌, append_assoc, arith}
use Rattle.rb_image.specs.Splits.{range_at, range_from, range_of, word_at}
use Rattle.rb_image.proofs.Blanks.{no_step}
use Rattle.rb_image.proofs.RangeLemmas.{range_more}
use Rattle.rb_peek.specs.Asked.{ranges_after}
use Rattle.rb_peek.proofs.AskedLemmas.{range_ended, range_stopped, ranges_end, ranges_more, ranges_stop}
use Rattle.rb_peek.proofs.asked.add_ranges.Goals as goal

pub loop-step-init : goal.loop-step-init
loop-step-init c =
    let m = c.args.memory.now in
    let loc = c.args.loc.now in
    let first = c.range_of-range.ensures ∙ ap (λ w. range_of w loc.o loc.l) c.word_at.ensures in
    record { range = sym (ap (λ r. range_from m r loc.steps) first); added = refl }

pub loop-step-preserved : goal.loop-step-preserved
loop-step-preserved c =
    let m = c.args.memory.now in
    let loc = c.args.loc.now in
    let items = c.as_slice-step-items.result.now in
    let i = c.loop-step.step-index in
    let range = c.loop-step.range in
    let is = sym c.step_over.ensures ∙ c.in-Ok.is in
    record {
      range = range_more m range loc.steps items i no_step c.as_slice-step-items.ensures c.loop-step-test.true (range_at m c.args.words.now loc) c.in-Ok.word c.range_of-range-in-Ok.result c.loop-step.invariant.range is
          c.range_of-range-in-Ok.ensures;
      added = ranges_more m range loc.steps items i no_step c.as_slice-step-items.ensures c.loop-step-test.true c.in-Ok.word c.range_of-range-in-Ok.result c.loop-step.found.items c.push-in-Ok.new.self.items _ c.loop-step.invariant.added is
          c.range_of-range-in-Ok.ensures c.in_ok-push-in-Ok.ensures.items;
    }

pub returns-in-Err-clause-range : goal.returns-in-Err-clause-range
returns-in-Err-clause-range c =
    let m = c.args.memory.now in
    let loc = c.args.loc.now in
    range_stopped m c.loop-step.range loc.steps c.as_slice-step-items.result.now c.loop-step.step-index no_step c.as_slice-step-items.ensures c.loop-step-test.true (range_at m c.args.words.now loc) c.in-Err.field-0
    c.loop-step.invariant.range (sym c.step_over.ensures ∙ c.in-Err.is)

pub returns-in-Err-clause-added : goal.returns-in-Err-clause-added
returns-in-Err-clause-added c =
    let m = c.args.memory.now in
    let loc = c.args.loc.now in
    let range = c.range_of-range.result in
    let items = c.as_slice-step-items.result.now in
    let first : range ≡ range_of (word_at c.args.words.now loc.word) loc.o loc.l = c.range_of-range.ensures ∙ ap (λ w. range_of w loc.o loc.l) c.word_at.ensures in
    let stop = ranges_stop m c.loop-step.range loc.steps items c.loop-step.step-index no_step c.in-Err.field-0 c.loop-step.found.items
    c.as_slice-step-items.ensures c.loop-step-test.true (sym (sym c.in-Err.is ∙ c.step_over.ensures)) in
    sym stop ∙ c.loop-step.invariant.added ∙ ap (λ xs. xs ++ ranges_after m range loc.steps) c.in_ok-push.ensures.items
    ∙ append_assoc c.args.found.now.items (range ∷ []) (ranges_after m range loc.steps) ∙ ap (λ r. c.args.found.now.items ++ r ∷ ranges_after m r loc.steps) first

pub returns-clause-range : goal.returns-clause-range
returns-clause-range c =
    let m = c.args.memory.now in
    let loc = c.args.loc.now in
    let long = ap length c.as_slice-step-items.ensures in
    let past = c.loop-step-test.false in
    range_ended m c.loop-step.range loc.steps c.loop-step.step-index (range_at m c.args.words.now loc) (omega (arith, long, past)) c.loop-step.invariant.range

pub returns-clause-added : goal.returns-clause-added
returns-clause-added c =
    let m = c.args.memory.now in
    let loc = c.args.loc.now in
    let range = c.range_of-range.result in
    let first : range ≡ range_of (word_at c.args.words.now loc.word) loc.o loc.l = c.range_of-range.ensures ∙ ap (λ w. range_of w loc.o loc.l) c.word_at.ensures in
    let long = ap length c.as_slice-step-items.ensures in
    let past = c.loop-step-test.false in
    sym (ranges_end m c.loop-step.range loc.steps c.loop-step.step-index c.loop-step.found.items (omega (arith, long, past)))
    ∙ c.loop-step.invariant.added ∙ ap (λ xs. xs ++ ranges_after m range loc.steps) c.in_ok-push.ensures.items
    ∙ append_assoc c.args.found.now.items (range ∷ []) (ranges_after m range loc.steps) ∙ ap (λ r. c.args.found.now.items ++ r ∷ ranges_after m r loc.steps) first
