use Rattle.std.proofs.Common.{◌≡◌, ap, sym, ◌∙◌, ◌+◌, drop, get_or}
use Rattle.std.proofs.lemmas.Option.{slice_get-get_or}
use Rattle.rb_agree.specs.inner.Ways.{State, with_all_found}
use Rattle.rb_agree.proofs.Lists.{before-next, before-all}
use Rattle.rb_agree.proofs.Searching.{added-next}
use Rattle.rb_agree.proofs.cycles.follow.Goals as goal

pub loop-next-preserved : goal.loop-next-preserved
loop-next-preserved c = record {
  added =
      ap (λ (s : State). with_all_found c.args.way.now (drop (c.loop-next.next-index + 1) c.args.edges.now) s) c.in_ok-add.ensures
      ∙ sym (added-next c.args.way.now c.args.edges.now c.loop-next.next-index _ c.loop-next-test.true) ∙ c.loop-next.invariant.added;
  before = before-next (λ s. s ≡ c.args.start → ⊥) c.args.edges.now c.loop-next.next-index (get_or c.args.edges.now c.loop-next.next-index 0)
      (slice_get-get_or c.args.edges.now c.loop-next.next-index 0 c.loop-next-test.true) c.if-next-start.false c.loop-next.invariant.before;
}

pub returns-clause-leads : goal.returns-clause-leads
returns-clause-leads c = before-all (λ s. s ≡ c.args.start → ⊥) c.args.edges.now c.loop-next.next-index c.loop-next-test.false c.loop-next.invariant.before
