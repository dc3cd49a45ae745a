use Rattle.std.proofs.Common.{◌<◌, length, true, arith, ◌∙◌}
use Rattle.std.proofs.lemmas.Option.{slice_get_within}
use Rattle.std.proofs.Math.ListN.{length-set}
use Rattle.rb_core.specs.TypedPrograms.{HasValue}
use Rattle.rb_check.specs.inner.Emptiness.{IsNewlyLive, IsSettled}
use Rattle.rb_check.proofs.EmptinessLemmas.{unmarked_count-set, mark_of-set, live-has_value, found-first_empty}
use Rattle.rb_check.proofs.emptiness.first_empty.Goals as goal

pub loop-t-smaller : goal.loop-t-smaller
loop-t-smaller c =
    let live : IsNewlyLive c.args.types.now c.loop-t.marks.items c.in-Some.t = rw c.as_slice.ensures.value at c.in-Some.ensures in
    let within = slice_get_within c.args.types.now c.in-Some.t live.data_type live.there in
    let same = c.loop-t.invariant.same_length in
    let lt : c.in-Some.t < length c.loop-t.marks.items = omega arith in
    unmarked_count-set c.loop-t.marks.items c.in-Some.t lt live.unmarked

pub loop-t-preserved : goal.loop-t-preserved
loop-t-preserved c =
    let live : IsNewlyLive c.args.types.now c.loop-t.marks.items c.in-Some.t = rw c.as_slice.ensures.value at c.in-Some.ensures in
    record {
      same_length = length-set c.loop-t.marks.items c.in-Some.t true ∙ c.loop-t.invariant.same_length;
      sound = λ s. mark_of-set c.loop-t.marks.items c.in-Some.t s (HasValue c.args.types.now)
          (live-has_value c.args.types.now c.loop-t.marks.items c.loop-t.invariant.sound c.in-Some.t live.data_type live.there live.live)
          c.loop-t.invariant.sound;
    }

pub returns : goal.returns
returns c =
    let settled : IsSettled c.args.types.now c.loop-t.marks.items = rw c.as_slice.ensures.value at c.in_default.ensures in
    found-first_empty c.args.types.now c.loop-t.marks.items settled c.first_unmarked.result c.loop-t.invariant.same_length c.loop-t.invariant.sound
    (rw c.as_slice-2.ensures.value at c.first_unmarked.ensures)
