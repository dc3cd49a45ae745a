use Rattle.std.proofs.Common.{◌≡◌, length, Some, sym, ap, ◌∙◌, arith}
use Rattle.std.proofs.lemmas.Option.{slice_get-get_or}
use Rattle.rb_fragment.proofs.Matches.{are_next, are_none}
use Rattle.rb_fetch.proofs.Meeting.{arms_next_made, arms_none_made, reached_next}
use Rattle.rb_fetch.proofs.construct.emit_arms.Goals as goal

pub loop-way-init : goal.loop-way-init
loop-way-init c = record {
  emits = rw (c.new-joins.ensures, c.new-starts.ensures) (arms_none_made c.args.ty c.args.leaves.now c.args.ways.now c.args.body.now);
  are = rw (c.new-joins.ensures, c.new-starts.ensures) (are_none c.args.body.now);
  reaches = tt;
}

pub loop-way-preserved : goal.loop-way-preserved
loop-way-preserved c =
    let i = c.loop-way.way-index in
    let item = slice_get-get_or c.args.ways.now i c.way-item.result c.loop-way-test.true ∙ ap Some (sym c.way-item.is) in
    let inv = c.loop-way.invariant in
    record {
      emits = rw (c.in_ok-push-2.ensures.ok, c.in_ok-push.ensures.ok, c.len.ensures.value)
          (arms_next_made c.args.ty c.args.leaves.now c.args.ways.now i c.args.body.now c.loop-way.body c.emit_arm.new.body c.loop-way.into c.loop-way.joins c.loop-way.starts c.way-item.result c.in_ok-met.met
          inv.emits inv.are inv.reaches c.in_ok-met.ensures.emits item c.in_ok-met.ensures.join);
      are = rw (c.in_ok-push-2.ensures.ok, c.in_ok-push.ensures.ok, c.len.ensures.value)
          (are_next i c.args.body.now c.loop-way.body c.emit_arm.new.body c.loop-way.joins c.loop-way.starts c.in_ok-met.met.join inv.are c.in_ok-met.ensures.grows c.in_ok-met.ensures.join);
      reaches = reached_next i c.in_ok-met.met.into;
    }

pub returns-clause-emits : goal.returns-clause-emits
returns-clause-emits c =
    let all : c.loop-way.way-index ≡ length c.args.ways.now = omega (arith, c.loop-way-test.false, c.loop-way.auto.way-index-end) in
    rw (← all) c.loop-way.invariant.emits

pub returns-clause-are : goal.returns-clause-are
returns-clause-are c =
    let all : c.loop-way.way-index ≡ length c.args.ways.now = omega (arith, c.loop-way-test.false, c.loop-way.auto.way-index-end) in
    rw (← all) c.loop-way.invariant.are
