use Rattle.std.proofs.Common.{◌≡◌, ◌-◌, length, sym, arith}
use Rattle.std.proofs.lemmas.Result.{err_from_is_err_and}
use Rattle.rb_read.proofs.Loops.{tokens-rest, ends-part, ends-close, goes_on, is_done, no_turn}
use Rattle.rb_read.proofs.list.read_some_closed.Goals as goal

pub returns-in_err-part : goal.returns-in_err-part
returns-in_err-part g c part reads =
    let p = err_from_is_err_and c.from_residual.result c.from_residual.ensures.1 in
    rw (p.1, p.2) (ends-part part _ _ _ _ _ _ _ c.loop-turn-test.true (c.loop-turn.invariant part reads) _ (reads _ _ c.in_err-part.ensures))

pub returns-in_err-behind : goal.returns-in_err-behind
returns-in_err-behind g c part reads =
    let p = err_from_is_err_and c.from_residual-in_err-behind.result c.from_residual-in_err-behind.ensures.1 in
    rw (p.1, p.2) (ends-close part _ _ _ _ _ _ _ c.loop-turn-test.true (c.loop-turn.invariant part reads) _ _ _ (reads _ _ c.in_ok-part.ensures) (sym c.if-not-begins_with.ensures) c.in_err-behind.ensures)

pub returns-then-not-begins_with : goal.returns-then-not-begins_with
returns-then-not-begins_with g c part reads =
    rw c.in_ok-push.ensures.ok (is_done part _ _ _ _ _ _ _ c.loop-turn-test.true (c.loop-turn.invariant part reads) _ _ _ (reads _ _ c.in_ok-part.ensures) (sym c.if-not-begins_with.ensures) c.in_ok-behind.ensures)

pub loop-turn-preserved : goal.loop-turn-preserved
loop-turn-preserved g c part reads =
    rw (c.in_ok-push.ensures.ok, tokens-rest c.in_ok-part.behind.now)
    (goes_on part _ _ _ _ _ _ _ c.loop-turn-test.true (c.loop-turn.invariant part reads) _ _ (reads _ _ c.in_ok-part.ensures) (sym c.if-not-begins_with.ensures))

pub returns : goal.returns
returns g c part reads =
    let z : length c.args.placed.now - c.loop-turn._turn ≡ 0 = omega arith in
    no_turn part _ _ _ _ _ _ _ z (c.loop-turn.invariant part reads)
