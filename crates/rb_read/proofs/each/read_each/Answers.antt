use Rattle.std.proofs.Common.{◌≡◌, ◌-◌, length, sym, arith}
use Rattle.std.proofs.lemmas.Result.{err_from_is_err_and}
use Rattle.rb_read.proofs.EachLoops.{stops, ends-each, goes_over, no_more}
use Rattle.rb_read.proofs.each.read_each.Goals as goal

pub returns-then-not-begins : goal.returns-then-not-begins
returns-then-not-begins g c test part tests reads =
    stops test part _ _ _ _ _ c.loop-turn-test.true (c.loop-turn.invariant test part tests reads) (sym (tests _ _ c.if-not-begins.ensures))

pub returns-in_err-part : goal.returns-in_err-part
returns-in_err-part g c test part tests reads =
    let p = err_from_is_err_and c.from_residual.result c.from_residual.ensures.1 in
    rw (p.1, p.2) (ends-each test part _ _ _ _ _ c.loop-turn-test.true (c.loop-turn.invariant test part tests reads) _ (sym (tests _ _ c.if-not-begins.ensures)) (reads _ _ c.in_err-part.ensures))

pub loop-turn-preserved : goal.loop-turn-preserved
loop-turn-preserved g c test part tests reads =
    rw c.in_ok-push.ensures.ok
    (goes_over test part _ _ _ _ _ c.loop-turn-test.true (c.loop-turn.invariant test part tests reads) _ _ (sym (tests _ _ c.if-not-begins.ensures)) (reads _ _ c.in_ok-part.ensures))

pub returns : goal.returns
returns g c test part tests reads =
    let z : length c.args.placed.now - c.loop-turn._turn ≡ 0 = omega arith in
    no_more test part _ _ _ _ _ z (c.loop-turn.invariant test part tests reads)
