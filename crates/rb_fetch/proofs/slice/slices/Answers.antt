use Rattle.std.proofs.Common.{◌≡◌, subst, arith}
use Rattle.rb_fetch.specs.inner.Fields.{Slices}
use Rattle.rb_fetch.proofs.Slices.{on_within, slices_more}
use Rattle.rb_fetch.proofs.slice.slices.Goals as goal

pub loop-i-preserved : goal.loop-i-preserved
loop-i-preserved c =
    let width = c.args.width in
    let path = c.args.path.now in
    let p = c.in-Some.spot.part.now in
    let i = c.loop-i.i in
    let wanted = c.in-Some.ensures.is_it in
    let before = c.loop-i-test.true in
    rw (c.in_ok-push.ensures.ok, c.share.ensures, c.min-len.ensures, c.saturating_sub.ensures, c.saturating_sub-skip.ensures, c.first_bit.ensures) (record {
      near = on_within width i path p wanted before;
      slices = λ narrow. slices_more width i path p wanted before narrow c.args.leaf.now c.args.words.now c.in_ok-span.span c.loop-i.shares c.in_ok-span.ensures (c.loop-i.invariant.slices narrow);
    })

pub returns : goal.returns
returns c narrow held =
    let all : c.loop-i.i ≡ c.args.width = omega (arith, c.loop-i-test.false, c.loop-i.invariant.near) in
    subst (λ n. Slices c.args.leaf.now c.args.words.now c.args.path.now n c.loop-i.shares) all (c.loop-i.invariant.slices narrow)
