use Rattle.std.proofs.Common.{◌≡◌, length, arith}
use Rattle.rb_compile.specs.Plans.{plan_of}
use Rattle.rb_compile.proofs.Whole.{item_is, more_compile}
use Rattle.rb_compile.proofs.programs.compile_all.Goals as goal

pub compile_fun-requires : goal.compile_fun-requires
compile_fun-requires c =
    let item = rw c.requires.same at (item_is c.args.funs.now c.loop-number.number c.index-funs-number.result c.loop-number-test.true c.index-funs-number.is) in
    c.requires.ready.each_fun c.loop-number.number c.index-funs-number.result item

pub loop-number-preserved : goal.loop-number-preserved
loop-number-preserved c =
    let item = rw c.requires.same at (item_is c.args.funs.now c.loop-number.number c.index-funs-number.result c.loop-number-test.true c.index-funs-number.is) in
    rw c.in_ok-push.ensures.ok (more_compile (plan_of c.args.agreed.now) c.loop-number.number c.loop-number.code c.index-funs-number.result c.in_ok-compiled.compiled c.loop-number.invariant item c.in_ok-compiled.ensures)

pub returns : goal.returns
returns c =
    let done : c.loop-number.number ≡ length c.args.funs.now = omega (arith, c.loop-number-test.false, c.loop-number.auto.number-end) in
    rw (← done) c.loop-number.invariant
