use Rattle.std.proofs.Common.{◌+◌, ◌-◌, ◌≤◌, ◌^◌, sym, arith}
use Rattle.std.proofs.Math.Pow.{pow_mono}
use Rattle.rb_layout.proofs.KnownBits.{bit_small, known-none, known-more, more_fits}
use Rattle.rb_layout.proofs.known.constant_bits.Goals as goal

pub returns-in-None : goal.returns-in-None
returns-in-None c = sym (known-none c.args.parts.now c.args.o c.args.l (c.loop-i.i - 1) (omega (arith, c.loop-i.auto.i)) (sym c.in-None.ensures))

pub overflow_add-number : goal.overflow_add-number
overflow_add-number c =
    let i = c.loop-i.i in let l = c.args.l in
    let small = bit_small c.args.parts.now (c.args.o + (i - 1)) c.in-Some.bit (sym c.in-Some.ensures) in
    let fits = more_fits l i c.in-Some.bit c.loop-i.number (omega arith) (omega arith) small c.loop-i.invariant.fits in
    let few : l - (i - 1) ≤ 64 = omega (arith, c.requires) in
    let most : 2 ^ (l - (i - 1)) ≤ 2 ^ 64 = pow_mono few in
    omega arith

pub loop-i-preserved : goal.loop-i-preserved
loop-i-preserved c =
    let i = c.loop-i.i in let l = c.args.l in
    let small = bit_small c.args.parts.now (c.args.o + (i - 1)) c.in-Some.bit (sym c.in-Some.ensures) in
    record {
      same = known-more c.args.parts.now c.args.o l i c.in-Some.bit c.loop-i.number (omega arith) (omega arith) c.loop-i.invariant.same (sym c.in-Some.ensures);
      fits = more_fits l i c.in-Some.bit c.loop-i.number (omega arith) (omega arith) small c.loop-i.invariant.fits;
    }
