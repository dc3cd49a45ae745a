use Rattle.std.proofs.Common.{◌≡◌, ◌+◌, false, sym, arith}
use Rattle.rb_core.specs.declared.value.Value.TheOpen as V
use Rattle.rb_matrix.specs.Heads.{any_begins}
use Rattle.rb_decide.proofs.Covering.{not-below}
use Rattle.rb_decide.proofs.signature.has_numbers.Goals as goal

pub returns-then-not-is_known : goal.returns-then-not-is_known
returns-then-not-is_known c =
    let missing : any_begins c.args.heads.now (V.Num c.loop-most.number) ≡ false = grind (arith, c.is_known.ensures, c.if-not-is_known.true) in
    let within = c.loop-most.invariant.within in
    sym (not-below (c.args.most + 1) (λ n. any_begins c.args.heads.now (V.Num n)) c.loop-most.number missing (omega (arith, within)))
