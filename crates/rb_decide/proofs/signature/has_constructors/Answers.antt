use Rattle.std.proofs.Common.{arith, ◌≡◌, [], false, sym}
use Rattle.rb_core.specs.declared.value.Value.TheOpen as V
use Rattle.rb_matrix.specs.Heads.{any_begins}
use Rattle.rb_decide.proofs.Covering.{not-below}
use Rattle.rb_decide.proofs.signature.has_constructors.Goals as goal

pub returns-then-not-is_known : goal.returns-then-not-is_known
returns-then-not-is_known c =
    let missing : any_begins c.args.heads.now (V.Con c.loop-k.k []) ≡ false = grind (arith, c.is_known.ensures, c.if-not-is_known.true) in
    sym (not-below c.args.count (λ k. any_begins c.args.heads.now (V.Con k [])) c.loop-k.k missing c.loop-k-test.true)
